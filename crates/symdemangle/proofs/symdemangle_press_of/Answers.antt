use Rattle.symdemangle.proofs.symdemangle_press_of.Goals as goal

pub returns : goal.returns
returns c = c.press_of.ensures
