use Rattle.symdemangle.proofs.symdemangle_text_of.Goals as goal

pub returns : goal.returns
returns c = c.text_of.ensures
