use Rattle.symdemangle.proofs.symdemangle_parts_of.Goals as goal

pub returns : goal.returns
returns c = c.parts_of.ensures
