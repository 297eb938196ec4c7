use Rattle.symdemangle.proofs.symdemangle_texts_of.Goals as goal

pub returns : goal.returns
returns c = c.texts_of.ensures
