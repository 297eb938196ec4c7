use Rattle.cpp_link.proofs.linked.Linked.piece_in.Goals as goal

pub returns-clause-there : goal.returns-clause-there
returns-clause-there c = c.piece_of.ensures.there _ _ c.requires.there
