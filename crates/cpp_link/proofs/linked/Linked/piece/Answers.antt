use Rattle.cpp_link.proofs.linked.Linked.piece.Goals as goal

pub returns-clause-there : goal.returns-clause-there
returns-clause-there c there = c.piece_of.ensures.there _ _ (c.part.ensures.there _ _ there)
