use Rattle.cpp_link.proofs.linked.Linked.extended.Goals as goal

pub returns-clause-there : goal.returns-clause-there
returns-clause-there c = c.with_piece.ensures.there _ _ _ c.requires.prefix c.requires.piece
