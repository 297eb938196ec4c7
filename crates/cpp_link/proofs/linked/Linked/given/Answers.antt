use Rattle.cpp_link.proofs.linked.Linked.given.Goals as goal

pub returns-clause-there : goal.returns-clause-there
returns-clause-there c there = c.part.ensures.there _ _ there
