use Rattle.cpp_link.proofs.linked.Linked.prefix_candidate.Goals as goal

pub returns-clause-there : goal.returns-clause-there
returns-clause-there c = c.prefix_candidate.ensures.there _ c.requires.kept.1
