use Rattle.cpp_link.proofs.language.LinkedThreading.count.Goals as goal

pub returns : goal.returns
returns c = λ s. c.part_count.ensures
