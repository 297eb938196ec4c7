use Rattle.cpp_link.proofs.wide_language.RescopingThreading.count.Goals as goal

pub returns : goal.returns
returns c = λ s. c.part_count.ensures
