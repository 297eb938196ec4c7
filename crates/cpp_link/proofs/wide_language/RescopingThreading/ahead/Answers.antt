use Rattle.cpp_link.proofs.wide_language.RescopingThreading.ahead.Goals as goal

pub returns : goal.returns
returns c = λ s. c.parts_ahead.ensures
