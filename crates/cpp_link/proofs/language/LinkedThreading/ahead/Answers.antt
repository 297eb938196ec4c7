use Rattle.cpp_link.proofs.language.LinkedThreading.ahead.Goals as goal

pub returns : goal.returns
returns c = λ s. c.parts_ahead.ensures
