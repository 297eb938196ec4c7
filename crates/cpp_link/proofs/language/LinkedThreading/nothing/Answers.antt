use Rattle.cpp_link.proofs.Basics.{refl, cpp, value_of}
use Rattle.cpp_link.proofs.language.LinkedThreading.nothing.Goals as goal

pub returns-clause-stands : goal.returns-clause-stands
unfolding cpp value_of
returns-clause-stands c s = (record { there = tt; is = refl }, tt)
