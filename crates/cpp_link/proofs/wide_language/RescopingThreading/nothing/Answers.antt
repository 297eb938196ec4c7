use Rattle.cpp_link.proofs.Basics.{refl, cpp_wide, value_of}
use Rattle.cpp_link.proofs.wide_language.RescopingThreading.nothing.Goals as goal

pub returns-clause-stands : goal.returns-clause-stands
unfolding cpp_wide value_of
returns-clause-stands c s = (record { there = tt; is = refl }, tt)
