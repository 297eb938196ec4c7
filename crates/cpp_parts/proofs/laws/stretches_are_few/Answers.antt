use Rattle.cpp_parts.proofs.Basics.{arith, length-stretches_from, symbol_marked}
use Rattle.cpp_parts.proofs.Counts.{few-symbol}
use Rattle.cpp_parts.proofs.laws.stretches_are_few.Goals as goal

pub returns : goal.returns
returns c t printed = omega (arith, length-stretches_from 0 (symbol_marked t printed), few-symbol t printed)
