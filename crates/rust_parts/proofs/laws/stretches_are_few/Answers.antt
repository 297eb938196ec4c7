use Rattle.rust_parts.proofs.Basics.{arith, length-stretches_from, symbol_marked}
use Rattle.rust_parts.proofs.Counts.{few-symbol}
use Rattle.rust_parts.proofs.laws.stretches_are_few.Goals as goal

pub returns : goal.returns
returns c s printed = omega (arith, length-stretches_from 0 (symbol_marked s printed), few-symbol s printed)
