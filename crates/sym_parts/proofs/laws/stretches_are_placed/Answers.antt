use Rattle.sym_parts.proofs.Placing.{placed}
use Rattle.sym_parts.proofs.laws.stretches_are_placed.Goals as goal

pub returns : goal.returns
returns c = λ m. placed m
