use Rattle.sym_parts.proofs.Marks.{length-stretches_from}
use Rattle.sym_parts.proofs.laws.stretches_are_few.Goals as goal

pub returns : goal.returns
returns c = λ m. length-stretches_from 0 m
