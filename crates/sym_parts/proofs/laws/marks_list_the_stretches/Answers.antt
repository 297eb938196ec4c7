use Rattle.sym_parts.proofs.Turns.{stretches_at-marks_of}
use Rattle.sym_parts.proofs.laws.marks_list_the_stretches.Goals as goal

pub returns : goal.returns
returns c = λ m. stretches_at-marks_of 0 m
