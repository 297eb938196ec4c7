use Rattle.sym_parts.proofs.PartBytes.{parts-placed}
use Rattle.sym_parts.proofs.laws.parts_are_placed.Goals as goal

pub returns : goal.returns
returns c = λ s m. parts-placed s m
