use Rattle.sym_parts.proofs.PartBytes.{parts-within}
use Rattle.sym_parts.proofs.laws.bytes_are_within.Goals as goal

pub returns : goal.returns
returns c = λ symbol s length stretches within. parts-within symbol s length stretches within
