use Rattle.sym_parts.proofs.PartBytes.{all-unprinted}
use Rattle.sym_parts.proofs.laws.unprinted_parts_are_last.Goals as goal

pub returns : goal.returns
returns c = λ end spans. all-unprinted end spans
