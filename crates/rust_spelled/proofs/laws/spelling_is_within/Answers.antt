use Rattle.rust_spelled.proofs.Within.{spelling-within}
use Rattle.rust_spelled.proofs.laws.spelling_is_within.Goals as goal

pub returns : goal.returns
returns c = spelling-within
