use Rattle.legacy_parts.proofs.Within.{spelling-within}
use Rattle.legacy_parts.proofs.laws.spelling_is_within.Goals as goal

pub returns : goal.returns
returns c = spelling-within
