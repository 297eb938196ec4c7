use Rattle.short_names.proofs.OperatorLaws.{map-breaks, ratio-breaks}
use Rattle.short_names.proofs.laws.operators_keep_neither.Goals as goal

pub returns-clause-full : goal.returns-clause-full
returns-clause-full c = ratio-breaks

pub returns-clause-short : goal.returns-clause-short
returns-clause-short c = map-breaks
