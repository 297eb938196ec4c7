use Rattle.sym_filter.specs.declared.kinds.Letters.TheVariants.{Any}
use Rattle.sym_filter.proofs.SplitLemmas.{filtered_by_splits}
use Rattle.sym_filter.proofs.laws.filtered_by_splits.Goals as goal

pub returns-clause-any : goal.returns-clause-any
returns-clause-any c = filtered_by_splits Any

pub returns-clause-each : goal.returns-clause-each
returns-clause-each c = filtered_by_splits
