use Rattle.sym_filter.specs.declared.kinds.Letters.TheVariants.{Any}
use Rattle.sym_filter.proofs.JoinLemmas.{filtered_by_joins}
use Rattle.sym_filter.proofs.laws.filtered_by_joins.Goals as goal

pub returns-clause-any : goal.returns-clause-any
returns-clause-any c = filtered_by_joins Any

pub returns-clause-each : goal.returns-clause-each
returns-clause-each c = filtered_by_joins
