use Rattle.sym_filter.proofs.TriedLemmas.{decide, few}
use Rattle.sym_filter.proofs.laws.tries_decide.Goals as goal

pub returns-clause-decide : goal.returns-clause-decide
returns-clause-decide c = decide

pub returns-clause-few : goal.returns-clause-few
returns-clause-few c = few
