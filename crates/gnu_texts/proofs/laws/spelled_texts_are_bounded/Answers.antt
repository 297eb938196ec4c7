use Rattle.gnu_texts.proofs.BoundLemmas.{bounded, double, no-shorter, reached}
use Rattle.gnu_texts.proofs.laws.spelled_texts_are_bounded.Goals as goal

pub returns-clause-no_shorter : goal.returns-clause-no_shorter
returns-clause-no_shorter c = no-shorter

pub returns-clause-bounded : goal.returns-clause-bounded
returns-clause-bounded c = bounded

pub returns-clause-reached : goal.returns-clause-reached
returns-clause-reached c = reached

pub returns-clause-double : goal.returns-clause-double
returns-clause-double c = double
