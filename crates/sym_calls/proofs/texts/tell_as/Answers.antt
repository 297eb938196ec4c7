use Rattle.sym_calls.specs.Texts.{AreTold}
use Rattle.sym_calls.proofs.texts.tell_as.Goals as goal

pub returns-in-Whole-clause-told : goal.returns-in-Whole-clause-told
unfolding AreTold
returns-in-Whole-clause-told g c = rw (c.in-Whole.is) c.tell_each.ensures.told

pub returns-in-Short-clause-told : goal.returns-in-Short-clause-told
unfolding AreTold
returns-in-Short-clause-told g c = rw (c.in-Short.is) c.tell_each-in-Short.ensures.told
