use Rattle.rust_tree.proofs.Viewing.{symbol-by}
use Rattle.rust_tree.proofs.view.view_of_symbol.Goals as goal

pub returns-in-Some-clause-seen : goal.returns-in-Some-clause-seen
returns-in-Some-clause-seen c s text all bare h = symbol-by s text all bare _ c.args.whole _ c.in-Some.is c.view_of.ensures h

pub returns-in-None-clause-seen : goal.returns-in-None-clause-seen
returns-in-None-clause-seen c s text all bare h = symbol-by s text all bare _ c.args.whole _ c.in-None.is c.view_of-in-None.ensures h
