use Rattle.rust_tree.proofs.Viewing.{constant-by}
use Rattle.rust_tree.proofs.view.view_of_constant.Goals as goal

pub returns-in-Integer-clause-seen : goal.returns-in-Integer-clause-seen
returns-in-Integer-clause-seen c s text all bare h = constant-by s text all bare _ c.args.constant _ c.in-Integer.is (rw c.one_if.ensures at c.view_of.ensures) h

pub returns-in-Boolean-clause-seen : goal.returns-in-Boolean-clause-seen
returns-in-Boolean-clause-seen c s text all bare h = constant-by s text all bare _ c.args.constant _ c.in-Boolean.is (rw c.one_if-in-Boolean.ensures at c.leaf.ensures) h

pub returns-in-Character-clause-seen : goal.returns-in-Character-clause-seen
returns-in-Character-clause-seen c s text all bare h = constant-by s text all bare _ c.args.constant _ c.in-Character.is c.leaf-in-Character.ensures h

pub returns-in-Placeholder-clause-seen : goal.returns-in-Placeholder-clause-seen
returns-in-Placeholder-clause-seen c s text all bare h = constant-by s text all bare _ c.args.constant _ c.in-Placeholder.is c.leaf-in-Placeholder.ensures h
