use Rattle.cpp_tree.proofs.Rebuilding.{equal-trees, equal-views}
use Rattle.cpp_tree.proofs.laws.equal_trees_have_equal_views.Goals as goal

pub returns-clause-equal : goal.returns-clause-equal
returns-clause-equal c s t first second one other is also_is alike = equal-trees s t first second one other is also_is alike

pub returns-clause-alike : goal.returns-clause-alike
returns-clause-alike c s t first second one other is also_is same = equal-views s t first second one other is also_is same
