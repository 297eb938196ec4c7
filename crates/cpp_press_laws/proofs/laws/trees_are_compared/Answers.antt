use Rattle.cpp_press_laws.proofs.Components.Sameness.{equal-tree, tree-itself}
use Rattle.cpp_press_laws.proofs.laws.trees_are_compared.Goals as goal

pub returns-clause-equal : goal.returns-clause-equal
returns-clause-equal c = equal-tree

pub returns-clause-itself : goal.returns-clause-itself
returns-clause-itself c = tree-itself
