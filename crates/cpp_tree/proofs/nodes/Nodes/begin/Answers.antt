use Rattle.std.proofs.Common.{rules}
use Rattle.cpp_tree.proofs.Pushed.{begun}
use Rattle.cpp_tree.proofs.nodes.Nodes.begin.Goals as goal

pub returns-clause-table : goal.returns-clause-table
returns-clause-table c s = begun _ _ s (search rules) (search rules)
