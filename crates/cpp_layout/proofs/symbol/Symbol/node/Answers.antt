use Rattle.cpp_layout.proofs.Basics.{sym, table_of}
use Rattle.cpp_tree.specs.Views.{plain_tree}
use Rattle.cpp_tree.proofs.Rebuilding.{tree-made}
use Rattle.cpp_layout.proofs.symbol.Symbol.node.Goals as goal

pub returns-clause-tree : goal.returns-clause-tree
returns-clause-tree c = sym (tree-made (plain_tree (table_of c.args.self.now) c.args.node))
