use Rattle.cpp_tree.proofs.Basics.{ap, sym, over}
use Rattle.cpp_tree.proofs.Trees.{node_is}
use Rattle.cpp_tree.proofs.nodes.Nodes.node.Goals as goal

pub returns : goal.returns
returns c = let n = node_is (over c.args.symbol.now c.args.self.now) c.args.node c.entry.result.node c.requires.table c.requires.node (ap (λ e. e.node) (sym c.entry.ensures)) in record { is = ap (λ e. e.node) c.entry.ensures; tree = n.0; below = n.1 }
