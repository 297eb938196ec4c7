use Rattle.cpp_tree.proofs.Basics.{sym, ◌∙◌, reargued_closed, open_reargued, over, trees, tree_at, tree_if_there, tree_under}
use Rattle.cpp_tree.proofs.nodes.Nodes.closed_node.Goals as goal

pub returns-clause-tree : goal.returns-clause-tree
unfolding tree_under
returns-clause-tree c =
    let ts = trees (over c.args.symbol.now c.args.self.now) in
    let given = tree_if_there ts c.args.tree.under in
    let t = tree_at ts c.args.tree.node in
    sym (reargued_closed given t (sym (open_reargued given t) ∙ c.requires.closed))
