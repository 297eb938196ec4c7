use Rattle.cpp_references.proofs.Basics.{sym, ◌∙◌, ap, refl, reargued, over, trees, tree_if_there, tree_under, placed-none}
use Rattle.cpp_references.proofs.again.opened.Goals as goal

pub returns-clause-tree : goal.returns-clause-tree
unfolding tree_under
returns-clause-tree c =
    let ts = trees (over c.args.symbol.now c.args.nodes.now) in
    sym (c.settled-settled.ensures.tree ∙ placed-none ts _ refl) ∙ ap (reargued (tree_if_there ts c.settled-settled.result.under)) c.node.ensures.tree
