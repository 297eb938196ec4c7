use Rattle.std.proofs.Common.{◌∙◌}
use Rattle.cpp_tree.specs.Nodes.{tree_of}
use Rattle.cpp_link.proofs.Thunks.{thunk_is}
use Rattle.cpp_link.proofs.linked.Linked.thunk.Goals as goal

pub returns-clause-tree : goal.returns-clause-tree
unfolding tree_of
returns-clause-tree c =
    c.in_ok-number.ensures.tree
    ∙ thunk_is c.args.symbol.now c.args.self.now.nodes.thunks _ c.args.thunk _ c.args.encoding _ _ c.in_ok-index.ensures.thunks c.in_ok-index.ensures.number c.in_ok-index.ensures.trees
