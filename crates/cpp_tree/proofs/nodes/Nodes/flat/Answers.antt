use Rattle.cpp_tree.proofs.Basics.{refl, length, ◌∙◌, over, trees, tree_of}
use Rattle.cpp_tree.proofs.Trees.{flat-tree, flat-other, settled-other, again-below}
use Rattle.cpp_tree.proofs.nodes.Nodes.flat.Goals as goal

pub lone-requires-clause-argument : goal.lone-requires-clause-argument
lone-requires-clause-argument c =
    (again-below c.args.symbol.now (length c.args.self.now.thunks) (length c.args.self.now.nodes) c.in-Reargued.tree c.in-Reargued.argument c.args.node c.in-Reargued.is c.requires.below).1

pub returns-in-Reargued : goal.returns-in-Reargued
unfolding tree_of
returns-in-Reargued c =
    let ts = trees (over c.args.symbol.now c.args.self.now) in
    record {
      tree = c.lone.ensures.tree ∙ flat-tree c.args.symbol.now c.args.self.now.thunks ts c.in-Reargued.tree c.in-Reargued.argument c.args.node c.resolved-tree.result c.in-Reargued.is c.resolved-tree.ensures.tree;
      flat = c.resolved-tree.ensures.flat;
      settled = c.lone.ensures.lone;
      below = (c.resolved-tree.ensures.below.0, c.lone.ensures.below);
    }

pub returns-in_default : goal.returns-in_default
returns-in_default c = record {
  tree = refl;
  flat = flat-other c.args.self.now.nodes c.args.node c.in_default.not-Reargued;
  settled = settled-other (trees (over c.args.symbol.now c.args.self.now)) c.args.node c.in_default.not-Reargued;
  below = c.requires.below;
}
