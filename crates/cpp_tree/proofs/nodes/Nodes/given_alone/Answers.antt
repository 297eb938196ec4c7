use Rattle.cpp_tree.proofs.Basics.{◌∙◌, over, trees, tree_at}
use Rattle.cpp_tree.proofs.Trees.{given_other, given_one}
use Rattle.cpp_tree.proofs.nodes.Nodes.given_alone.Goals as goal

pub returns-in-One-clause-tree : goal.returns-in-One-clause-tree
returns-in-One-clause-tree c = c.given_for.ensures.tree ∙ given_one (tree_at (trees (over c.args.symbol.now c.args.self.now)) c.args.given) c.args.free c.in-One.number c.in-One.is

pub returns-in_default-clause-tree : goal.returns-in_default-clause-tree
returns-in_default-clause-tree c = given_other (tree_at (trees (over c.args.symbol.now c.args.self.now)) c.args.given) c.args.free c.in_default.not-One
