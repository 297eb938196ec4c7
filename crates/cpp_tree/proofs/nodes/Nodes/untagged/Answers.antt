use Rattle.cpp_tree.proofs.Basics.{sym, ap, ◌∙◌, without_tags, over, trees, tree_at}
use Rattle.cpp_tree.proofs.Trees.{placed-none, placed-some, over-some, there-below, untagged-over}
use Rattle.cpp_tree.proofs.nodes.Nodes.untagged.Goals as goal

pub returns-in-None : goal.returns-in-None
returns-in-None c = record {
  tree = c.untagged_node-inner.ensures.tree ∙ ap without_tags (sym (placed-none (trees (over c.args.symbol.now c.args.self.now)) c.args.name c.in-None.is));
  below = c.untagged_node-inner.ensures.below;
}

pub returns-in-Some : goal.returns-in-Some
returns-in-Some c =
    let ts = trees (over c.args.symbol.now c.args.self.now) in
    record {
      tree = over-some ts c.in-Some.argument c.untagged_node-inner.result _ c.untagged_node-inner.ensures.tree ∙ untagged-over (tree_at ts c.in-Some.argument) (tree_at ts c.args.name.node) ∙ ap without_tags (sym (placed-some ts c.args.name c.in-Some.argument c.in-Some.is));
      below = (c.untagged_node-inner.ensures.below.0, there-below _ c.args.name.under c.in-Some.argument c.in-Some.is c.requires.name.1);
    }
