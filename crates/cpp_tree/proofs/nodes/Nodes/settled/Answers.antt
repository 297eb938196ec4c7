use Rattle.cpp_tree.proofs.Basics.{sym, ◌∙◌, over, trees}
use Rattle.cpp_tree.proofs.Trees.{placed-none, placed-some, over-some, there-below}
use Rattle.cpp_tree.proofs.nodes.Nodes.settled.Goals as goal

pub returns-in-None : goal.returns-in-None
returns-in-None c = record {
  tree = c.resolved-inner.ensures.tree ∙ sym (placed-none (trees (over c.args.symbol.now c.args.self.now)) c.args.tree c.in-None.is);
  flat = c.resolved-inner.ensures.flat;
  below = c.resolved-inner.ensures.below;
}

pub returns-in-Some : goal.returns-in-Some
returns-in-Some c =
    let ts = trees (over c.args.symbol.now c.args.self.now) in
    record {
      tree = over-some ts c.in-Some.argument c.resolved-inner.result _ c.resolved-inner.ensures.tree ∙ sym (placed-some ts c.args.tree c.in-Some.argument c.in-Some.is);
      flat = c.resolved-inner.ensures.flat;
      below = (c.resolved-inner.ensures.below.0, there-below _ c.args.tree.under c.in-Some.argument c.in-Some.is c.requires.tree.1);
    }
