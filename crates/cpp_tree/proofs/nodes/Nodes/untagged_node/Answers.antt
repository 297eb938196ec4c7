use Rattle.cpp_tree.proofs.Basics.{ap, sym, ◌∙◌, Some, None, over, trees, untagged_is}
use Rattle.cpp_tree.proofs.Noting.{placed-below}
use Rattle.cpp_tree.proofs.Trees.{untagged_at, placed-alone}
use Rattle.cpp_tree.proofs.nodes.Nodes.untagged_node.Goals as goal

pub returns-in-Some : goal.returns-in-Some
unfolding untagged_is
returns-in-Some c =
    let y = over c.args.symbol.now c.args.self.now in
    let at = untagged_at y c.args.name (Some c.in-Some.inner) c.requires.table c.requires.name (ap (λ e. e.untagged) (sym c.entry.ensures) ∙ c.in-Some.is) in
    record { tree = at.0; below = placed-below y c.requires.table c.args.name _ c.in-Some.inner c.requires.name at.1 }

pub returns-in-None : goal.returns-in-None
unfolding untagged_is
returns-in-None c =
    let y = over c.args.symbol.now c.args.self.now in
    record {
      tree = placed-alone (trees y) c.args.name ∙ (untagged_at y c.args.name None c.requires.table c.requires.name (ap (λ e. e.untagged) (sym c.entry.ensures) ∙ c.in-None.is)).0;
      below = (c.requires.name, tt);
    }
