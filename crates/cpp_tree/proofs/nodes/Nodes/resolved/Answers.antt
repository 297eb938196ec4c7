use Rattle.cpp_tree.proofs.Basics.{sym, ◌∙◌, over, entry_at}
use Rattle.cpp_tree.proofs.Noting.{other-place, again-place, resolved-is}
use Rattle.cpp_tree.proofs.nodes.Nodes.resolved.Goals as goal

pub returns-in-Reargued : goal.returns-in-Reargued
returns-in-Reargued c =
    let y = over c.args.symbol.now c.args.self.now in
    let is = again-place c.args.node c.in-Reargued.tree c.in-Reargued.argument (entry_at c.args.self.now.nodes c.args.node).node (sym c.node.ensures.is ∙ c.in-Reargued.is) in
    let all = resolved-is y c.requires.table c.args.node _ c.requires.node is in
    record { is = is; tree = all.0; flat = all.1.0; below = all.1.1 }

pub returns-in_default : goal.returns-in_default
returns-in_default c =
    let y = over c.args.symbol.now c.args.self.now in
    let is = other-place c.args.node (entry_at c.args.self.now.nodes c.args.node).node (λ t a e. c.in_default.not-Reargued t a (c.node.ensures.is ∙ e)) in
    let all = resolved-is y c.requires.table c.args.node _ c.requires.node is in
    record { is = is; tree = all.0; flat = all.1.0; below = all.1.1 }
