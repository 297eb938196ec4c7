use Rattle.cpp_tree.proofs.Basics.{sym, ◌∙◌, ap, refl, length_if_pack, over, trees}
use Rattle.cpp_tree.proofs.Trees.{pack_length_is, no_pack_length, placed-none}
use Rattle.cpp_tree.proofs.nodes.Nodes.length_if_pack.Goals as goal

pub returns-in-Pack : goal.returns-in-Pack
returns-in-Pack c =
    let y = over c.args.symbol.now c.args.self.now in
    pack_length_is y c.settled-settled.result c.in-Pack.elements _ c.requires.table c.settled-settled.ensures.below.0 (sym c.node.ensures.is ∙ c.in-Pack.is) (ap (λ e. e.count) c.entry.ensures)
    ∙ ap length_if_pack (c.settled-settled.ensures.tree ∙ placed-none (trees y) _ refl)

pub returns-in_default : goal.returns-in_default
returns-in_default c =
    let y = over c.args.symbol.now c.args.self.now in
    sym (no_pack_length y c.settled-settled.result c.requires.table c.settled-settled.ensures.below.0 c.settled-settled.ensures.flat (λ elements is. c.in_default.not-Pack elements (c.node.ensures.is ∙ is)))
    ∙ ap length_if_pack (c.settled-settled.ensures.tree ∙ placed-none (trees y) _ refl)
