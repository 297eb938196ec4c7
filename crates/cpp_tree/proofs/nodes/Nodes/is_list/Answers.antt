use Rattle.cpp_tree.proofs.Basics.{sym, ◌∙◌, over}
use Rattle.cpp_tree.proofs.Trees.{is_cell_list, is_no_list}
use Rattle.cpp_tree.proofs.nodes.Nodes.is_list.Goals as goal

pub returns-in-Cell : goal.returns-in-Cell
returns-in-Cell c =
    let place = c.resolved-place.ensures in
    is_cell_list (over c.args.symbol.now c.args.self.now) c.resolved-place.result _ c.in-Cell.first c.in-Cell.rest c.requires.table place.below.0 place.tree (sym c.node.ensures.is ∙ c.in-Cell.is)

pub returns-in_default : goal.returns-in_default
returns-in_default c =
    let place = c.resolved-place.ensures in
    is_no_list (over c.args.symbol.now c.args.self.now) c.resolved-place.result _ c.requires.table place.below.0 place.tree place.flat (λ first rest is. c.in_default.not-Cell first rest (c.node.ensures.is ∙ is))
