use Rattle.cpp_tree.proofs.Basics.{ap, sym, ◌∙◌, erase, over, offsets_of}
use Rattle.cpp_tree.proofs.Trees.{not_again, erased_place, erased_again}
use Rattle.cpp_tree.proofs.view.offsets_of.Goals as goal

pub own_offsets_of-requires-in_default : goal.own_offsets_of-requires-in_default
own_offsets_of-requires-in_default c = record { table = c.requires.table; node = c.requires.node; own = not_again c.args.node c.in_default.not-Reargued }

pub returns-in-Reargued-clause-offsets : goal.returns-in-Reargued-clause-offsets
returns-in-Reargued-clause-offsets c =
    c.own_offsets_of.ensures.offsets
    ∙ ap offsets_of (ap erase (sym c.node.ensures.tree) ∙ erased_place (over c.args.symbol.now c.args.nodes.now) c.resolved-place.result _ c.resolved-place.ensures.tree ∙ sym (erased_again (over c.args.symbol.now c.args.nodes.now) c.in-Reargued.tree c.in-Reargued.argument c.args.node c.in-Reargued.is))
