use Rattle.cpp_tree.proofs.Basics.{ap, sym, ◌∙◌, over, fields_of}
use Rattle.cpp_tree.proofs.Trees.{not_again, erased_again}
use Rattle.cpp_tree.proofs.view.view_of.Goals as goal

pub view_of_own-requires : goal.view_of_own-requires
view_of_own-requires c = record { table = c.requires.table; own = not_again c.args.node c.in_default.not-Reargued; node = c.requires.node }

pub returns-in_default : goal.returns-in_default
returns-in_default c =
    let seen = c.view_of_own.ensures in
    record { fields = seen.fields; texts = seen.texts; parts = seen.parts; few = seen.few }

pub returns-in-Reargued-clause-fields : goal.returns-in-Reargued-clause-fields
returns-in-Reargued-clause-fields c = c.view_of_tree.ensures.fields ∙ ap fields_of (sym (erased_again (over c.args.symbol.now c.args.nodes.now) c.in-Reargued.tree c.in-Reargued.argument c.args.node c.in-Reargued.is))
