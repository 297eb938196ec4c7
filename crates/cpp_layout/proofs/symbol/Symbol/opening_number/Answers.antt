use Rattle.cpp_layout.proofs.Basics.{◌∙◌, ap, sym, reargued, printed_tree, type_shown, Context, mark_of, tree_of}
use Rattle.cpp_layout.proofs.Functions.{not-nil, opens-none, opens-object}
use Rattle.cpp_layout.proofs.symbol.Symbol.opening_number.Goals as goal

pub returns-in-Nil-clause-text : goal.returns-in-Nil-clause-text
unfolding tree_of reargued
returns-in-Nil-clause-text c =
    opens-none (mark_of c.args.mark) (type_shown c.args.self.now c.args.under c.args.parameters) (ap mark_of c.in-ExplicitObject.is)
    (sym (c.place-place.ensures.tree ∙ ap (λ (x : Context). printed_tree c.args.self.now x c.args.parameters) c.of_types.ensures) ∙ c.in-Nil.ensures.tree)

pub returns-in_default-clause-text : goal.returns-in_default-clause-text
returns-in_default-clause-text c =
    opens-object (mark_of c.args.mark) (type_shown c.args.self.now c.args.under c.args.parameters) (ap mark_of c.in-ExplicitObject.is)
    (not-nil _ _ _ _ c.stored.result c.stored.ensures.own _
    (sym (c.place-place.ensures.tree ∙ ap (λ (x : Context). printed_tree c.args.self.now x c.args.parameters) c.of_types.ensures) ∙ c.stored.ensures.tree) c.in_default.not-Nil)
