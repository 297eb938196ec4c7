use Rattle.cpp_layout.proofs.Basics.{ap, sym, ◌∙◌, table_of, type_shown, function_full, function_bare, tree_at, trees, qualifiers_of, mark_of}
use Rattle.cpp_layout.proofs.Growing.{fills, starts}
use Rattle.cpp_layout.proofs.symbol.Symbol.fill_function.Goals as goal

pub returns-then-has_parameters-clause-shows : goal.returns-then-has_parameters-clause-shows
returns-then-has_parameters-clause-shows g c = fills c.args.self.now c.args.detail _ _ _ c.fill_signature.ensures.shows (ap (λ b. function_full b (tree_at (trees (table_of c.args.self.now)) c.args.name) (qualifiers_of c.args.qualifiers) (mark_of c.args.mark) (type_shown c.args.self.now c.args.under c.args.returned) (type_shown c.args.self.now c.args.under c.args.parameters)) (sym (sym c.has_parameters.ensures ∙ c.if-has_parameters.true)))

pub returns-else-has_parameters-clause-shows : goal.returns-else-has_parameters-clause-shows
unfolding function_full function_bare
returns-else-has_parameters-clause-shows g c = fills c.args.self.now c.args.detail _ _ _ (c.push_closed.ensures.shows _ _ (starts c.args.self.now c.args.detail _)) (ap (λ b. function_full b (tree_at (trees (table_of c.args.self.now)) c.args.name) (qualifiers_of c.args.qualifiers) (mark_of c.args.mark) (type_shown c.args.self.now c.args.under c.args.returned) (type_shown c.args.self.now c.args.under c.args.parameters)) (sym (sym c.has_parameters.ensures ∙ c.if-has_parameters.false)))
