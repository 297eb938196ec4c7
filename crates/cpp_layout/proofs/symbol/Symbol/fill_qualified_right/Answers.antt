use Rattle.cpp_layout.proofs.Basics.{ap, sym, ◌∙◌, qualifier_text, function_right, context_of, table_of, printed_tree, mark_of, qualifiers_of, tree_of, trees, reargued}
use Rattle.cpp_layout.proofs.Functions.{qualified-function, qualified-other}
use Rattle.cpp_layout.proofs.Growing.{fills, starts, told-so}
use Rattle.cpp_layout.proofs.symbol.Symbol.fill_qualified_right.Goals as goal

pub returns-in-FunctionType-clause-shows : goal.returns-in-FunctionType-clause-shows
unfolding tree_of reargued
returns-in-FunctionType-clause-shows g c =
    let told = c.place-place.result.ctx in
    let said = c.place-place.ensures in
    let f = c.in-FunctionType in
    fills c.args.self.now c.args.ctx.detail _ _ _ (told-so c.args.self.now told.detail c.args.ctx.detail _ _ said.detail c.fill_function_right.ensures.shows)
    (ap (λ x. function_right x (qualifier_text (qualifiers_of c.args.qualifiers)) (mark_of f.mark) f.noexcept (printed_tree c.args.self.now told f.returned) (printed_tree c.args.self.now told f.parameters)) said.index
    ∙ qualified-function (context_of c.args.ctx) (qualifiers_of c.args.qualifiers) _ _ _ _ _ _ (sym said.tree ∙ f.ensures.tree))

pub returns-in_default-clause-shows : goal.returns-in_default-clause-shows
returns-in_default-clause-shows g c =
    fills c.args.self.now c.args.ctx.detail _ _ _ (c.push_item.ensures.shows _ _ (starts c.args.self.now c.args.ctx.detail _))
    (qualified-other c.args.self.now.bytes c.args.self.now.table.thunks (trees (table_of c.args.self.now)) _ (context_of c.args.ctx) (qualifiers_of c.args.qualifiers) c.stored.result c.stored.ensures.own _ (sym c.place-place.ensures.tree ∙ c.stored.ensures.tree) c.in_default.not-FunctionType)
