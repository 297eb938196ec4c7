use Rattle.cpp_layout.proofs.Basics.{sym, ◌∙◌, context_of, table_of, qualifiers_of, tree_of, trees, reargued}
use Rattle.cpp_layout.proofs.Growing.{fills, starts}
use Rattle.cpp_layout.proofs.Typing.{qualified-function-left, qualified-other-left}
use Rattle.cpp_layout.proofs.symbol.Symbol.fill_qualified_left.Goals as goal

pub returns-in-FunctionType-clause-shows : goal.returns-in-FunctionType-clause-shows
unfolding tree_of reargued
returns-in-FunctionType-clause-shows g c =
    fills c.args.self.now c.args.ctx.detail _ _ _ (c.push_item.ensures.shows _ _ (starts c.args.self.now c.args.ctx.detail _))
    (qualified-function-left (context_of c.args.ctx) (qualifiers_of c.args.qualifiers) _ _ _ _ _ _ (sym c.place-place.ensures.tree ∙ c.in-FunctionType.ensures.tree))

pub returns-in_default-clause-shows : goal.returns-in_default-clause-shows
returns-in_default-clause-shows g c =
    fills c.args.self.now c.args.ctx.detail _ _ _ (c.push_item-in_default.ensures.shows _ _ (c.push_qualifiers.ensures.shows _ _ (starts c.args.self.now c.args.ctx.detail _)))
    (qualified-other-left c.args.self.now.bytes c.args.self.now.table.thunks (trees (table_of c.args.self.now)) _ (context_of c.args.ctx) (qualifiers_of c.args.qualifiers) c.stored.result c.stored.ensures.own _ (sym c.place-place.ensures.tree ∙ c.stored.ensures.tree) c.in_default.not-FunctionType)
