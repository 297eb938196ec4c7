use Rattle.cpp_layout.proofs.Declaring.{argument-named, argument-shown}
use Rattle.cpp_layout.proofs.Growing.{fills, starts, told-so}
use Rattle.cpp_layout.proofs.Basics.{form_of, printed_tree, table_of, reargued, tree_at, tree_if_there, tree_of, trees}
use Rattle.cpp_layout.proofs.symbol.Symbol.fill_parameter.Goals as goal

pub returns-in-Declaring-clause-shows : goal.returns-in-Declaring-clause-shows
unfolding tree_of reargued
returns-in-Declaring-clause-shows g c =
    fills c.args.self.now c.args.ctx.detail _ _ _ c.fill_own_name.ensures.shows
    (argument-named (form_of c.args.form 0) c.args.number (tree_if_there (trees (table_of c.args.self.now)) c.place-own.result.ctx.argument) (tree_at (trees (table_of c.args.self.now)) c.in-Declaring.heads) (tree_at (trees (table_of c.args.self.now)) c.in-Declaring.parameters) _ _ _
    c.argument_of-place.ensures.tree c.place-own.ensures.tree c.in-Declaring.ensures.tree)

pub returns-in_default-clause-shows : goal.returns-in_default-clause-shows
returns-in_default-clause-shows g c =
    fills c.args.self.now c.args.ctx.detail _ _ _
    (told-so c.args.self.now c.argument_of-place.result.ctx.detail c.args.ctx.detail _ _ c.argument_of-place.ensures.detail (c.push_item.ensures.shows _ _ (starts c.args.self.now c.argument_of-place.result.ctx.detail _)))
    (argument-shown _ _ (trees (table_of c.args.self.now)) _ c.stored.result c.stored.ensures.own (printed_tree c.args.self.now c.place-own.result.ctx c.place-own.result.node) c.stored.ensures.tree
    c.args.form c.args.number c.argument_of-place.result.node c.argument_of-place.result.ctx _ c.requires.plain c.argument_of-place.ensures.tree c.place-own.ensures.tree c.argument_of-place.ensures.closed c.in_default.not-Declaring)
