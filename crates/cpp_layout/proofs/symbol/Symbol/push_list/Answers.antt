use Rattle.cpp_layout.proofs.Basics.{sym, ◌∙◌, reargued, context_of, form_of, table_of, printed_tree, tree_of, trees}
use Rattle.cpp_layout.proofs.Functions.{not-nil}
use Rattle.cpp_layout.proofs.Growing.{fills, list-here, list-none}
use Rattle.cpp_layout.proofs.symbol.Symbol.push_list.Goals as goal

pub returns-in-Nil-clause-shows : goal.returns-in-Nil-clause-shows
unfolding tree_of reargued
returns-in-Nil-clause-shows g c below others shows =
    fills c.args.self.now c.args.ctx.detail _ _ _ shows (list-none (form_of c.args.form 0) (context_of c.args.ctx) (printed_tree c.args.self.now c.args.ctx c.args.list) others (sym c.place-place.ensures.tree ∙ c.in-Nil.ensures.tree))

pub returns-in_default-clause-shows : goal.returns-in_default-clause-shows
returns-in_default-clause-shows g c below others shows =
    fills c.args.self.now c.args.ctx.detail _ _ _ (c.push_item.ensures.shows _ _ shows) (list-here (trees (table_of c.args.self.now)) c.args.list c.args.form c.args.ctx others c.requires.plain
    (not-nil _ _ _ _ c.stored.result c.stored.ensures.own _ (sym c.place-place.ensures.tree ∙ c.stored.ensures.tree) c.in_default.not-Nil))
