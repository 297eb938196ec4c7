use Rattle.cpp_layout.proofs.Basics.{sym, ◌∙◌, context_of, printed_tree, tree_of, reargued}
use Rattle.cpp_layout.proofs.Functions.{not-absent}
use Rattle.cpp_layout.proofs.Growing.{fills}
use Rattle.cpp_layout.proofs.Naming.{before-none, before-some}
use Rattle.cpp_layout.proofs.symbol.Symbol.push_before.Goals as goal

pub returns-in-Absent-clause-shows : goal.returns-in-Absent-clause-shows
unfolding tree_of reargued
returns-in-Absent-clause-shows g c below others shows =
    fills c.args.self.now c.args.ctx.detail _ _ _ shows (before-none (context_of c.args.ctx) (printed_tree c.args.self.now c.args.ctx c.args.prefix) others (sym c.place-place.ensures.tree ∙ c.in-Absent.ensures.tree))

pub returns-in_default-clause-shows : goal.returns-in_default-clause-shows
returns-in_default-clause-shows g c below others shows =
    fills c.args.self.now c.args.ctx.detail _ _ _ (c.push_prefix.ensures.shows _ _ (c.push_text.ensures.shows _ _ _ shows))
    (before-some (context_of c.args.ctx) (printed_tree c.args.self.now c.args.ctx c.args.prefix) others (not-absent _ _ _ _ c.stored.result c.stored.ensures.own _ (sym c.place-place.ensures.tree ∙ c.stored.ensures.tree) c.in_default.not-Absent))
