use Rattle.cpp_layout.proofs.Basics.{ap, sym, ◌∙◌, context_of, is_plain_integer, tree_of, reargued}
use Rattle.cpp_layout.proofs.Growing.{fills}
use Rattle.cpp_layout.proofs.Typing.{integer-cast, integer-plain, other-plain}
use Rattle.cpp_layout.proofs.symbol.Symbol.fill_integer.Goals as goal

pub returns-then-is_plain-clause-shows : goal.returns-then-is_plain-clause-shows
unfolding tree_of reargued
returns-then-is_plain-clause-shows g c =
    fills c.args.self.now c.args.ctx.detail _ _ _ c.fill_plain_integer.ensures.shows
    (integer-plain (context_of c.args.ctx) c.in-Builtin.letter _ _ (sym c.place-place.ensures.tree ∙ c.in-Builtin.ensures.tree) (sym c.is_plain.ensures ∙ c.if-is_plain.true))

pub returns-else-is_plain-clause-shows : goal.returns-else-is_plain-clause-shows
unfolding tree_of reargued
returns-else-is_plain-clause-shows g c =
    fills c.args.self.now c.args.ctx.detail _ _ _ c.fill_cast_integer.ensures.shows
    (integer-cast (context_of c.args.ctx) _ _ (ap is_plain_integer (sym c.place-place.ensures.tree ∙ c.in-Builtin.ensures.tree) ∙ sym c.is_plain.ensures ∙ c.if-is_plain.false))

pub returns-in_default-clause-shows : goal.returns-in_default-clause-shows
returns-in_default-clause-shows g c =
    fills c.args.self.now c.args.ctx.detail _ _ _ c.fill_cast_integer-in_default.ensures.shows
    (integer-cast (context_of c.args.ctx) _ _ (other-plain _ _ _ _ c.stored.result c.stored.ensures.own _ (sym c.place-place.ensures.tree ∙ c.stored.ensures.tree) c.in_default.not-Builtin))
