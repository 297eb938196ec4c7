use Rattle.std.proofs.Common.{sym, ◌∙◌}
use Rattle.cpp_layout.proofs.Growing.{fills, referred-not, referred-so, starts}
use Rattle.cpp_layout.proofs.symbol.Symbol.fill_reference.Goals as goal

pub returns-then-is_reference-clause-shows : goal.returns-then-is_reference-clause-shows
returns-then-is_reference-clause-shows g c = fills c.args.self.now c.args.ctx.detail _ _ _ (c.push_item.ensures.shows _ _ (starts c.args.self.now c.args.ctx.detail _)) (referred-so _ _ _ (sym c.is_reference.ensures ∙ c.if-is_reference.true))

pub returns-else-is_reference-clause-shows : goal.returns-else-is_reference-clause-shows
returns-else-is_reference-clause-shows g c = fills c.args.self.now c.args.ctx.detail _ _ _ c.fill_marked.ensures.shows (referred-not _ _ _ (sym c.is_reference.ensures ∙ c.if-is_reference.false))
