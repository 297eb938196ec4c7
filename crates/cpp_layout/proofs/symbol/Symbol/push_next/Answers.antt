use Rattle.cpp_layout.proofs.Basics.{ap, sym, ◌+◌, ◌∙◌, is_below, context_of, printed_tree}
use Rattle.cpp_layout.proofs.Functions.{next-none, next-some}
use Rattle.cpp_layout.proofs.Growing.{fills}
use Rattle.cpp_layout.proofs.symbol.Symbol.push_next.Goals as goal

pub returns-then-has_next-clause-shows : goal.returns-then-has_next-clause-shows
returns-then-has_next-clause-shows g c below others shows = fills c.args.self.now c.args.ctx.detail _ _ _ (c.push_item.ensures.shows _ _ shows) (next-some (context_of c.args.ctx) (printed_tree c.args.self.now c.args.ctx c.args.pattern) (c.args.at + 1) others (ap (λ p. is_below (c.args.at + 1) p) (sym c.packs.ensures) ∙ sym c.has_next.ensures.is ∙ c.if-has_next.true))

pub returns-else-has_next-clause-shows : goal.returns-else-has_next-clause-shows
returns-else-has_next-clause-shows g c below others shows = fills c.args.self.now c.args.ctx.detail _ _ _ shows (next-none (context_of c.args.ctx) (printed_tree c.args.self.now c.args.ctx c.args.pattern) (c.args.at + 1) others (ap (λ p. is_below (c.args.at + 1) p) (sym c.packs.ensures) ∙ sym c.has_next.ensures.is ∙ c.if-has_next.false))
