use Rattle.cpp_layout.proofs.Basics.{arith, sym, ◌∙◌, context_of, printed_tree}
use Rattle.cpp_layout.proofs.Functions.{expansion-more, expansion-none, expansion-zero}
use Rattle.cpp_layout.proofs.Growing.{fills, starts}
use Rattle.cpp_term.specs.Items as items
use Rattle.cpp_layout.proofs.symbol.Symbol.fill_expansion.Goals as goal

pub returns-in-None-clause-shows : goal.returns-in-None-clause-shows
returns-in-None-clause-shows g c = fills c.args.self.now c.args.ctx.detail _ _ _ (c.push_item-in-None.ensures.shows _ _ (c.push_item.ensures.shows _ _ (c.push_text.ensures.shows _ _ _ (starts c.args.self.now c.args.ctx.detail _)))) (expansion-none (context_of c.args.ctx) (printed_tree c.args.self.now c.args.ctx c.args.pattern) (items.packs_of (context_of c.args.ctx) (printed_tree c.args.self.now c.args.ctx c.args.pattern)) (sym c.packs.ensures ∙ c.in-None.is))

pub returns-then-count-gt0-clause-shows : goal.returns-then-count-gt0-clause-shows
returns-then-count-gt0-clause-shows g c = fills c.args.self.now c.args.ctx.detail _ _ _ (c.push_item-then-count-gt0.ensures.shows _ _ (starts c.args.self.now c.args.ctx.detail _)) (expansion-more (context_of c.args.ctx) (printed_tree c.args.self.now c.args.ctx c.args.pattern) (items.packs_of (context_of c.args.ctx) (printed_tree c.args.self.now c.args.ctx c.args.pattern)) c.in-Some.count (omega (arith, c.if-count-gt0.true)) (sym c.packs.ensures ∙ c.in-Some.is))

pub returns-else-count-gt0-clause-shows : goal.returns-else-count-gt0-clause-shows
returns-else-count-gt0-clause-shows g c = fills c.args.self.now c.args.ctx.detail _ _ _ (starts c.args.self.now c.args.ctx.detail _) (expansion-zero (context_of c.args.ctx) (printed_tree c.args.self.now c.args.ctx c.args.pattern) (items.packs_of (context_of c.args.ctx) (printed_tree c.args.self.now c.args.ctx c.args.pattern)) c.in-Some.count (omega (arith, c.if-count-gt0.false)) (sym c.packs.ensures ∙ c.in-Some.is))
