use Rattle.cpp_layout.proofs.Growing.{fills, float-brain, float-sized, starts}
use Rattle.cpp_layout.proofs.symbol.Symbol.fill_float.Goals as goal

pub returns-then-end-eq98-clause-shows : goal.returns-then-end-eq98-clause-shows
returns-then-end-eq98-clause-shows g c = fills c.args.self.now c.args.ctx.detail _ _ _ (c.push_text.ensures.shows _ _ _ (starts c.args.self.now c.args.ctx.detail _)) (float-brain _ _ c.if-end-eq98.true)

pub returns-else-end-eq98-clause-shows : goal.returns-else-end-eq98-clause-shows
returns-else-end-eq98-clause-shows g c = fills c.args.self.now c.args.ctx.detail _ _ _ (c.push_text-else-end-eq98.ensures.shows _ _ _ (c.push_bytes.ensures.shows _ _ _ (c.push_text_if.ensures.shows _ _ _ (starts c.args.self.now c.args.ctx.detail _)))) (float-sized _ _ c.if-end-eq98.false)
