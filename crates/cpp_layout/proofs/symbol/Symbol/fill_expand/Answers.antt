use Rattle.cpp_layout.proofs.Basics.{le-ltb, lt-ltb, context_of, printed_tree}
use Rattle.cpp_layout.proofs.Functions.{expand-whole}
use Rattle.cpp_layout.proofs.Growing.{fills, starts}
use Rattle.cpp_layout.proofs.symbol.Symbol.fill_expand.Goals as goal

pub returns-clause-shows : goal.returns-clause-shows
returns-clause-shows g c = fills c.args.self.now c.args.ctx.detail _ _ _ (c.push_text_if.ensures.shows _ _ _ (c.push_item-2.ensures.shows _ _ (c.push_item.ensures.shows _ _ (c.push_next.ensures.shows _ _ (starts c.args.self.now c.args.ctx.detail _))))) (expand-whole (context_of c.args.ctx) (printed_tree c.args.self.now c.args.ctx c.args.pattern) c.args.at _ (λ h. lt-ltb 0 c.args.at h) (λ h. le-ltb 0 c.args.at h))
