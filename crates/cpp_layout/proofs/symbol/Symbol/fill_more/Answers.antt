use Rattle.cpp_layout.proofs.Basics.{sym, ◌∙◌, context_of, printed_tree}
use Rattle.cpp_layout.proofs.Growing.{fills, more-empty, more-some, starts}
use Rattle.cpp_layout.proofs.symbol.Symbol.fill_more.Goals as goal

pub returns-then-prints_nothing-clause-shows : goal.returns-then-prints_nothing-clause-shows
returns-then-prints_nothing-clause-shows g c = fills c.args.self.now c.args.ctx.detail _ _ _ (c.push_list.ensures.shows _ _ (starts c.args.self.now c.args.ctx.detail _)) (more-empty (context_of c.args.ctx) (printed_tree c.args.self.now c.args.ctx c.args.first) (printed_tree c.args.self.now c.args.ctx c.args.rest) (sym c.prints_nothing.ensures ∙ c.if-prints_nothing.true))

pub returns-else-prints_nothing-clause-shows : goal.returns-else-prints_nothing-clause-shows
returns-else-prints_nothing-clause-shows g c = fills c.args.self.now c.args.ctx.detail _ _ _ (c.push_text.ensures.shows _ _ _ (c.push_item-else-prints_nothing.ensures.shows _ _ (c.push_item.ensures.shows _ _ (c.push_list-else-prints_nothing.ensures.shows _ _ (starts c.args.self.now c.args.ctx.detail _))))) (more-some (context_of c.args.ctx) (printed_tree c.args.self.now c.args.ctx c.args.first) (printed_tree c.args.self.now c.args.ctx c.args.rest) (sym c.prints_nothing.ensures ∙ c.if-prints_nothing.false))
