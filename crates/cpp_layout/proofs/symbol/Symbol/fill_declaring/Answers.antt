use Rattle.cpp_layout.proofs.Declaring.{declaring-whole}
use Rattle.cpp_layout.proofs.Growing.{starts, fills}
use Rattle.cpp_layout.proofs.symbol.Symbol.fill_declaring.Goals as goal

pub returns-clause-shows : goal.returns-clause-shows
returns-clause-shows g c = fills c.args.self.now c.args.ctx.detail _ _ _ (c.push_text-4.ensures.shows _ _ _ (c.push_item.ensures.shows _ _ (c.push_text-3.ensures.shows _ _ _ (c.push_list.ensures.shows _ _ (c.push_text-2.ensures.shows _ _ _ (c.push_decimal.ensures.shows _ _ _ (c.push_text.ensures.shows _ _ _ (starts c.args.self.now c.args.ctx.detail _)))))))) (declaring-whole _ _ _ _)
