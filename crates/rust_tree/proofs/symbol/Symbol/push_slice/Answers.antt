use Rattle.rust_tree.proofs.symbol.Symbol.push_slice.Goals as goal

pub returns-clause-shows : goal.returns-clause-shows
returns-clause-shows g c below so_far shows is deep = c.push_text-2.ensures.shows _ _ (c.push_item.ensures.shows _ _ (c.push_text.ensures.shows _ _ shows) is deep)
