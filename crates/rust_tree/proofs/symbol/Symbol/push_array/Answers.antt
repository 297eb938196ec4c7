use Rattle.rust_tree.proofs.symbol.Symbol.push_array.Goals as goal

pub returns-clause-shows : goal.returns-clause-shows
returns-clause-shows g c below so_far shows is deep counts far =
    c.push_text-3.ensures.shows _ _ (c.push_item-2.ensures.shows _ _ (c.push_text-2.ensures.shows _ _ (c.push_item.ensures.shows _ _ (c.push_text.ensures.shows _ _ shows) counts far)) is deep)
