use Rattle.rust_tree.proofs.symbol.Symbol.push_as.Goals as goal

pub returns-clause-shows : goal.returns-clause-shows
returns-clause-shows g c below so_far shows is deep_type has deep_path =
    c.push_text-3.ensures.shows _ _ (c.push_item.ensures.shows _ _ (c.push_text-2.ensures.shows _ _ (c.push_path.ensures.shows _ _ (c.push_text.ensures.shows _ _ shows) has deep_path)) is deep_type)
