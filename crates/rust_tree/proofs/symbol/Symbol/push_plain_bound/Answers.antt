use Rattle.rust_tree.proofs.symbol.Symbol.push_plain_bound.Goals as goal

pub returns-clause-shows : goal.returns-clause-shows
returns-clause-shows g c below so_far shows is deep_path deep =
    c.push_path.ensures.shows _ _ (c.push_text-2.ensures.shows _ _ (c.push_bindings.ensures.shows _ _ (c.push_text.ensures.shows _ _ shows) deep)) is deep_path
