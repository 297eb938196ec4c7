use Rattle.rust_tree.proofs.symbol.Symbol.push_special.Goals as goal

pub returns-clause-shows : goal.returns-clause-shows
returns-clause-shows g c below so_far shows has =
    c.push_text-3.ensures.shows _ _ (c.push_namespace.ensures.shows _ _ (c.push_name_behind.ensures.shows _ _ (c.push_text-2.ensures.shows _ _ (c.push_decimal.ensures.shows _ _ (c.push_text.ensures.shows _ _ shows))) has))
