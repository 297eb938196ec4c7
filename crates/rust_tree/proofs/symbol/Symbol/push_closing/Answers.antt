use Rattle.rust_tree.proofs.Basics.{ap, sym, ◌∙◌, slice_get, closing_tuple, types_in, type_in, types_of, trees_of}
use Rattle.rust_tree.proofs.Showing.{text-changed, closing-more}
use Rattle.rust_tree.proofs.symbol.Symbol.push_closing.Goals as goal

pub returns-in-None-clause-shows : goal.returns-in-None-clause-shows
unfolding types_of
returns-in-None-clause-shows g c below so_far shows =
    text-changed c.args.self.now _ so_far _ _ (sym (ap (λ t. closing_tuple (types_in t)) c.in-None.ensures.tree)) (c.push_text.ensures.shows _ _ shows)

pub returns-in-More-clause-shows : goal.returns-in-More-clause-shows
unfolding types_of
returns-in-More-clause-shows g c below so_far shows =
    text-changed c.args.self.now _ so_far _ _ (closing-more c.any_types.result (type_in (slice_get (trees_of c.args.self.now) c.in-More.first)) (types_in (slice_get (trees_of c.args.self.now) c.in-More.rest)) c.any_types.ensures ∙ sym (ap (λ t. closing_tuple (types_in t)) c.in-More.ensures.tree)) (c.push_either.ensures.shows _ _ shows)
