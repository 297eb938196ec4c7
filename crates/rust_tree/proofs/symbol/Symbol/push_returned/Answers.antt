use Rattle.std.proofs.Common.{rules}
use Rattle.rust_tree.proofs.Showing.{changed, returned-unit}
use Rattle.rust_tree.proofs.symbol.Symbol.push_returned.Goals as goal

pub returns-then-not-is_unit-clause-shows : goal.returns-then-not-is_unit-clause-shows
returns-then-not-is_unit-clause-shows g c below so_far shows deep =
    changed c.args.self.now _ _ _ (returned-unit _ _ so_far (search rules)) (c.push_text.ensures.shows _ _ (c.push_item.ensures.shows _ _ shows c.requires.ty deep))
