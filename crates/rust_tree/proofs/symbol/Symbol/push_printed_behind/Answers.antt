use Rattle.std.proofs.Common.{rules, sym, ◌∙◌}
use Rattle.rust_tree.proofs.Showing.{changed, named, unnamed}
use Rattle.rust_tree.proofs.symbol.Symbol.push_printed_behind.Goals as goal

pub returns-then-not-prints_nothing-clause-shows : goal.returns-then-not-prints_nothing-clause-shows
returns-then-not-prints_nothing-clause-shows g c below so_far shows within =
    let e = c.prints_nothing.ensures _ within in
    changed c.args.self.now _ _ _ (named _ _ so_far (sym e ∙ search rules)) (c.push_text.ensures.shows _ _ (c.push_printed.ensures.shows _ _ shows within))

pub returns-else-not-prints_nothing-clause-shows : goal.returns-else-not-prints_nothing-clause-shows
returns-else-not-prints_nothing-clause-shows g c below so_far shows within =
    let e = c.prints_nothing.ensures _ within in
    changed c.args.self.now _ _ _ (unnamed _ _ so_far (sym e ∙ search rules)) shows
