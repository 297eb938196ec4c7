use Rattle.std.proofs.Common.{sym}
use Rattle.rust_tree.proofs.Showing.{text-changed, if-true, if-false}
use Rattle.rust_tree.proofs.symbol.Symbol.push_open_angle.Goals as goal

pub returns-then-value-clause-shows : goal.returns-then-value-clause-shows
returns-then-value-clause-shows g c below so_far shows =
    text-changed c.args.self.now _ so_far _ _ (sym (if-true c.args.value _ _ c.if-value.true)) (c.push_text.ensures.shows _ _ shows)

pub returns-else-value-clause-shows : goal.returns-else-value-clause-shows
returns-else-value-clause-shows g c below so_far shows =
    text-changed c.args.self.now _ so_far _ _ (sym (if-false c.args.value _ _ c.if-value.false)) (c.push_text-else-value.ensures.shows _ _ shows)
