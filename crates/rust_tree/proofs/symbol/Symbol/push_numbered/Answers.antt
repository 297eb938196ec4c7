use Rattle.std.proofs.Common.{◌∙◌}
use Rattle.rust_tree.proofs.Showing.{text-changed, early-lifetime, late-lifetime}
use Rattle.rust_tree.proofs.symbol.Symbol.push_numbered.Goals as goal

pub returns-then-number-lt26-clause-shows : goal.returns-then-number-lt26-clause-shows
returns-then-number-lt26-clause-shows g c below so_far shows =
    text-changed c.args.self.now _ so_far _ _ (early-lifetime c.args.number c.if-number-lt26.true) (c.push_own.ensures.shows _ _ shows)

pub returns-else-number-lt26-clause-shows : goal.returns-else-number-lt26-clause-shows
returns-else-number-lt26-clause-shows g c below so_far shows =
    text-changed c.args.self.now _ so_far _ _ (late-lifetime c.as_bytes.result.now c.args.number c.if-number-lt26.false (c.as_bytes.ensures.value ∙ c.format-digits.ensures.text)) (c.push_own-else-number-lt26.ensures.shows _ _ shows)
