use Rattle.std.proofs.Common.{arith, ap, ◌∙◌, length, List, ℕ}
use Rattle.std.proofs.lemmas.Fmt.{decimal_nonempty}
use Rattle.rust_tree.proofs.Showing.{text-changed, decimal-text}
use Rattle.rust_tree.proofs.symbol.Symbol.push_decimal.Goals as goal

pub push_own-requires-clause-some : goal.push_own-requires-clause-some
push_own-requires-clause-some g c =
    omega (arith, c.as_bytes.ensures.len, ap (λ (xs : List ℕ). length xs) c.format-digits.ensures.text, decimal_nonempty c.args.number c.ranges.number.fits)

pub returns-clause-shows : goal.returns-clause-shows
returns-clause-shows g c below so_far shows =
    text-changed c.args.self.now _ so_far _ _ (decimal-text c.as_bytes.result.now c.args.number (c.as_bytes.ensures.value ∙ c.format-digits.ensures.text)) (c.push_own.ensures.shows _ _ shows)
