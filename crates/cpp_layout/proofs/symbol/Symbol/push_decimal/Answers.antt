use Rattle.cpp_layout.proofs.Basics.{List, ap, arith, length, rules, ℕ, ◌∙◌, ◌∷◌, text}
use Rattle.std.proofs.lemmas.Fmt.{decimal_nonempty}
use Rattle.cpp_layout.proofs.Growing.{fills, own-pushed}
use Rattle.cpp_layout.proofs.symbol.Symbol.push_decimal.Goals as goal

pub returns-clause-shows : goal.returns-clause-shows
returns-clause-shows g c d below others shows = fills c.args.self.now d _ _ _ (own-pushed c.args.self.now d _ _ c.own.result _ others c.push_part.ensures.held c.own.ensures (omega (arith, c.as_bytes.ensures.len, ap (λ (xs : List ℕ). length xs) c.format-digits.ensures.text, decimal_nonempty c.args.number c.ranges.number.fits)) (search rules) shows)
    (ap (λ t. text t ∷ others) (c.as_bytes.ensures.value ∙ c.format-digits.ensures.text))
