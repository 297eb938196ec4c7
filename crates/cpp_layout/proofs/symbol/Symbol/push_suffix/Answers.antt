use Rattle.cpp_layout.proofs.Basics.{ap, arith, sym, ◌++◌, ◌∙◌, ◌≡◌, fixed_text, SUFFIX, text_part}
use Rattle.cpp_layout.proofs.Functions.{part-none}
use Rattle.cpp_layout.proofs.Growing.{fills, part-text}
use Rattle.cpp_layout.proofs.symbol.Symbol.push_suffix.Goals as goal

pub returns-then-number-gt-SUFFIX-clause-shows : goal.returns-then-number-gt-SUFFIX-clause-shows
returns-then-number-gt-SUFFIX-clause-shows g c d below others shows = fills c.args.self.now d _ _ _ (part-text c.args.self.now d _ _ others (c.push_text.ensures.shows d below others shows)) (ap (λ t. text_part t ++ others) c.suffix_number-number.ensures.text)

pub returns-else-number-gt-SUFFIX-clause-shows : goal.returns-else-number-gt-SUFFIX-clause-shows
returns-else-number-gt-SUFFIX-clause-shows g c d below others shows = fills c.args.self.now d _ _ _ shows (part-none _ others (sym c.suffix_number-number.ensures.text ∙ ap fixed_text (let e : c.suffix_number-number.result ≡ SUFFIX = omega (arith, c.if-number-gt-SUFFIX.false, c.suffix_number-number.ensures.from) in e)))
