use Rattle.cpp_layout.proofs.Basics.{ap, arith, ◌++◌, text_part}
use Rattle.cpp_layout.proofs.Functions.{part-none}
use Rattle.cpp_layout.proofs.Growing.{fills, part-text}
use Rattle.cpp_layout.proofs.symbol.Symbol.push_blanked.Goals as goal

pub returns-then-number-gt-BLANKED-clause-shows : goal.returns-then-number-gt-BLANKED-clause-shows
returns-then-number-gt-BLANKED-clause-shows g c d below others shows = fills c.args.self.now d _ _ _ (part-text c.args.self.now d _ _ others (c.push_text.ensures.shows d below others shows)) (ap (λ t. text_part t ++ others) (c.blanked_number-number.ensures.some (omega (arith, c.if-number-gt-BLANKED.true))).0)

pub returns-else-number-gt-BLANKED-clause-shows : goal.returns-else-number-gt-BLANKED-clause-shows
returns-else-number-gt-BLANKED-clause-shows g c d below others shows = fills c.args.self.now d _ _ _ shows (part-none _ others (c.blanked_number-number.ensures.none (omega (arith, c.if-number-gt-BLANKED.false))))
