use Rattle.cpp_layout.proofs.Basics.{ap, arith, ◌≡◌, ne_eqb, fixed_text, NONE}
use Rattle.cpp_layout.proofs.Coding.{some_text}
use Rattle.cpp_layout.proofs.Functions.{part-none}
use Rattle.cpp_layout.proofs.Growing.{fills, part-text}
use Rattle.cpp_layout.proofs.Operating.{one-part}
use Rattle.cpp_layout.proofs.symbol.Symbol.push_own_text.Goals as goal

pub push_text-requires-clause-room : goal.push_text-requires-clause-room
push_text-requires-clause-room g c = omega (arith, c.requires.room, one-part (fixed_text c.args.number) (some_text c.args.number c.requires.few (ne_eqb c.args.number NONE (omega (arith, c.if-number-ne-NONE.true)))))

pub push_text-requires-clause-text : goal.push_text-requires-clause-text
push_text-requires-clause-text g c = some_text c.args.number c.requires.few (ne_eqb c.args.number NONE (omega (arith, c.if-number-ne-NONE.true)))

pub returns-then-number-ne-NONE-clause-shows : goal.returns-then-number-ne-NONE-clause-shows
returns-then-number-ne-NONE-clause-shows g c d below others shows = part-text c.args.self.now d _ (fixed_text c.args.number) others (c.push_text.ensures.shows d below others shows)

pub returns-then-number-ne-NONE-clause-room : goal.returns-then-number-ne-NONE-clause-room
returns-then-number-ne-NONE-clause-room g c = omega (arith, c.push_text.ensures.room, one-part (fixed_text c.args.number) (some_text c.args.number c.requires.few (ne_eqb c.args.number NONE (omega (arith, c.if-number-ne-NONE.true)))))

pub returns-else-number-ne-NONE-clause-shows : goal.returns-else-number-ne-NONE-clause-shows
returns-else-number-ne-NONE-clause-shows g c d below others shows = fills c.args.self.now d _ _ _ shows (part-none (fixed_text c.args.number) others (ap fixed_text (let e : c.args.number ≡ NONE = omega (arith, c.if-number-ne-NONE.false) in e)))
