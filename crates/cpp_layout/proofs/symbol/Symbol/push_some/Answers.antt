use Rattle.cpp_layout.proofs.Basics.{ap, arith, ◌≡◌, ne_eqb, fixed_text, NONE}
use Rattle.cpp_layout.proofs.Coding.{some_text}
use Rattle.cpp_layout.proofs.Growing.{no-text}
use Rattle.cpp_layout.proofs.symbol.Symbol.push_some.Goals as goal

pub push_text-requires-clause-text : goal.push_text-requires-clause-text
push_text-requires-clause-text g c = some_text c.args.number c.requires.few (ne_eqb c.args.number NONE (omega (arith, c.if-number-ne-NONE.true)))

pub returns-else-number-ne-NONE-clause-shows : goal.returns-else-number-ne-NONE-clause-shows
returns-else-number-ne-NONE-clause-shows g c d below others shows = no-text c.args.self.now d _ (fixed_text c.args.number) others (ap fixed_text (let e : c.args.number ≡ NONE = omega (arith, c.if-number-ne-NONE.false) in e)) shows
