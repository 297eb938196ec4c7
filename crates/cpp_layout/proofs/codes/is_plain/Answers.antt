use Rattle.cpp_layout.proofs.Basics.{refl, arith, ne_eqb, is_plain_integer}
use Rattle.cpp_layout.proofs.codes.is_plain.Goals as goal

pub returns-in_default : goal.returns-in_default
unfolding is_plain_integer
returns-in_default c = rw (is_plain_integer, ne_eqb c.args.letter 105 (omega (arith, c.in_default)), ne_eqb c.args.letter 106 (omega (arith, c.in_default)), ne_eqb c.args.letter 108 (omega (arith, c.in_default)), ne_eqb c.args.letter 109 (omega (arith, c.in_default)), ne_eqb c.args.letter 120 (omega (arith, c.in_default)), ne_eqb c.args.letter 121 (omega (arith, c.in_default))) refl
