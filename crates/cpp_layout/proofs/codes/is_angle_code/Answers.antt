use Rattle.cpp_layout.proofs.Basics.{arith, ne_eqb}
use Rattle.cpp_layout.proofs.Naming.{angle-other, angle-left, angle-less}
use Rattle.cpp_layout.proofs.codes.is_angle_code.Goals as goal

pub returns-then-first-ne108 : goal.returns-then-first-ne108
returns-then-first-ne108 c = angle-other c.args.first c.args.second (ne_eqb c.args.first 108 (omega (arith, c.if-first-ne108.true)))

pub returns-then-second-eq115 : goal.returns-then-second-eq115
returns-then-second-eq115 c = angle-left c.args.first c.args.second (omega (arith, c.if-first-ne108.false)) (omega (arith, c.if-second-eq115.true))

pub returns : goal.returns
returns c = angle-less c.args.first c.args.second (omega (arith, c.if-first-ne108.false)) (ne_eqb c.args.second 115 (omega (arith, c.if-second-eq115.false)))
