use Rattle.cpp_link.proofs.Basics.{sym, ◌∙◌, ne_eqb}
use Rattle.cpp_link.proofs.Digits.{no_zero, lone_zero}
use Rattle.cpp_link.proofs.numbers.is_zero.Goals as goal

pub returns-then-text-eq1 : goal.returns-then-text-eq1
returns-then-text-eq1 c = sym (lone_zero c.args.symbol.now c.args.text.from c.args.text.to c.if-text-eq1.true c.requires.1)

pub returns-else-text-eq1 : goal.returns-else-text-eq1
returns-else-text-eq1 c = ne_eqb _ 1 c.if-text-eq1.false ∙ sym (no_zero c.args.symbol.now c.args.text.from c.args.text.to c.if-text-eq1.false c.requires.1)

pub overflow_sub-text : goal.overflow_sub-text
overflow_sub-text c = c.requires.0
