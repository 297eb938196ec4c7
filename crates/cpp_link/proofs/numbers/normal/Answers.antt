use Rattle.cpp_link.proofs.Basics.{◌∙◌, sym, ap, arith, nat_eq, ne_eqb}
use Rattle.cpp_link.proofs.Digits.{passes_zero, stays_digits, stays_short}
use Rattle.cpp_link.proofs.numbers.normal.Goals as goal

pub returns-then-text-from-le1-clause-is : goal.returns-then-text-from-le1-clause-is
returns-then-text-from-le1-clause-is c = stays_short c.args.symbol.now c.zeros.from c.args.text.to c.if-text-from-le1.true c.requires.1 ∙ c.zeros.invariant.2

pub returns-then-symbol-from-ne48-clause-is : goal.returns-then-symbol-from-ne48-clause-is
returns-then-symbol-from-ne48-clause-is c =
    stays_digits c.args.symbol.now c.zeros.from c.args.text.to (omega (arith, c.if-text-from-le1.false)) c.requires.1 (ne_eqb _ 48 c.if-symbol-from-ne48.true) ∙ c.zeros.invariant.2

pub zeros-preserved : goal.zeros-preserved
zeros-preserved c = (
  omega (arith, c.zeros.invariant.0),
  omega (arith, c.if-text-from-le1.false),
  sym (passes_zero c.args.symbol.now c.zeros.from c.args.text.to c.if-text-from-le1.false c.requires.1 (ap (λ d. nat_eq d 48) c.if-symbol-from-ne48.false)) ∙ c.zeros.invariant.2,
)
