use Rattle.cpp_direct.proofs.ForAnswers.{arith, refl, sym, ◌∙◌, drop, length-drop, take_rest, normal-step, normal-other, normal-short}
use Rattle.cpp_direct.proofs.lists.normal.Goals as goal

pub zeros-init : goal.zeros-init
zeros-init c = (omega arith, refl)

pub overflow_add-at : goal.overflow_add-at
overflow_add-at c = omega (arith, c.zeros.invariant.0)

pub returns-then-digits-at-ne48 : goal.returns-then-digits-at-ne48
returns-then-digits-at-ne48 c =
    take_rest c.args.digits.now c.zeros.at ∙ sym (normal-other c.args.digits.now c.zeros.at c.zeros-test.true c.if-digits-at-ne48.true) ∙ c.zeros.invariant.1

pub zeros-preserved : goal.zeros-preserved
zeros-preserved c = (
  omega (arith, c.zeros-test.true),
  normal-step c.args.digits.now c.zeros.at c.zeros-test.true c.if-digits-at-ne48.false ∙ c.zeros.invariant.1,
)

pub slice_bounds-result-count-2 : goal.slice_bounds-result-count-2
slice_bounds-result-count-2 c = c.zeros.invariant.0

pub slice_bounds-result-start-2 : goal.slice_bounds-result-start-2
slice_bounds-result-start-2 c = c.zeros.invariant.0

pub returns : goal.returns
returns c =
    take_rest c.args.digits.now c.zeros.at
    ∙ sym (normal-short (drop c.zeros.at c.args.digits.now) (omega (arith, c.zeros-test.false, length-drop c.zeros.at c.args.digits.now))) ∙ c.zeros.invariant.1
