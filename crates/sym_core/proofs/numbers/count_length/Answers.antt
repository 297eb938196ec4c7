use Rattle.sym_core.proofs.Basics.{◌≡◌, ◌≤◌, ◌+◌, ◌-◌, inr, arith, get_or, true, sym, ◌∙◌, pow-le-pow_right, is_digit_of, is_decimal_digit, Length}
use Rattle.sym_core.proofs.Horner.{value_of-next, ten_more, decimal_small}
use Rattle.sym_core.proofs.Runs.{run_found, run_reached, run_more, stops_here}
use Rattle.sym_core.proofs.numbers.count_length.Goals as goal

pub overflow_mul-value : goal.overflow_mul-value
overflow_mul-value c =
    let i = c.loop-to.invariant in
    let few : c.loop-to.to - c.args.at ≤ 8 = omega (arith, c.loop-to-test.true, c.reach-stop.ensures.few, c.requires.few, i.low) in
    omega (arith, i.below, pow-le-pow_right {n = 10} (omega arith) {i = c.loop-to.to - c.args.at} {j = 8} few)

pub overflow_add-value : goal.overflow_add-value
overflow_add-value c =
    let i = c.loop-to.invariant in
    let few : c.loop-to.to - c.args.at ≤ 8 = omega (arith, c.loop-to-test.true, c.reach-stop.ensures.few, c.requires.few, i.low) in
    let digit = decimal_small (get_or c.args.s.now c.loop-to.to 0) (sym c.is_digit.ensures ∙ c.if-is_digit.true) in
    omega (arith, i.below, pow-le-pow_right {n = 10} (omega arith) {i = c.loop-to.to - c.args.at} {j = 8} few, c.from.ensures, digit)

pub loop-to-preserved : goal.loop-to-preserved
loop-to-preserved c =
    let i = c.loop-to.invariant in
    let last : is_decimal_digit (get_or c.args.s.now c.loop-to.to 0) ≡ true = sym c.is_digit.ensures ∙ c.if-is_digit.true in
    let digit = decimal_small (get_or c.args.s.now c.loop-to.to 0) last in
    record {
      low = omega (arith, i.low);
      high = omega (arith, c.loop-to-test.true);
      digits = run_more is_decimal_digit c.args.s.now c.args.at c.loop-to.to i.digits last;
      value = omega (arith, value_of-next Length c.args.s.now c.args.at c.loop-to.to i.low (omega (arith, c.loop-to-test.true, c.reach-stop.ensures.high)), i.value, c.from.ensures);
      below = ten_more c.loop-to.value c.from.result (c.loop-to.to - c.args.at) (c.loop-to.to + 1 - c.args.at) i.below (omega (arith, c.from.ensures, digit)) (omega (arith, i.low));
    }

pub returns-else-is_digit-clause-run : goal.returns-else-is_digit-clause-run
returns-else-is_digit-clause-run c =
    let i = c.loop-to.invariant in
    let r = c.reach-stop.ensures in
    run_found Length c.args.s.now c.args.at c.loop-to.to c.args.most i.low (omega (arith, i.high, r.high)) i.digits (omega (arith, i.high, r.few)) (inr (stops_here (is_digit_of Length) c.args.s.now c.loop-to.to (λ lt. sym c.is_digit.ensures ∙ c.if-is_digit.false)))

pub returns-after-loop-to-clause-run : goal.returns-after-loop-to-clause-run
returns-after-loop-to-clause-run c =
    let i = c.loop-to.invariant in
    let r = c.reach-stop.ensures in
    run_reached Length c.args.s.now c.args.at c.loop-to.to c.reach-stop.result c.args.most i.low i.high r.high i.digits r.few r.full (omega (arith, c.loop-to-test.false))
