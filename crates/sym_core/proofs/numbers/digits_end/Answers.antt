use Rattle.sym_core.proofs.Basics.{inr, arith, sym, ◌∙◌, is_digit_of}
use Rattle.sym_core.proofs.Runs.{run_found, run_reached, stops_here}
use Rattle.sym_core.proofs.numbers.digits_end.Goals as goal

pub returns-else-is_digit-clause-run : goal.returns-else-is_digit-clause-run
returns-else-is_digit-clause-run c =
    let i = c.loop-end.invariant in
    let r = c.reach-stop.ensures in
    run_found c.args.kind c.args.s.now c.args.at c.loop-end.end c.args.most i.low (omega (arith, i.high, r.high)) i.digits (omega (arith, i.high, r.few)) (inr (stops_here (is_digit_of c.args.kind) c.args.s.now c.loop-end.end (λ lt. sym c.is_digit.ensures ∙ c.if-is_digit.false)))

pub returns-after-loop-end-clause-run : goal.returns-after-loop-end-clause-run
returns-after-loop-end-clause-run c =
    let i = c.loop-end.invariant in
    let r = c.reach-stop.ensures in
    run_reached c.args.kind c.args.s.now c.args.at c.loop-end.end c.reach-stop.result c.args.most i.low i.high r.high i.digits r.few r.full (omega (arith, c.loop-end-test.false))
