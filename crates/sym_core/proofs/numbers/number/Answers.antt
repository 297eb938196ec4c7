use Rattle.std.proofs.Common.{refl, sym, ◌∙◌, drop, ◌-◌}
use Rattle.sym_core.proofs.Fronts.{front_digits}
use Rattle.sym_core.proofs.Runs.{found_marked, broken_marked, found_bare, broken_bare}
use Rattle.sym_core.proofs.numbers.number.Goals as goal

pub returns-then-is_mark : goal.returns-then-is_mark
returns-then-is_mark c =
    let run = c.digits_end-end.ensures in
    let found = found_marked c.args.kind c.args.s.now c.args.at c.digits_end-end.result _ (sym c.has_mark.ensures ∙ c.if-has_mark.true) run.low run.run c.most_digits-most.ensures _ c.if-is_mark.ensures.yes in
    record { number = (refl, run.low, found); digits = front_digits c.args.kind (drop c.args.at c.args.s.now) (c.digits_end-end.result - c.args.at) found; within = run.high }

pub returns-else-is_mark : goal.returns-else-is_mark
returns-else-is_mark c =
    let run = c.digits_end-end.ensures in
    record {
      number = (run.low, broken_marked c.args.kind c.args.s.now c.args.at c.digits_end-end.result _ (sym c.has_mark.ensures ∙ c.if-has_mark.true) run.low run.run c.most_digits-most.ensures c.if-is_mark.ensures.no);
      digits = tt;
      within = run.high;
    }

pub returns-then-at-end : goal.returns-then-at-end
returns-then-at-end c =
    let run = c.digits_end-end.ensures in
    let found = found_bare c.args.kind c.args.s.now c.args.at c.digits_end-end.result _ (sym c.has_mark.ensures ∙ c.if-has_mark.false) c.if-at-end.true run.run c.most_digits-most.ensures in
    record { number = (refl, run.low, found); digits = front_digits c.args.kind (drop c.args.at c.args.s.now) (c.digits_end-end.result - c.args.at) found; within = run.high }

pub returns-else-at-end : goal.returns-else-at-end
returns-else-at-end c =
    let run = c.digits_end-end.ensures in
    record {
      number = (run.low, broken_bare c.args.kind c.args.s.now c.args.at c.digits_end-end.result _ (sym c.has_mark.ensures ∙ c.if-has_mark.false) c.if-at-end.false run.run c.most_digits-most.ensures);
      digits = tt;
      within = run.high;
    }
