use Rattle.sym_print.proofs.Basics.{◌≡◌, Err, Result, arith, ap, err_from_is_err_and, Refusal, TooLong, Sub}
use Rattle.sym_print.proofs.Stack.{cost_of_next}
use Rattle.sym_print.proofs.Noting.{moves-parts, spare-moved, noted-moved}
use Rattle.sym_print.proofs.Peak.{stack_within}
use Rattle.sym_print.proofs.entries.print_item.Goals as goal

pub returns-clause-noted : goal.returns-clause-noted
returns-clause-noted g c =
    let moves = moves-parts (g.Y.Layout.unshared c.args.y.now) (g.Y.Layout.bytes_of c.args.y.now) (g.Y.Layout.may_come c.args.y.now) c.args.stack.now.items c.open_item.new.stack.items c.args.item c.args.text.now.items
    c.args.meter.now.spent c.open_item.new.meter.spent c.args.meter.now.steps c.open_item.new.meter.steps c.requires.next c.in_ok-open_item.ensures.parts c.in_ok-open_item.ensures.spent c.in_ok-open_item.ensures.steps in
    noted-moved (g.Y.Layout.unshared c.args.y.now) (g.Y.Layout.bytes_of c.args.y.now) c.args.notes.now c.args.stack.now.items c.open_item.new.stack.items c.args.text.now.items c.args.text.now.items
    c.args.meter.now.spent c.open_item.new.meter.spent c.args.meter.now.steps c.open_item.new.meter.steps moves c.requires.below c.requires.noted

pub returns-clause-steps_paid : goal.returns-clause-steps_paid
returns-clause-steps_paid g c =
    let moves = moves-parts (g.Y.Layout.unshared c.args.y.now) (g.Y.Layout.bytes_of c.args.y.now) (g.Y.Layout.may_come c.args.y.now) c.args.stack.now.items c.open_item.new.stack.items c.args.item c.args.text.now.items
    c.args.meter.now.spent c.open_item.new.meter.spent c.args.meter.now.steps c.open_item.new.meter.steps c.requires.next c.in_ok-open_item.ensures.parts c.in_ok-open_item.ensures.spent c.in_ok-open_item.ensures.steps in
    omega (
      arith,
      c.requires.steps_paid,
      spare-moved (g.Y.Layout.unshared c.args.y.now) (g.Y.Layout.bytes_of c.args.y.now) c.args.stack.now.items c.open_item.new.stack.items c.args.text.now.items c.args.text.now.items
          c.args.meter.now.spent c.open_item.new.meter.spent c.args.meter.now.steps c.open_item.new.meter.steps moves,
    )

pub returns-in_err-open_item-clause-too_long : goal.returns-in_err-open_item-clause-too_long
returns-in_err-open_item-clause-too_long g c same =
    let p = err_from_is_err_and c.from_residual.result c.from_residual.ensures.1 in
    let was : c.in_err-open_item.field-0.0 ≡ TooLong = cc (p.1, p.2) in
    let refused : Refusal → Result (Unit {0}) Refusal = λ r. Err r in
    omega (arith, c.in_err-open_item.ensures.too_long (ap refused was), cost_of_next (g.Y.Layout.unshared c.args.y.now) (g.Y.Layout.bytes_of c.args.y.now) c.args.stack.now.items (Sub c.args.item) c.requires.next)

pub returns-clause-peak : goal.returns-clause-peak
returns-clause-peak g c = c.open_item.ensures.peak

pub returns-in_err-open_item-clause-peak : goal.returns-in_err-open_item-clause-peak
returns-in_err-open_item-clause-peak g c = c.open_item.ensures.peak

pub returns-clause-bounded : goal.returns-clause-bounded
returns-clause-bounded g c =
    omega (arith, c.open_item.ensures.grown.1, stack_within (g.Y.Layout.unshared c.args.y.now) (g.Y.Layout.bytes_of c.args.y.now) c.args.stack.now.items, c.args.stack.now.ok.0)

pub returns-in_err-open_item-clause-bounded : goal.returns-in_err-open_item-clause-bounded
returns-in_err-open_item-clause-bounded g c =
    omega (arith, c.open_item.ensures.grown.1, stack_within (g.Y.Layout.unshared c.args.y.now) (g.Y.Layout.bytes_of c.args.y.now) c.args.stack.now.items, c.args.stack.now.ok.0)
