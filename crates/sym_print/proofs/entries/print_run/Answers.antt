use Rattle.sym_print.proofs.Basics.{◌≡◌, Err, Result, arith, ap, err_from_is_err_and, Refusal, TooLong, Sub}
use Rattle.sym_print.proofs.Stack.{cost_of_next}
use Rattle.sym_print.proofs.Noting.{Moves, text-moved, cost-moved, steps-moved, spare-moved, noted-moved, noted-same}
use Rattle.sym_print.proofs.Peak.{stack_within}
use Rattle.sym_print.proofs.Running.{moves-run, All-run, peak_of_run, run-too-dear}
use Rattle.sym_print.proofs.entries.print_run.Given as given
use Rattle.sym_print.proofs.entries.print_run.Goals as goal

-- the run's end takes the place of the item that begins the run
moved : (g : given.Over) → (c : goal.After-look g) → Moves (g.Y.Layout.unshared c.args.y.now) (g.Y.Layout.bytes_of c.args.y.now) c.args.stack.now.items c.open_run.new.stack.items c.args._text.now.items c.args._text.now.items
    c.args.meter.now.spent c.open_run.new.meter.spent c.args.meter.now.steps c.open_run.new.meter.steps
moved g c =
    moves-run (g.Y.Layout.unshared c.args.y.now) (g.Y.Layout.bytes_of c.args.y.now) (g.Y.Layout.may_come c.args.y.now) c.args.stack.now.items c.open_run.new.stack.items c.args.item c.args.run c.args._text.now.items
    c.args.meter.now.spent c.open_run.new.meter.spent c.args.meter.now.steps c.open_run.new.meter.steps c.requires.next c.requires.run c.in_ok-open_run.ensures.items c.in_ok-open_run.ensures.spent c.in_ok-open_run.ensures.steps

pub returns-clause-text : goal.returns-clause-text
returns-clause-text g c =
    text-moved (g.Y.Layout.unshared c.args.y.now) (g.Y.Layout.bytes_of c.args.y.now) c.args.stack.now.items c.open_run.new.stack.items c.args._text.now.items c.args._text.now.items
    c.args.meter.now.spent c.open_run.new.meter.spent c.args.meter.now.steps c.open_run.new.meter.steps (moved g c)

pub returns-clause-cost : goal.returns-clause-cost
returns-clause-cost g c =
    cost-moved (g.Y.Layout.unshared c.args.y.now) (g.Y.Layout.bytes_of c.args.y.now) c.args.stack.now.items c.open_run.new.stack.items c.args._text.now.items c.args._text.now.items
    c.args.meter.now.spent c.open_run.new.meter.spent c.args.meter.now.steps c.open_run.new.meter.steps (moved g c)

pub returns-clause-remaining : goal.returns-clause-remaining
returns-clause-remaining g c =
    steps-moved (g.Y.Layout.unshared c.args.y.now) (g.Y.Layout.bytes_of c.args.y.now) c.args.stack.now.items c.open_run.new.stack.items c.args._text.now.items c.args._text.now.items
    c.args.meter.now.spent c.open_run.new.meter.spent c.args.meter.now.steps c.open_run.new.meter.steps (moved g c)

pub returns-clause-steps_paid : goal.returns-clause-steps_paid
returns-clause-steps_paid g c =
    omega (
      arith,
      c.requires.steps_paid,
      spare-moved (g.Y.Layout.unshared c.args.y.now) (g.Y.Layout.bytes_of c.args.y.now) c.args.stack.now.items c.open_run.new.stack.items c.args._text.now.items c.args._text.now.items
          c.args.meter.now.spent c.open_run.new.meter.spent c.args.meter.now.steps c.open_run.new.meter.steps (moved g c),
    )

pub returns-clause-noted : goal.returns-clause-noted
returns-clause-noted g c =
    noted-same (g.Y.Layout.unshared c.args.y.now) (g.Y.Layout.bytes_of c.args.y.now) c.args.notes.now c.look.new.self c.open_run.new.stack.items c.args._text.now.items
    c.open_run.new.meter.spent c.open_run.new.meter.steps c.look.ensures.known c.look.ensures.begun
    (noted-moved (g.Y.Layout.unshared c.args.y.now) (g.Y.Layout.bytes_of c.args.y.now) c.args.notes.now c.args.stack.now.items c.open_run.new.stack.items c.args._text.now.items c.args._text.now.items
    c.args.meter.now.spent c.open_run.new.meter.spent c.args.meter.now.steps c.open_run.new.meter.steps (moved g c) c.requires.below c.requires.noted)

pub returns-clause-may_come : goal.returns-clause-may_come
returns-clause-may_come g c =
    All-run (g.Y.Layout.unshared c.args.y.now) (g.Y.Layout.bytes_of c.args.y.now) (g.Y.Layout.may_come c.args.y.now) c.args.stack.now.items c.open_run.new.stack.items c.args.item c.args.run
    c.requires.may_come c.requires.run c.in_ok-open_run.ensures.items

pub returns-clause-peak : goal.returns-clause-peak
returns-clause-peak g c =
    peak_of_run (g.Y.Layout.unshared c.args.y.now) (g.Y.Layout.bytes_of c.args.y.now) (g.Y.Layout.may_come c.args.y.now) c.args.stack.now.items c.open_run.new.stack.items c.args.item c.args.run
    c.requires.next c.requires.run c.in_ok-open_run.ensures.items

pub returns-clause-bounded : goal.returns-clause-bounded
returns-clause-bounded g c =
    omega (arith, c.open_run.ensures.grown.1, stack_within (g.Y.Layout.unshared c.args.y.now) (g.Y.Layout.bytes_of c.args.y.now) c.args.stack.now.items, c.args.stack.now.ok.0)

pub returns-in_err-open_run-clause-bounded : goal.returns-in_err-open_run-clause-bounded
returns-in_err-open_run-clause-bounded g c =
    omega (arith, c.open_run.ensures.grown.1, stack_within (g.Y.Layout.unshared c.args.y.now) (g.Y.Layout.bytes_of c.args.y.now) c.args.stack.now.items, c.args.stack.now.ok.0)

pub returns-in_err-open_run-clause-too_long : goal.returns-in_err-open_run-clause-too_long
returns-in_err-open_run-clause-too_long g c same =
    let p = err_from_is_err_and c.from_residual.result c.from_residual.ensures.1 in
    let was : c.in_err-open_run.field-0.0 ≡ TooLong = cc (p.1, p.2) in
    let refused : Refusal → Result (Unit {0}) Refusal = λ r. Err r in
    omega (
      arith,
      c.in_err-open_run.ensures.too_long (ap refused was),
      run-too-dear (g.Y.Layout.unshared c.args.y.now) (g.Y.Layout.bytes_of c.args.y.now) (g.Y.Layout.may_come c.args.y.now) c.args.item c.args.run c.requires.run,
      cost_of_next (g.Y.Layout.unshared c.args.y.now) (g.Y.Layout.bytes_of c.args.y.now) c.args.stack.now.items (Sub c.args.item) c.requires.next,
    )
