use Rattle.sym_print.proofs.Basics.{◌≡◌, ◌-◌, Err, Result, length, take, refl, arith, ap, err_from_is_err_and, Refusal, TooLong, Meter, cost_of_stack, steps_of_stack}
use Rattle.sym_print.proofs.Stack.{text_of_write, cost_of_next, cost_of_text, steps_of_next, steps_of_text}
use Rattle.sym_print.proofs.Peak.{peak_of_left}
use Rattle.sym_print.proofs.entries.print_text.Given as given
use Rattle.sym_print.proofs.entries.print_text.Goals as goal

-- what is left on the stack
left : (g : given.Over) → (c : goal.After-pop g) → c.pop.new.self.items ≡ take (length c.args.stack.now.items - 1) c.args.stack.now.items
left g c = rw c.args.stack.now.ok.0 at c.pop.ensures.rest

pub returns-clause-text : goal.returns-clause-text
returns-clause-text g c =
    text_of_write (g.Y.Layout.unshared c.args.y.now) (g.Y.Layout.bytes_of c.args.y.now) c.args.stack.now.items c.pop.new.self.items c.args.next.now
    c.args.text.now.items c.write_text.new.text.items (g.Y.Layout.bytes_of c.args.y.now c.args.next.now) c.requires.next c.requires.is_text
    (left g c) refl c.in_ok-write_text.ensures.ok

pub returns-clause-cost : goal.returns-clause-cost
returns-clause-cost g c =
    let unshared = g.Y.Layout.unshared c.args.y.now in
    let bytes_of = g.Y.Layout.bytes_of c.args.y.now in
    omega (
      arith,
      c.in_ok-write_text.ensures.spent,
      cost_of_next unshared bytes_of c.args.stack.now.items c.args.next.now c.requires.next,
      cost_of_text unshared bytes_of c.args.next.now c.requires.is_text,
      ap (cost_of_stack unshared bytes_of) (left g c),
    )

pub returns-clause-remaining : goal.returns-clause-remaining
returns-clause-remaining g c =
    let unshared = g.Y.Layout.unshared c.args.y.now in
    let bytes_of = g.Y.Layout.bytes_of c.args.y.now in
    omega (
      arith,
      c.in_ok-write_text.ensures.steps,
      steps_of_next unshared bytes_of c.args.stack.now.items c.args.next.now c.requires.next,
      steps_of_text unshared bytes_of c.args.next.now c.requires.is_text,
      ap (steps_of_stack unshared bytes_of) (left g c),
    )

pub returns-in_err-write_text-clause-too_dear : goal.returns-in_err-write_text-clause-too_dear
returns-in_err-write_text-clause-too_dear g c same =
    let p = err_from_is_err_and c.from_residual.result c.from_residual.ensures.1 in
    let was : c.in_err-write_text.field-0.0 ≡ TooLong = cc (p.1, p.2) in
    let refused : Refusal → Result (Unit {0}) Refusal = λ r. Err r in
    let unshared = g.Y.Layout.unshared c.args.y.now in
    let bytes_of = g.Y.Layout.bytes_of c.args.y.now in
    omega (
      arith,
      c.in_err-write_text.ensures.too_long (ap refused was),
      cost_of_next unshared bytes_of c.args.stack.now.items c.args.next.now c.requires.next,
      cost_of_text unshared bytes_of c.args.next.now c.requires.is_text,
      ap (λ (m : Meter). m.spent) (c.in_err-write_text.ensures.err).1,
      ap (λ (m : Meter). m.limit) (c.in_err-write_text.ensures.err).1,
    )

pub returns-clause-peak : goal.returns-clause-peak
returns-clause-peak g c = peak_of_left (g.Y.Layout.unshared c.args.y.now) (g.Y.Layout.bytes_of c.args.y.now) c.args.stack.now.items c.pop.new.self.items c.args.next.now c.requires.next (left g c)

pub returns-in_err-write_text-clause-peak : goal.returns-in_err-write_text-clause-peak
returns-in_err-write_text-clause-peak g c = omega arith
