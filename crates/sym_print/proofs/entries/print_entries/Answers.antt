use Rattle.sym_print.proofs.Basics.{◌≡◌, ◌-◌, ◌++◌, Err, Result, inl, inr, length, take, refl, arith, ap, ◌∙◌, rules, subst, All-same, All-take, err_from_is_err_and, Refusal, TooLong, Memory, Meter, IsNext, IsText, text_of_stack, cost_of_stack, steps_of_stack, EndsAt}
use Rattle.sym_print.proofs.Stack.{without_last, text_of_write, cost_of_next, cost_of_text, steps_of_next, steps_of_text}
use Rattle.sym_print.proofs.Noting.{spare-moved, noted-unmet, noted-moved, moves-text}
use Rattle.sym_print.proofs.Peak.{peak_of_left}
use Rattle.sym_print.proofs.entries.print_entries.Given as given
use Rattle.sym_print.proofs.entries.print_entries.Goals as goal

pub returns-in_err-write_text-in_default-next : goal.returns-in_err-write_text-in_default-next
returns-in_err-write_text-in_default-next g c =
    let unshared = g.Y.Layout.unshared c.args.y.now in
    let bytes_of = g.Y.Layout.bytes_of c.args.y.now in
    let stack = c.loop-next.stack.items in
    let part = c.in-Some.next.now in
    let same_spent : c.write_text.new.meter.spent ≡ c.loop-next.meter.spent = ap (λ (m : Meter). m.spent) c.in_err-write_text-in_default-next.ensures.err.1 in
    let same_steps : c.write_text.new.meter.steps ≡ c.loop-next.meter.steps = ap (λ (m : Meter). m.steps) c.in_err-write_text-in_default-next.ensures.err.1 in
    let p = err_from_is_err_and c.from_residual-in_err-write_text-in_default-next.result c.from_residual-in_err-write_text-in_default-next.ensures.1 in
    let refused : Refusal → Result (Unit {0}) Refusal = λ r. Err r in
    let is : (r : Refusal) → c.from_residual-in_err-write_text-in_default-next.result ≡ Err r → c.in_err-write_text-in_default-next.field-0.0 ≡ r = λ r same. cc (p.1, p.2, same) in
    let is_text : IsText part = search rules in
    let next : IsNext stack part = search rules in
    record {
      paid = c.write_text.ensures.paid;
      stack_paid = omega (arith, same_spent, c.loop-next.invariant.5);
      may_come = c.loop-next.invariant.0;
      text = ap (λ t. t ++ text_of_stack unshared bytes_of stack) c.in_err-write_text-in_default-next.ensures.err.0 ∙ c.loop-next.invariant.1;
      cost = omega (arith, same_spent, c.loop-next.invariant.2);
      steps = omega (arith, same_steps, c.loop-next.invariant.3);
      limit = omega (arith, c.write_text.ensures.limit, c.loop-next.invariant.6);
      entry_room = c.loop-next.invariant.7;
      own = rw (p.1, p.2) c.in_err-write_text-in_default-next.ensures.own;
      text_room = omega (arith, c.write_text.ensures.room, c.loop-next.invariant.8);
      peak = c.loop-next.invariant.10;
      bounded = c.loop-next.invariant.11;
      steps_paid = omega (arith, same_spent, same_steps, c.loop-next.invariant.12);
      done = rw p.1 tt;
      too_long = λ same. omega (
        arith,
        c.in_err-write_text-in_default-next.ensures.too_long (ap refused (is TooLong same)),
        cost_of_next unshared bytes_of stack part next,
        cost_of_text unshared bytes_of part is_text,
        c.loop-next.invariant.2,
        c.loop-next.invariant.6,
      );
      memory = λ same. inr (omega (
        arith,
        c.in_err-write_text-in_default-next.ensures.memory (ap refused (is Memory same)),
        c.in_err-write_text-in_default-next.ensures.affords (ap refused (is Memory same)),
        c.loop-next.invariant.4,
        c.loop-next.invariant.6,
        c.loop-next.invariant.8,
      ));
    }

pub returns-in_err-print_item-in-Sub : goal.returns-in_err-print_item-in-Sub
returns-in_err-print_item-in-Sub g c =
    let p = err_from_is_err_and c.from_residual.result c.from_residual.ensures.1 in
    let refused : Refusal → Result (Unit {0}) Refusal = λ r. Err r in
    let is : (r : Refusal) → c.from_residual.result ≡ Err r → c.in_err-print_item-in-Sub.field-0.0 ≡ r = λ r same. cc (p.1, p.2, same) in
    record {
      paid = c.print_item.ensures.paid;
      stack_paid = c.print_item.ensures.stack_paid;
      may_come = c.print_item.ensures.may_come;
      text = c.print_item.ensures.text ∙ c.loop-next.invariant.1;
      cost = omega (arith, c.print_item.ensures.cost, c.loop-next.invariant.2);
      steps = omega (arith, c.print_item.ensures.remaining, c.loop-next.invariant.3);
      limit = omega (arith, c.print_item.ensures.limit, c.loop-next.invariant.6);
      entry_room = omega (arith, c.print_item.ensures.entry_room, c.loop-next.invariant.7);
      own = rw (p.1, p.2) c.in_err-print_item-in-Sub.ensures.own;
      text_room = omega (arith, c.print_item.ensures.text_room, c.loop-next.invariant.8);
      peak = omega (arith, c.print_item.ensures.peak, c.loop-next.invariant.10);
      bounded = omega (arith, c.print_item.ensures.bounded, c.loop-next.invariant.10, c.loop-next.invariant.11);
      steps_paid = c.print_item.ensures.steps_paid;
      done = rw p.1 tt;
      too_long = λ same. omega (arith, c.in_err-print_item-in-Sub.ensures.too_long (ap refused (is TooLong same)), c.loop-next.invariant.2, c.loop-next.invariant.6);
      memory = λ same. elim (c.in_err-print_item-in-Sub.ensures.memory (ap refused (is Memory same))) [
        | inl h ↦ inl (omega (arith, h, c.loop-next.invariant.6, c.loop-next.invariant.7))
        | inr h ↦ inr (omega (arith, h, c.loop-next.invariant.6, c.loop-next.invariant.8))
      ];
    }

pub note_whole-requires-clause-whole : goal.note_whole-requires-clause-whole
note_whole-requires-clause-whole g c =
    subst (λ h. EndsAt h c.loop-next.notes.begun.items) (c.len.ensures ∙ c.loop-next.stack.ok.0) (c.is_whole.ensures.whole c.if-is_whole.true)

pub print_item-requires-clause-below : goal.print_item-requires-clause-below
print_item-requires-clause-below g c =
    noted-unmet (g.Y.Layout.unshared c.args.y.now) (g.Y.Layout.bytes_of c.args.y.now) c.loop-next.notes c.loop-next.stack.items c.loop-next.text.items c.loop-next.meter.spent c.loop-next.meter.steps
    c.len.result c.loop-next.invariant.9 (c.len.ensures ∙ c.loop-next.stack.ok.0) (c.is_whole.ensures.unmet c.if-is_whole.false)

-- what is left on the stack
left : (g : given.Over) → (c : goal.After-take_last g) → c.take_last.new.self.items ≡ take (length c.loop-next.stack.items - 1) c.loop-next.stack.items
left g c = without_last c.loop-next.stack.items c.take_last.new.self.items c.take_last.result c.take_last.ensures.items

pub loop-next-preserved : goal.loop-next-preserved
loop-next-preserved g c =
    let unshared = g.Y.Layout.unshared c.args.y.now in
    let bytes_of = g.Y.Layout.bytes_of c.args.y.now in
    let part = c.in-Some.next.now in
    let stack = c.loop-next.stack.items in
    let is_text : IsText c.in-Some.next.now = search rules in
    let next : IsNext c.loop-next.stack.items c.in-Some.next.now = search rules in
    let moves =
    moves-text unshared bytes_of stack c.take_last.new.self.items part c.loop-next.text.items c.write_text.new.text.items
    c.loop-next.meter.spent c.write_text.new.meter.spent c.loop-next.meter.steps c.write_text.new.meter.steps next is_text (left g c)
    c.in_ok-write_text-in_default-next.ensures.ok c.in_ok-write_text-in_default-next.ensures.spent c.in_ok-write_text-in_default-next.ensures.steps c.write_text.ensures.some in (
      All-same (g.Y.Layout.may_come c.args.y.now) _ _ (left g c) (All-take (g.Y.Layout.may_come c.args.y.now) (length stack - 1) stack c.loop-next.invariant.0),
      text_of_write unshared bytes_of stack c.take_last.new.self.items part c.loop-next.text.items c.write_text.new.text.items (bytes_of part) next is_text (left g c) refl c.in_ok-write_text-in_default-next.ensures.ok
          ∙ c.loop-next.invariant.1,
      omega (
        arith,
        c.in_ok-write_text-in_default-next.ensures.spent,
        cost_of_next unshared bytes_of stack part next,
        cost_of_text unshared bytes_of part is_text,
        ap (cost_of_stack unshared bytes_of) (left g c),
        c.loop-next.invariant.2,
      ),
      omega (
        arith,
        c.in_ok-write_text-in_default-next.ensures.steps,
        steps_of_next unshared bytes_of stack part next,
        steps_of_text unshared bytes_of part is_text,
        ap (steps_of_stack unshared bytes_of) (left g c),
        c.loop-next.invariant.3,
      ),
      c.write_text.ensures.paid,
      omega (arith, c.in_ok-write_text-in_default-next.ensures.spent, c.take_last.ensures.len, c.loop-next.invariant.5),
      omega (arith, c.write_text.ensures.limit, c.loop-next.invariant.6),
      omega (arith, c.take_last.ensures.capacity, c.loop-next.invariant.7),
      omega (arith, c.write_text.ensures.room, c.loop-next.invariant.8),
      noted-moved unshared bytes_of c.loop-next.notes stack c.take_last.new.self.items c.loop-next.text.items c.write_text.new.text.items
          c.loop-next.meter.spent c.write_text.new.meter.spent c.loop-next.meter.steps c.write_text.new.meter.steps moves
          (noted-unmet (g.Y.Layout.unshared c.args.y.now) (g.Y.Layout.bytes_of c.args.y.now) c.loop-next.notes c.loop-next.stack.items c.loop-next.text.items c.loop-next.meter.spent c.loop-next.meter.steps
          c.len.result c.loop-next.invariant.9 (c.len.ensures ∙ c.loop-next.stack.ok.0) (c.is_whole.ensures.unmet c.if-is_whole.false)) c.loop-next.invariant.9,
      omega (arith, peak_of_left unshared bytes_of stack c.take_last.new.self.items part next (left g c), c.loop-next.invariant.10),
      omega (arith, c.take_last.ensures.capacity, c.loop-next.invariant.11),
      omega (
        arith,
        spare-moved unshared bytes_of stack c.take_last.new.self.items c.loop-next.text.items c.write_text.new.text.items c.loop-next.meter.spent c.write_text.new.meter.spent c.loop-next.meter.steps c.write_text.new.meter.steps moves,
        c.loop-next.invariant.12,
      ),
    )

pub loop-next-preserved-in-Continue-1 : goal.loop-next-preserved-in-Continue-1
loop-next-preserved-in-Continue-1 g c = (
  c.print_item.ensures.may_come,
  c.print_item.ensures.text ∙ c.loop-next.invariant.1,
  omega (arith, c.print_item.ensures.cost, c.loop-next.invariant.2),
  omega (arith, c.print_item.ensures.remaining, c.loop-next.invariant.3),
  c.print_item.ensures.paid,
  c.print_item.ensures.stack_paid,
  omega (arith, c.print_item.ensures.limit, c.loop-next.invariant.6),
  omega (arith, c.print_item.ensures.entry_room, c.loop-next.invariant.7),
  omega (arith, c.print_item.ensures.text_room, c.loop-next.invariant.8),
  c.in_ok-print_item-in-Sub.ensures.noted,
  omega (arith, c.print_item.ensures.peak, c.loop-next.invariant.10),
  omega (arith, c.print_item.ensures.bounded, c.loop-next.invariant.10, c.loop-next.invariant.11),
  c.print_item.ensures.steps_paid,
)

pub returns-clause-paid : goal.returns-clause-paid
returns-clause-paid g c = c.loop-next.invariant.4

pub returns-clause-stack_paid : goal.returns-clause-stack_paid
returns-clause-stack_paid g c = c.loop-next.invariant.5

pub returns-clause-may_come : goal.returns-clause-may_come
returns-clause-may_come g c = c.loop-next.invariant.0

pub returns-clause-text : goal.returns-clause-text
returns-clause-text g c = c.loop-next.invariant.1

pub returns-clause-cost : goal.returns-clause-cost
returns-clause-cost g c = c.loop-next.invariant.2

pub returns-clause-steps : goal.returns-clause-steps
returns-clause-steps g c = c.loop-next.invariant.3

pub returns-clause-limit : goal.returns-clause-limit
returns-clause-limit g c = c.loop-next.invariant.6

pub returns-clause-entry_room : goal.returns-clause-entry_room
returns-clause-entry_room g c = c.loop-next.invariant.7

pub returns-clause-text_room : goal.returns-clause-text_room
returns-clause-text_room g c = c.loop-next.invariant.8

pub returns-clause-own : goal.returns-clause-own
returns-clause-own g c = tt

pub returns-clause-peak : goal.returns-clause-peak
returns-clause-peak g c = c.loop-next.invariant.10

pub returns-clause-bounded : goal.returns-clause-bounded
returns-clause-bounded g c = c.loop-next.invariant.11

pub returns-clause-steps_paid : goal.returns-clause-steps_paid
returns-clause-steps_paid g c = c.loop-next.invariant.12
