use Rattle.sym_print.proofs.Basics.{◌≡◌, Err, Result, arith, ap, All-contains, err_from_is_err_and, Refusal, TooLong, Sub, IsNote, peak_of_stack}
use Rattle.sym_print.proofs.Stack.{cost_of_next}
use Rattle.sym_print.proofs.Noting.{moves-again, moves-parts, spare-moved, text-moved, cost-moved, steps-moved, noted-moved, noted-same, again-paid, again-too-dear}
use Rattle.sym_print.proofs.Peak.{stack_within, peak_of_left}
use Rattle.sym_print.proofs.entries.print_special_item.Goals as goal

pub returns-in-Some-clause-text : goal.returns-in-Some-clause-text
returns-in-Some-clause-text g c =
    let noted : IsNote (g.Y.Layout.unshared c.args.y.now) c.args.text.now.items c.in-Some.note.now =
    All-contains (IsNote (g.Y.Layout.unshared c.args.y.now) c.args.text.now.items) c.args.notes.now.known.items c.in-Some.note.now c.requires.noted.known c.in-Some.ensures.known in
    let moves = moves-again (g.Y.Layout.unshared c.args.y.now) (g.Y.Layout.bytes_of c.args.y.now) c.args.stack.now.items c.write_again.new.stack.items c.in-Some.note.now c.args.item c.args.text.now.items c.write_again.new.text.items
    c.args.meter.now.spent c.write_again.new.meter.spent c.args.meter.now.steps c.write_again.new.meter.steps c.requires.next c.in-Some.ensures.item noted
    c.in_ok-write_again.ensures.items c.in_ok-write_again.ensures.text c.in_ok-write_again.ensures.spent c.in_ok-write_again.ensures.steps in
    text-moved (g.Y.Layout.unshared c.args.y.now) (g.Y.Layout.bytes_of c.args.y.now) c.args.stack.now.items c.write_again.new.stack.items c.args.text.now.items c.write_again.new.text.items c.args.meter.now.spent c.write_again.new.meter.spent c.args.meter.now.steps c.write_again.new.meter.steps moves

pub returns-in-Some-clause-cost : goal.returns-in-Some-clause-cost
returns-in-Some-clause-cost g c =
    let noted : IsNote (g.Y.Layout.unshared c.args.y.now) c.args.text.now.items c.in-Some.note.now =
    All-contains (IsNote (g.Y.Layout.unshared c.args.y.now) c.args.text.now.items) c.args.notes.now.known.items c.in-Some.note.now c.requires.noted.known c.in-Some.ensures.known in
    let moves = moves-again (g.Y.Layout.unshared c.args.y.now) (g.Y.Layout.bytes_of c.args.y.now) c.args.stack.now.items c.write_again.new.stack.items c.in-Some.note.now c.args.item c.args.text.now.items c.write_again.new.text.items
    c.args.meter.now.spent c.write_again.new.meter.spent c.args.meter.now.steps c.write_again.new.meter.steps c.requires.next c.in-Some.ensures.item noted
    c.in_ok-write_again.ensures.items c.in_ok-write_again.ensures.text c.in_ok-write_again.ensures.spent c.in_ok-write_again.ensures.steps in
    cost-moved (g.Y.Layout.unshared c.args.y.now) (g.Y.Layout.bytes_of c.args.y.now) c.args.stack.now.items c.write_again.new.stack.items c.args.text.now.items c.write_again.new.text.items c.args.meter.now.spent c.write_again.new.meter.spent c.args.meter.now.steps c.write_again.new.meter.steps moves

pub returns-in-Some-clause-remaining : goal.returns-in-Some-clause-remaining
returns-in-Some-clause-remaining g c =
    let noted : IsNote (g.Y.Layout.unshared c.args.y.now) c.args.text.now.items c.in-Some.note.now =
    All-contains (IsNote (g.Y.Layout.unshared c.args.y.now) c.args.text.now.items) c.args.notes.now.known.items c.in-Some.note.now c.requires.noted.known c.in-Some.ensures.known in
    let moves = moves-again (g.Y.Layout.unshared c.args.y.now) (g.Y.Layout.bytes_of c.args.y.now) c.args.stack.now.items c.write_again.new.stack.items c.in-Some.note.now c.args.item c.args.text.now.items c.write_again.new.text.items
    c.args.meter.now.spent c.write_again.new.meter.spent c.args.meter.now.steps c.write_again.new.meter.steps c.requires.next c.in-Some.ensures.item noted
    c.in_ok-write_again.ensures.items c.in_ok-write_again.ensures.text c.in_ok-write_again.ensures.spent c.in_ok-write_again.ensures.steps in
    steps-moved (g.Y.Layout.unshared c.args.y.now) (g.Y.Layout.bytes_of c.args.y.now) c.args.stack.now.items c.write_again.new.stack.items c.args.text.now.items c.write_again.new.text.items c.args.meter.now.spent c.write_again.new.meter.spent c.args.meter.now.steps c.write_again.new.meter.steps moves

pub returns-in-Some-clause-noted : goal.returns-in-Some-clause-noted
returns-in-Some-clause-noted g c =
    let noted : IsNote (g.Y.Layout.unshared c.args.y.now) c.args.text.now.items c.in-Some.note.now =
    All-contains (IsNote (g.Y.Layout.unshared c.args.y.now) c.args.text.now.items) c.args.notes.now.known.items c.in-Some.note.now c.requires.noted.known c.in-Some.ensures.known in
    let moves = moves-again (g.Y.Layout.unshared c.args.y.now) (g.Y.Layout.bytes_of c.args.y.now) c.args.stack.now.items c.write_again.new.stack.items c.in-Some.note.now c.args.item c.args.text.now.items c.write_again.new.text.items
    c.args.meter.now.spent c.write_again.new.meter.spent c.args.meter.now.steps c.write_again.new.meter.steps c.requires.next c.in-Some.ensures.item noted
    c.in_ok-write_again.ensures.items c.in_ok-write_again.ensures.text c.in_ok-write_again.ensures.spent c.in_ok-write_again.ensures.steps in
    noted-moved (g.Y.Layout.unshared c.args.y.now) (g.Y.Layout.bytes_of c.args.y.now) c.args.notes.now c.args.stack.now.items c.write_again.new.stack.items c.args.text.now.items c.write_again.new.text.items c.args.meter.now.spent c.write_again.new.meter.spent c.args.meter.now.steps c.write_again.new.meter.steps moves c.requires.below c.requires.noted

pub returns-in-Some-clause-paid : goal.returns-in-Some-clause-paid
returns-in-Some-clause-paid g c =
    let noted : IsNote (g.Y.Layout.unshared c.args.y.now) c.args.text.now.items c.in-Some.note.now =
    All-contains (IsNote (g.Y.Layout.unshared c.args.y.now) c.args.text.now.items) c.args.notes.now.known.items c.in-Some.note.now c.requires.noted.known c.in-Some.ensures.known in
    omega (
      arith,
      again-paid (g.Y.Layout.unshared c.args.y.now) (g.Y.Layout.bytes_of c.args.y.now) c.args.text.now.items c.write_again.new.text.items c.in-Some.note.now c.args.meter.now.spent c.write_again.new.meter.spent noted
          c.in_ok-write_again.ensures.text c.in_ok-write_again.ensures.spent (omega (arith, c.requires.paid, c.args.text.now.ok.0)),
      c.write_again.new.text.ok.0,
    )

pub returns-in_err-write_again-clause-too_long : goal.returns-in_err-write_again-clause-too_long
returns-in_err-write_again-clause-too_long g c same =
    let p = err_from_is_err_and c.from_residual.result c.from_residual.ensures.1 in
    let was : c.in_err-write_again.field-0.0 ≡ TooLong = cc (p.1, p.2) in
    let refused : Refusal → Result (Unit {0}) Refusal = λ r. Err r in
    let noted : IsNote (g.Y.Layout.unshared c.args.y.now) c.args.text.now.items c.in-Some.note.now =
    All-contains (IsNote (g.Y.Layout.unshared c.args.y.now) c.args.text.now.items) c.args.notes.now.known.items c.in-Some.note.now c.requires.noted.known c.in-Some.ensures.known in
    again-too-dear (g.Y.Layout.unshared c.args.y.now) (g.Y.Layout.bytes_of c.args.y.now) c.args.stack.now.items c.args.item c.args.text.now.items c.in-Some.note.now c.args.meter.now.limit c.args.meter.now.spent c.requires.next c.in-Some.ensures.item noted
    (c.in_err-write_again.ensures.too_long (ap refused was))

pub returns-clause-noted : goal.returns-clause-noted
returns-clause-noted g c =
    let moves = moves-parts (g.Y.Layout.unshared c.args.y.now) (g.Y.Layout.bytes_of c.args.y.now) (g.Y.Layout.may_come c.args.y.now) c.args.stack.now.items c.open_item.new.stack.items c.args.item c.args.text.now.items
    c.args.meter.now.spent c.open_item.new.meter.spent c.args.meter.now.steps c.open_item.new.meter.steps c.requires.next c.in_ok-open_item.ensures.parts c.in_ok-open_item.ensures.spent c.in_ok-open_item.ensures.steps in
    noted-same (g.Y.Layout.unshared c.args.y.now) (g.Y.Layout.bytes_of c.args.y.now) c.begin_item.new.notes c.look.new.self c.open_item.new.stack.items c.args.text.now.items
    c.open_item.new.meter.spent c.open_item.new.meter.steps c.look.ensures.known c.look.ensures.begun
    (noted-moved (g.Y.Layout.unshared c.args.y.now) (g.Y.Layout.bytes_of c.args.y.now) c.begin_item.new.notes c.args.stack.now.items c.open_item.new.stack.items c.args.text.now.items c.args.text.now.items
    c.args.meter.now.spent c.open_item.new.meter.spent c.args.meter.now.steps c.open_item.new.meter.steps moves c.begin_item.ensures.below c.begin_item.ensures.noted)

pub returns-in_err-open_item-clause-too_long : goal.returns-in_err-open_item-clause-too_long
returns-in_err-open_item-clause-too_long g c same =
    let p = err_from_is_err_and c.from_residual-in_err-open_item.result c.from_residual-in_err-open_item.ensures.1 in
    let was : c.in_err-open_item.field-0.0 ≡ TooLong = cc (p.1, p.2) in
    let refused : Refusal → Result (Unit {0}) Refusal = λ r. Err r in
    omega (arith, c.in_err-open_item.ensures.too_long (ap refused was), cost_of_next (g.Y.Layout.unshared c.args.y.now) (g.Y.Layout.bytes_of c.args.y.now) c.args.stack.now.items (Sub c.args.item) c.requires.next)

pub returns-in-Some-clause-peak : goal.returns-in-Some-clause-peak
returns-in-Some-clause-peak g c = peak_of_left (g.Y.Layout.unshared c.args.y.now) (g.Y.Layout.bytes_of c.args.y.now) c.args.stack.now.items c.write_again.new.stack.items (Sub c.args.item) c.requires.next c.in_ok-write_again.ensures.items

pub returns-in_err-write_again-clause-peak : goal.returns-in_err-write_again-clause-peak
returns-in_err-write_again-clause-peak g c = omega (arith, ap (peak_of_stack (g.Y.Layout.unshared c.args.y.now)) c.in_err-write_again.ensures.same_stack)

pub returns-clause-peak : goal.returns-clause-peak
returns-clause-peak g c = c.open_item.ensures.peak

pub returns-in_err-open_item-clause-peak : goal.returns-in_err-open_item-clause-peak
returns-in_err-open_item-clause-peak g c = c.open_item.ensures.peak

pub returns-in-Some-clause-bounded : goal.returns-in-Some-clause-bounded
returns-in-Some-clause-bounded g c = omega (arith, c.write_again.ensures.same_room)

pub returns-in_err-write_again-clause-bounded : goal.returns-in_err-write_again-clause-bounded
returns-in_err-write_again-clause-bounded g c = omega (arith, c.write_again.ensures.same_room)

pub returns-clause-bounded : goal.returns-clause-bounded
returns-clause-bounded g c =
    omega (arith, c.open_item.ensures.grown.1, stack_within (g.Y.Layout.unshared c.args.y.now) (g.Y.Layout.bytes_of c.args.y.now) c.args.stack.now.items, c.args.stack.now.ok.0)

pub returns-in_err-open_item-clause-bounded : goal.returns-in_err-open_item-clause-bounded
returns-in_err-open_item-clause-bounded g c =
    omega (arith, c.open_item.ensures.grown.1, stack_within (g.Y.Layout.unshared c.args.y.now) (g.Y.Layout.bytes_of c.args.y.now) c.args.stack.now.items, c.args.stack.now.ok.0)

pub returns-in-Some-clause-steps_paid : goal.returns-in-Some-clause-steps_paid
returns-in-Some-clause-steps_paid g c =
    let noted : IsNote (g.Y.Layout.unshared c.args.y.now) c.args.text.now.items c.in-Some.note.now =
    All-contains (IsNote (g.Y.Layout.unshared c.args.y.now) c.args.text.now.items) c.args.notes.now.known.items c.in-Some.note.now c.requires.noted.known c.in-Some.ensures.known in
    let moves = moves-again (g.Y.Layout.unshared c.args.y.now) (g.Y.Layout.bytes_of c.args.y.now) c.args.stack.now.items c.write_again.new.stack.items c.in-Some.note.now c.args.item c.args.text.now.items c.write_again.new.text.items
    c.args.meter.now.spent c.write_again.new.meter.spent c.args.meter.now.steps c.write_again.new.meter.steps c.requires.next c.in-Some.ensures.item noted
    c.in_ok-write_again.ensures.items c.in_ok-write_again.ensures.text c.in_ok-write_again.ensures.spent c.in_ok-write_again.ensures.steps in
    omega (
      arith,
      c.requires.steps_paid,
      spare-moved (g.Y.Layout.unshared c.args.y.now) (g.Y.Layout.bytes_of c.args.y.now) c.args.stack.now.items c.write_again.new.stack.items c.args.text.now.items c.write_again.new.text.items
          c.args.meter.now.spent c.write_again.new.meter.spent c.args.meter.now.steps c.write_again.new.meter.steps moves,
    )

pub returns-clause-steps_paid : goal.returns-clause-steps_paid
returns-clause-steps_paid g c =
    let moves = moves-parts (g.Y.Layout.unshared c.args.y.now) (g.Y.Layout.bytes_of c.args.y.now) (g.Y.Layout.may_come c.args.y.now) c.args.stack.now.items c.open_item.new.stack.items c.args.item c.args.text.now.items
    c.args.meter.now.spent c.open_item.new.meter.spent c.args.meter.now.steps c.open_item.new.meter.steps c.requires.next c.in_ok-open_item.ensures.parts c.in_ok-open_item.ensures.spent c.in_ok-open_item.ensures.steps in
    omega (
      arith,
      c.requires.steps_paid,
      spare-moved (g.Y.Layout.unshared c.args.y.now) (g.Y.Layout.bytes_of c.args.y.now) c.args.stack.now.items c.open_item.new.stack.items c.args.text.now.items c.args.text.now.items
          c.args.meter.now.spent c.open_item.new.meter.spent c.args.meter.now.steps c.open_item.new.meter.steps moves,
    )
