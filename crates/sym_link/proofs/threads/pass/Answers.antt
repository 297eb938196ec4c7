use Rattle.sym_link.proofs.Basics.{arith, length, err_from_is_err_and, lists_with}
use Rattle.sym_link.proofs.Passing.{passing_done}
use Rattle.sym_link.proofs.Room.{room_same, room_then, only_refused}
use Rattle.sym_link.proofs.threads.pass.Goals as goal

pub returns-in_err-pass_one-clause-passes : goal.returns-in_err-pass_one-clause-passes
returns-in_err-pass_one-clause-passes g c lower whole passing =
    let p = err_from_is_err_and c.from_residual.result c.from_residual.ensures.1 in
    rw (p.1, p.2)
    (c.in_err-pass_one.ensures.passing lower c.args.to whole (c.parts.invariant.4 lower whole passing) (omega (arith, c.parts-test.true, c.len.ensures, c.parts.parts.ok.0)))

pub returns-clause-passes : goal.returns-clause-passes
returns-clause-passes g c lower whole passing =
    passing_done (g.L.Threading.view c.args.symbol.now) c.args.symbol.now c.parts.language c.args.frame.now lower c.parts.parts.items c.args.to whole (c.parts.invariant.4 lower whole passing)
    (omega (arith, c.parts-test.false, c.len.ensures, c.parts.parts.ok.0))

pub returns-in_err-pass_one-clause-few : goal.returns-in_err-pass_one-clause-few
returns-in_err-pass_one-clause-few g c =
    let p = err_from_is_err_and c.from_residual.result c.from_residual.ensures.1 in
    rw p.1 (omega (arith, c.in_err-pass_one.ensures.few, c.parts.invariant.6))

pub returns-in_err-pass_one-clause-keeps : goal.returns-in_err-pass_one-clause-keeps
returns-in_err-pass_one-clause-keeps g c =
    let view = g.L.Threading.view c.args.symbol.now in
    let before = lists_with view c.args.language.now c.args.parts.now in
    let at_loop = lists_with view c.parts.language c.parts.parts in
    let after_one = lists_with view c.pass_one.new.language c.pass_one.new.parts in
    room_then before at_loop after_one c.parts.invariant.7 c.in_err-pass_one.ensures.keeps

pub returns-in_err-pass_one-clause-full : goal.returns-in_err-pass_one-clause-full
returns-in_err-pass_one-clause-full g c =
    let view = g.L.Threading.view c.args.symbol.now in
    let before = lists_with view c.args.language.now c.args.parts.now in
    let at_loop = lists_with view c.parts.language c.parts.parts in
    let after_one = lists_with view c.pass_one.new.language c.pass_one.new.parts in
    let p = err_from_is_err_and c.from_residual.result c.from_residual.ensures.1 in
    rw (p.1, p.2)
    (only_refused ⊥ ⊥ before at_loop after_one c.in_err-pass_one.field-0.0 (λ none. none) c.parts.invariant.7 c.in_err-pass_one.ensures.full)

pub returns-clause-keeps : goal.returns-clause-keeps
returns-clause-keeps g c = c.parts.invariant.7

pub parts-init : goal.parts-init
parts-init g c =
    let view = g.L.Threading.view c.args.symbol.now in
    let before = lists_with view c.args.language.now c.args.parts.now in (
      c.requires.base,
      c.requires.room,
      ((g.met.L.Threading.laws c.args.symbol.now).grows_same c.args.language.now, omega arith),
      λ at paid. paid,
      λ lower whole passing. passing,
      c.requires.open,
      omega arith,
      room_same before,
    )

pub parts-preserved : goal.parts-preserved
parts-preserved g c =
    let one = c.in_ok-pass_one.ensures in (
      omega (arith, c.parts.invariant.0, one.count),
      record {
        fits = c.parts.invariant.1.fits;
        size = omega (arith, c.parts.invariant.1.size, one.adds.1);
        paid = one.pays (length c.args.symbol.now) c.parts.invariant.1.paid;
      },
      (
        (g.met.L.Threading.laws c.args.symbol.now).grows_then c.args.language.now c.parts.language c.pass_one.new.language c.parts.invariant.2.0 one.adds.0,
        omega (arith, c.parts.invariant.2.1, one.adds.1),
      ),
      λ at paid. one.pays at (c.parts.invariant.3 at paid),
      λ lower whole passing. one.passing lower c.args.to whole (c.parts.invariant.4 lower whole passing) (omega (arith, c.parts-test.true, c.len.ensures, c.parts.parts.ok.0)),
      one.open,
      omega (arith, c.parts.invariant.6, one.few),
      room_then (lists_with (g.L.Threading.view c.args.symbol.now) c.args.language.now c.args.parts.now) (lists_with (g.L.Threading.view c.args.symbol.now) c.parts.language c.parts.parts) (lists_with (g.L.Threading.view c.args.symbol.now) c.pass_one.new.language c.pass_one.new.parts) c.parts.invariant.7 one.keeps,
    )
