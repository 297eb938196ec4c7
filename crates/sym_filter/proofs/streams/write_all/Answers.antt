use Rattle.sym_filter.proofs.Basics.{refl, arith, take, length, ap, ap₂, ◌∙◌, add-zero, ◌+◌, length-drop}
use Rattle.sym_filter.proofs.WordLemmas.{slice_from}
use Rattle.sym_filter.proofs.StreamLemmas.{Appends-part, Appends-keeps, BeginsWith-take, write_failures-some}
use Rattle.sym_filter.proofs.streams.write_all.Goals as goal

pub loop-written-preserved : goal.loop-written-preserved
loop-written-preserved g c =
    let so_far = c.loop-written.invariant in record {
      within = omega (arith, c.in-Some.ensures.within, ap length (slice_from c.args.bytes.now c.loop-written.written), length-drop c.loop-written.written c.args.bytes.now);
      writes = Appends-part _ _ _ c.args.bytes.now c.loop-written.written c.in-Some.count so_far.writes c.in-Some.ensures.bytes;
      failures = c.in-Some.ensures.failures ∙ ap₂ (λ m n. m + n) so_far.failures (write_failures-some c.in-Some.count _ c.if-count-eq0.false) ∙ add-zero _;
    }

pub returns-in_default-clause-err : goal.returns-in_default-clause-err
returns-in_default-clause-err g c =
    let so_far = c.loop-written.invariant in
    (refl, (take c.loop-written.written c.args.bytes.now, Appends-keeps _ _ _ _ so_far.writes c.in_default.ensures.failed, BeginsWith-take c.args.bytes.now c.loop-written.written))

pub returns-then-count-eq0-clause-err : goal.returns-then-count-eq0-clause-err
returns-then-count-eq0-clause-err g c =
    let so_far = c.loop-written.invariant in
    let place = c.loop-written.written + c.in-Some.count in
    (refl, (take place c.args.bytes.now, Appends-part _ _ _ c.args.bytes.now c.loop-written.written c.in-Some.count so_far.writes c.in-Some.ensures.bytes, BeginsWith-take c.args.bytes.now place))
