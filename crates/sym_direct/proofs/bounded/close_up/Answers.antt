use Rattle.std.proofs.Common.{◌∙◌, ◌<◌, length, arith}
use Rattle.sym_direct.proofs.Marking.{AreClosedUp, is-run, moved-run, left-run, opened-up, closed-up, all-closed, same-depth}
use Rattle.sym_direct.proofs.bounded.close_up.Goals as goal
use Rattle.sym_direct.proofs.bounded.close_up.Goals.{then-depth-eq0, else-depth-eq0, then-mark-eq-OPENS, else-mark-eq-OPENS+then-mark-eq-CLOSES}

pub returns-then-end-bytes-clause-front : goal.returns-then-end-bytes-clause-front
returns-then-end-bytes-clause-front c =
    let end = c.run_end-end.ensures in
    let run = is-run _ _ _ end.after end.within end.each in
    let closed : AreClosedUp c.args.bytes.now c.if-depth-eq0.bytes c.if-depth-eq0.kept c.runs.depth c.run_end-end.result = elim c.if-depth-eq0.branch [
      | then-depth-eq0 w ↦ moved-run _ _ _ _ _ _ _ _ _ _ w.bytes-is w.kept-is c.runs.invariant run w.if-depth-eq0.true w.keep_run-kept.ensures.size
          w.keep_run-kept.ensures.front w.keep_run-kept.ensures.rest w.keep_run-kept.ensures.length
      | else-depth-eq0 w ↦ left-run _ _ _ _ _ _ _ _ w.bytes-is w.kept-is c.runs.invariant run w.if-depth-eq0.false
    ] in
    all-closed _ _ _ _ _ (omega (arith, c.if-end-bytes.true, closed.as_long, c.runs.invariant.as_long)) closed

pub returns-then-end-bytes-clause-plain : goal.returns-then-end-bytes-clause-plain
returns-then-end-bytes-clause-plain c =
    let end = c.run_end-end.ensures in
    let run = is-run _ _ _ end.after end.within end.each in
    let closed : AreClosedUp c.args.bytes.now c.if-depth-eq0.bytes c.if-depth-eq0.kept c.runs.depth c.run_end-end.result = elim c.if-depth-eq0.branch [
      | then-depth-eq0 w ↦ moved-run _ _ _ _ _ _ _ _ _ _ w.bytes-is w.kept-is c.runs.invariant run w.if-depth-eq0.true w.keep_run-kept.ensures.size
          w.keep_run-kept.ensures.front w.keep_run-kept.ensures.rest w.keep_run-kept.ensures.length
      | else-depth-eq0 w ↦ left-run _ _ _ _ _ _ _ _ w.bytes-is w.kept-is c.runs.invariant run w.if-depth-eq0.false
    ] in
    closed.plain

pub runs-preserved : goal.runs-preserved
runs-preserved c =
    let end = c.run_end-end.ensures in
    let run = is-run _ _ _ end.after end.within end.each in
    let closed : AreClosedUp c.args.bytes.now c.if-depth-eq0.bytes c.if-depth-eq0.kept c.runs.depth c.run_end-end.result = elim c.if-depth-eq0.branch [
      | then-depth-eq0 w ↦ moved-run _ _ _ _ _ _ _ _ _ _ w.bytes-is w.kept-is c.runs.invariant run w.if-depth-eq0.true w.keep_run-kept.ensures.size
          w.keep_run-kept.ensures.front w.keep_run-kept.ensures.rest w.keep_run-kept.ensures.length
      | else-depth-eq0 w ↦ left-run _ _ _ _ _ _ _ _ w.bytes-is w.kept-is c.runs.invariant run w.if-depth-eq0.false
    ] in
    let inside : c.run_end-end.result < length c.if-depth-eq0.bytes = omega (arith, c.if-end-bytes.false, closed.inside) in
    elim c.if-mark-eq-OPENS.branch [
      | then-mark-eq-OPENS w ↦ same-depth _ _ _ _ _ _ w.depth-is (opened-up _ _ _ _ _ inside closed w.if-mark-eq-OPENS.true)
      | else-mark-eq-OPENS+then-mark-eq-CLOSES w ↦ same-depth _ _ _ _ _ _ (w.depth-is ∙ w.saturating_sub-depth.ensures)
          (closed-up _ _ _ _ _ inside closed w.if-mark-eq-OPENS.false w.if-mark-eq-CLOSES.true)
    ]

pub returns-clause-front : goal.returns-clause-front
returns-clause-front c = all-closed _ _ _ _ _ (omega (arith, c.runs-test.false)) c.runs.invariant
