use Rattle.sym_filter.proofs.StreamLemmas.{dots-more, dots-front, dots-none, IfErr-from_and}
use Rattle.sym_filter.proofs.filtering.write_dots.Goals as goal
use Rattle.std.proofs.Common.{◌∙◌, sym, add-zero}

pub loop-preserved : goal.loop-preserved
loop-preserved g c =
    let so_far = c.loop.invariant in
    let wrote = c.in_ok-write_when_full.ensures in record {
      puts = dots-more _ _ _ _ _ c.push.new.self.items _ c.loop.counter so_far.puts c.in_ok-push.ensures.items wrote.ok;
      few = λ _. wrote.few_wait;
      failures = wrote.failures ∙ add-zero _ ∙ so_far.failures;
    }

pub returns-in_err-push-clause-err : goal.returns-in_err-push-clause-err
returns-in_err-push-clause-err g c =
    let so_far = c.loop.invariant in
    IfErr-from_and c.from_residual.result _ _ c.from_residual.ensures.1 (λ fault is_memory. (λ is_read. cc, dots-none _ _ _ _ c.loop.counter c.args.dots so_far.puts c.loop-test.true))

pub returns-in_err-write_when_full-clause-err : goal.returns-in_err-write_when_full-clause-err
returns-in_err-write_when_full-clause-err g c =
    let so_far = c.loop.invariant in
    let wrote = c.in_err-write_when_full.ensures.err in
    IfErr-from_and c.from_residual-in_err-write_when_full.result _ _ c.from_residual-in_err-write_when_full.ensures.1 (λ fault is_fault. (λ is_read. wrote.0 (sym is_fault ∙ is_read), dots-front _ _ _ _ _ c.push.new.self.items c.loop.counter c.args.dots so_far.puts c.in_ok-push.ensures.items wrote.1 c.loop-test.true))
