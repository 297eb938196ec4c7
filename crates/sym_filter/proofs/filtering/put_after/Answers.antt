use Rattle.sym_filter.proofs.StreamLemmas.{PutsFront-of, PutsFront-more, stays-more, stays-front, IfErr-from_and}
use Rattle.sym_filter.proofs.filtering.put_after.Goals as goal
use Rattle.sym_filter.proofs.Basics.{[], cond, sym, ◌∙◌, not-false, not-true}

pub returns-in_err-write_dots-clause-err : goal.returns-in_err-write_dots-clause-err
returns-in_err-write_dots-clause-err g c =
    let wrote = c.in_err-write_dots.ensures.err in
    IfErr-from_and c.from_residual.result _ _ c.from_residual.ensures.1 (λ fault is_fault. (λ is_read. wrote.0 (sym is_fault ∙ is_read), PutsFront-more _ _ _ _ (cond c.args.taken.stay c.args.bytes.now []) wrote.1))

pub returns-in_err-extend_from_slice-clause-err : goal.returns-in_err-extend_from_slice-clause-err
returns-in_err-extend_from_slice-clause-err g c =
    IfErr-from_and c.from_residual-in_err-extend_from_slice.result _ _ c.from_residual-in_err-extend_from_slice.ensures.1 (λ fault is_memory. (λ is_read. cc, PutsFront-of _ _ _ _ _ (cond c.args.taken.stay c.args.bytes.now []) c.in_ok-write_dots.ensures.ok))

pub returns-in_err-write_when_full-clause-err : goal.returns-in_err-write_when_full-clause-err
returns-in_err-write_when_full-clause-err g c =
    let wrote = c.in_err-write_when_full.ensures.err in
    IfErr-from_and c.from_residual-in_err-write_when_full.result _ _ c.from_residual-in_err-write_when_full.ensures.1 (λ fault is_fault. (λ is_read. wrote.0 (sym is_fault ∙ is_read), stays-front _ _ _ _ _ c.extend_from_slice.new.self.items _ _ c.args.taken.stay (not-false c.args.taken.stay c.if-not-taken.false) c.in_ok-write_dots.ensures.ok c.in_ok-extend_from_slice.ensures.items wrote.1))

pub returns-clause-ok : goal.returns-clause-ok
returns-clause-ok g c =
    stays-more _ _ _ _ _ c.extend_from_slice.new.self.items _ _ _ c.args.taken.stay (not-false c.args.taken.stay c.if-not-taken.false) c.in_ok-write_dots.ensures.ok c.in_ok-extend_from_slice.ensures.items c.in_ok-write_when_full.ensures.ok

pub returns-then-not-taken-clause-few_wait : goal.returns-then-not-taken-clause-few_wait
returns-then-not-taken-clause-few_wait g c = λ few. c.in_ok-write_dots.ensures.few_wait (few (not-true c.args.taken.stay c.if-not-taken.true))

pub returns-clause-few_wait : goal.returns-clause-few_wait
returns-clause-few_wait g c = λ _. c.in_ok-write_when_full.ensures.few_wait
