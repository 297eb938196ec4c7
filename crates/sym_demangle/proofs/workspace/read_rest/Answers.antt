use Rattle.sym_demangle.proofs.Basics.{◌≡◌, ◌++◌, subst, ap, true, err_from_is_err_and, Fed, IsReason, IsMalformedOrMemory}
use Rattle.sym_demangle.proofs.Feeding.{fed_all, reason_told, reason_whatever}
use Rattle.sym_demangle.proofs.Answering.{shape_refused}
use Rattle.sym_demangle.proofs.workspace.read_rest.Goals as goal

pub returns-in_err-run-clause-refused : goal.returns-in_err-run-clause-refused
returns-in_err-run-clause-refused g c =
    let s = c.args.reader.now.bytes ++ c.args.rest.now in
    let refusal = c.in_err-run.field-0.0 in
    let p = err_from_is_err_and c.from_residual.result c.from_residual.ensures.1 in
    rw (p.1, p.2) (
    shape_refused g.M.Mangling.mangled s refusal (
    subst (λ t. IsMalformedOrMemory t s refusal) g.met.M.Mangling.table_is
    (reason_whatever g.M.Grammar.table c.args.reader.now.bytes c.args.rest.now c.args.reader.now.ended refusal c.requires.open c.in_err-run.ensures.reason)))

pub returns-in_err-run-2-clause-refused : goal.returns-in_err-run-2-clause-refused
returns-in_err-run-2-clause-refused g c =
    let s = c.args.reader.now.bytes ++ c.args.rest.now in
    let refusal = c.in_err-run-2.field-0.0 in
    let told : c.feed.new.self.ended ≡ true = ap (λ (v : Fed). v.ended) c.in_ok-feed.ensures.ok in
    let bytes : c.feed.new.self.bytes ≡ s =
    fed_all c.feed.new.self.bytes c.feed_more.new.reader.bytes c.run.new.self.bytes c.args.reader.now.bytes c.args.rest.now
    (ap (λ (v : Fed). v.bytes) c.in_ok-feed.ensures.ok) c.in_ok-feed_more.ensures.bytes c.in_ok-run.ensures.bytes in
    let p = err_from_is_err_and c.from_residual-in_err-run-2.result c.from_residual-in_err-run-2.ensures.1 in
    rw (p.1, p.2) (
    shape_refused g.M.Mangling.mangled s refusal (
    subst (λ t. IsMalformedOrMemory t s refusal) g.met.M.Mangling.table_is
    (reason_told g.M.Grammar.table s c.feed.new.self.ended refusal told (subst (λ bs. IsReason g.M.Grammar.table c.feed.new.self.ended bs refusal) bytes c.in_err-run-2.ensures.reason))))
