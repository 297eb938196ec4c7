use Rattle.demangle_command.proofs.Basics.{◌≡◌, ◌∙◌, List, ℕ, subst, Appends, OnErr-anyway, summary_if}
use Rattle.demangle_command.proofs.CommandLemmas.{summary-front, summary-line, summary-said}
use Rattle.demangle_command.proofs.command.say_summary.Goals as goal

pub returns-in_err-line-clause-err : goal.returns-in_err-line-clause-err
returns-in_err-line-clause-err g c = OnErr-anyway c.from_residual.result _ (summary-front c.args.asked c.args.tally (g.E.Sink.taken c.args.err.now))

pub returns-in-Ok-clause-ok : goal.returns-in-Ok-clause-ok
returns-in-Ok-clause-ok g c =
    let is : c.as_bytes.result.now ≡ summary_if c.args.asked c.args.tally = summary-line c.args.asked c.args.tally c.as_bytes.result.now c.if-not-asked.false (c.as_bytes.ensures.value ∙ c.in_ok-line.ensures.ok) in
    subst (λ (t : List ℕ). Appends (g.E.Sink.taken c.args.err.now) (g.E.Sink.taken c.write_all.new.writer) t) is c.in-Ok.ensures.ok

pub returns-clause-err : goal.returns-clause-err
returns-clause-err g c =
    let is : c.as_bytes.result.now ≡ summary_if c.args.asked c.args.tally = summary-line c.args.asked c.args.tally c.as_bytes.result.now c.if-not-asked.false (c.as_bytes.ensures.value ∙ c.in_ok-line.ensures.ok) in
    let failed = c.in-Err.ensures.err in
    summary-said c.args.asked c.args.tally c.as_bytes.result.now failed.1.0 (g.E.Sink.taken c.args.err.now) (g.E.Sink.taken c.write_all.new.writer) is failed.1.1 failed.1.2
