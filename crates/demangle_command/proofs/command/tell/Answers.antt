use Rattle.demangle_command.proofs.Basics.{◌≡◌, ◌≢◌, ◌∙◌, sym, ap, rules, true, false, kind_of, OutOfMemory, OnErr-anyway, is_request}
use Rattle.demangle_command.proofs.CommandLemmas.{told-asked, told-wrong, untold-out, untold-err, untold-nothing}
use Rattle.demangle_command.proofs.command.tell.Goals as goal

pub returns-then-eq-clause-err : goal.returns-then-eq-clause-err
returns-then-eq-clause-err g c = untold-nothing (kind_of c.args.error.now) (g.W.Sink.taken c.args.out.now) (g.E.Sink.taken c.args.err.now)

pub returns-in_err-text-clause-err : goal.returns-in_err-text-clause-err
returns-in_err-text-clause-err g c = OnErr-anyway c.from_residual.result _ (untold-nothing (kind_of c.args.error.now) (g.W.Sink.taken c.args.out.now) (g.E.Sink.taken c.args.err.now))

pub returns-then-is_request-clause-ok : goal.returns-then-is_request-clause-ok
returns-then-is_request-clause-ok g c =
    let asked : is_request (kind_of c.args.error.now) ≡ true = sym (ap is_request c.kind-2.ensures) ∙ sym c.is_request.ensures ∙ c.if-is_request.true in
    told-asked (is_request (kind_of c.args.error.now)) (g.W.Sink.taken c.args.out.now) (g.W.Sink.taken c.end_with.new.sink) (g.E.Sink.taken c.args.err.now) c.end_with.result asked c.end_with.ensures.status c.end_with.ensures.says

pub returns-then-is_request-clause-err : goal.returns-then-is_request-clause-err
returns-then-is_request-clause-err g c =
    let known : kind_of c.args.error.now ≢ OutOfMemory = search rules in
    untold-out (kind_of c.args.error.now) (g.W.Sink.taken c.args.out.now) (g.W.Sink.taken c.end_with.new.sink) (g.E.Sink.taken c.args.err.now) c.end_with.result known c.end_with.ensures.says

pub returns-clause-ok : goal.returns-clause-ok
returns-clause-ok g c =
    let wrong : is_request (kind_of c.args.error.now) ≡ false = sym (ap is_request c.kind-2.ensures) ∙ sym c.is_request.ensures ∙ c.if-is_request.false in
    told-wrong (is_request (kind_of c.args.error.now)) (g.W.Sink.taken c.args.out.now) (g.E.Sink.taken c.args.err.now) (g.E.Sink.taken c.end_with-2.new.sink) c.end_with-2.result wrong c.end_with-2.ensures.status c.end_with-2.ensures.says

pub returns-clause-err : goal.returns-clause-err
returns-clause-err g c =
    let known : kind_of c.args.error.now ≢ OutOfMemory = search rules in
    untold-err (kind_of c.args.error.now) (g.W.Sink.taken c.args.out.now) (g.E.Sink.taken c.args.err.now) (g.E.Sink.taken c.end_with-2.new.sink) c.end_with-2.result known c.end_with-2.ensures.says

pub returns-in_err-line-clause-err : goal.returns-in_err-line-clause-err
returns-in_err-line-clause-err g c = OnErr-anyway c.from_residual-in_err-line.result _ (untold-nothing (kind_of c.args.error.now) (g.W.Sink.taken c.args.out.now) (g.E.Sink.taken c.args.err.now))
