use Rattle.std.proofs.Common.{◌≡◌, ◌∙◌, List, [], ℕ, Bool, ap, subst, sym}
use Rattle.std.proofs.lemmas.Result.{on_err_weaker, on_ok_weaker}
use Rattle.std.specs.Io.KnownBytes.{Appends}
use Rattle.sym_filter.proofs.StreamLemmas.{PutsFront-none, PutsFront-same}
use Rattle.sym_command.proofs.PageLemmas.{OnErr-anyway}
use Rattle.sym_command.specs.Lines.{answer_for}
use Rattle.demangle_names.specs.Names.{reason_by, said_if, said_line}
use Rattle.demangle_names.proofs.reasons.say_why.Goals as goal

pub returns-in_err-line-clause-err : goal.returns-in_err-line-clause-err
returns-in_err-line-clause-err g c =
    OnErr-anyway c.from_residual.result _ (PutsFront-none (g.E.Sink.taken c.args.err.now) [] (said_if c.args.asked (g.D.Demangler.answer c.args.demangler.now) c.args.name.now))

pub returns-clause-ok : goal.returns-clause-ok
returns-clause-ok g c =
    let answers = g.D.Demangler.answer c.args.demangler.now in
    let name = c.args.name.now in
    let is : c.deref.result.now ≡ said_if c.args.asked answers name = c.deref.ensures.value ∙ c.in_ok-line.ensures ∙ ap (λ (b : Bool). said_if b answers name) (sym c.if-not-asked.false) in
    on_ok_weaker c.write_said.result (λ says. subst (λ (t : List ℕ). Appends (g.E.Sink.taken c.args.err.now) (g.E.Sink.taken c.write_said.new.out) t) is says) c.write_said.ensures.ok

pub returns-clause-err : goal.returns-clause-err
returns-clause-err g c =
    let answers = g.D.Demangler.answer c.args.demangler.now in
    let name = c.args.name.now in
    let is : c.deref.result.now ≡ said_if c.args.asked answers name = c.deref.ensures.value ∙ c.in_ok-line.ensures ∙ ap (λ (b : Bool). said_if b answers name) (sym c.if-not-asked.false) in
    on_err_weaker c.write_said.result (λ says. PutsFront-same (g.E.Sink.taken c.args.err.now) (g.E.Sink.taken c.write_said.new.out) [] _ _ is says) c.write_said.ensures.err
