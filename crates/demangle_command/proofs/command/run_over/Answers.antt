use Rattle.demangle_command.proofs.Basics.{◌∙◌, List, ℕ, Bor, String, Global, map, subst, ap, Text, OnErr-anyway, Ends, Stops, texts_of}
use Rattle.std.specs.String.{string_bytes}
use Rattle.demangle_command.proofs.CommandLemmas.{stops-unparsed}
use Rattle.demangle_command.proofs.command.run_over.Goals as goal

pub returns-in_err-texts-clause-err : goal.returns-in_err-texts-clause-err
returns-in_err-texts-clause-err g c =
    OnErr-anyway c.from_residual.result _ (stops-unparsed (texts_of (map (λ (word : Bor (List ℕ)). word.now) c.args.words.now)) c.args.terminal (g.S.Source.coming c.args.input.now) (g.W.Sink.taken c.args.out.now) (g.E.Sink.taken c.args.err.now))

pub returns-in_err-lent-clause-err : goal.returns-in_err-lent-clause-err
returns-in_err-lent-clause-err g c =
    OnErr-anyway c.from_residual-in_err-lent.result _ (stops-unparsed (texts_of (map (λ (word : Bor (List ℕ)). word.now) c.args.words.now)) c.args.terminal (g.S.Source.coming c.args.input.now) (g.W.Sink.taken c.args.out.now) (g.E.Sink.taken c.args.err.now))

pub returns-in-Ok-clause-ok : goal.returns-in-Ok-clause-ok
returns-in-Ok-clause-ok g c =
    subst (λ (texts : List Text). Ends texts c.args.terminal (g.S.Source.coming c.args.input.now) (g.S.Source.coming c.run_texts.new.input) (g.W.Sink.taken c.args.out.now) (g.W.Sink.taken c.run_texts.new.out)
    (g.E.Sink.taken c.args.err.now) (g.E.Sink.taken c.run_texts.new.err) c.in-Ok.status)
    (ap (map (λ (text : Bor (List ℕ)). text.now)) c.deref-2.ensures.value ∙ c.in_ok-lent.ensures ∙ ap (map (λ (text : String Global). string_bytes text)) c.deref.ensures.value ∙ c.in_ok-texts.ensures) c.in-Ok.ensures.ok

pub returns-clause-err : goal.returns-clause-err
returns-clause-err g c =
    subst (λ (texts : List Text). Stops texts c.args.terminal (g.S.Source.coming c.args.input.now) (g.S.Source.coming c.run_texts.new.input) (g.W.Sink.taken c.args.out.now) (g.W.Sink.taken c.run_texts.new.out)
    (g.E.Sink.taken c.args.err.now) (g.E.Sink.taken c.run_texts.new.err))
    (ap (map (λ (text : Bor (List ℕ)). text.now)) c.deref-2.ensures.value ∙ c.in_ok-lent.ensures ∙ ap (map (λ (text : String Global). string_bytes text)) c.deref.ensures.value ∙ c.in_ok-texts.ensures) c.in-Err.ensures.err
