use Rattle.demangle_command.proofs.Basics.{◌≡◌, ◌∙◌, ap, sym, map, Bor, List, ℕ, Vec, Global, found_of, rows_of, no-words, OnErr-anyway, escaped_by, bytes_of}
use Rattle.demangle_command.proofs.CommandLemmas.{input-ends, input-stops, names-end, names-stop, stops-unbegun}
use Rattle.demangle_command.proofs.TextLemmas.{some-words}
use Rattle.demangle_command.proofs.command.run_lines.Goals as goal

pub returns-in-Ok-clause-ok : goal.returns-in-Ok-clause-ok
returns-in-Ok-clause-ok g c =
    let options = c.args.options in
    let answers = escaped_by options.escape (g.D.Demangler.answer c.args.demangler) in
    let same = ap (escaped_by options.escape) c.requires.texts in
    let texts = c.names_of-texts.result.now in
    let names = map bytes_of (map (λ (text : Bor (List ℕ)). text.now) texts) in
    let rows = rows_of (found_of c.args.matches.now) in
    input-ends rows c.args.terminal options answers names c.in-Ok.status (g.S.Source.coming c.args.input.now) (g.S.Source.coming c.filter_input.new.input) (g.W.Sink.taken c.args.out.now) (g.W.Sink.taken c.filter_input.new.out)
    (g.E.Sink.taken c.args.err.now) (g.E.Sink.taken c.filter_input.new.err) c.requires.given c.requires.no_objects same (ap (map bytes_of) c.names_of-texts.ensures) (ap (map bytes_of) (no-words texts (sym c.is_empty.ensures ∙ c.if-is_empty.true))) c.in-Ok.ensures.ok

pub returns-in-Err-clause-err : goal.returns-in-Err-clause-err
returns-in-Err-clause-err g c =
    let options = c.args.options in
    let answers = escaped_by options.escape (g.D.Demangler.answer c.args.demangler) in
    let same = ap (escaped_by options.escape) c.requires.texts in
    let texts = c.names_of-texts.result.now in
    let names = map bytes_of (map (λ (text : Bor (List ℕ)). text.now) texts) in
    let rows = rows_of (found_of c.args.matches.now) in
    input-stops rows c.args.terminal options answers names (g.S.Source.coming c.args.input.now) (g.S.Source.coming c.filter_input.new.input) (g.W.Sink.taken c.args.out.now) (g.W.Sink.taken c.filter_input.new.out)
    (g.E.Sink.taken c.args.err.now) (g.E.Sink.taken c.filter_input.new.err) c.requires.given c.requires.no_objects same (ap (map bytes_of) c.names_of-texts.ensures) (ap (map bytes_of) (no-words texts (sym c.is_empty.ensures ∙ c.if-is_empty.true))) c.in-Err.ensures.err

pub returns-in-Ok-answer_names-clause-ok : goal.returns-in-Ok-answer_names-clause-ok
returns-in-Ok-answer_names-clause-ok g c =
    let options = c.args.options in
    let answers = escaped_by options.escape (g.D.Demangler.answer c.args.demangler) in
    let same = ap (escaped_by options.escape) c.requires.texts in
    let texts = c.names_of-texts.result.now in
    let names = map (λ (name : Bor (List ℕ)). name.now) c.deref-2.result.now in
    let are : names ≡ map bytes_of (map (λ (text : Bor (List ℕ)). text.now) texts) = ap (map (λ (name : Bor (List ℕ)). name.now)) c.deref-2.ensures.value ∙ c.in_ok-lent.ensures ∙ ap (map (λ (word : Vec ℕ Global). word.items)) c.deref.ensures.value ∙ c.in_ok-names.ensures in
    let rows = rows_of (found_of c.args.matches.now) in
    names-end rows c.args.terminal options answers names c.in-Ok-answer_names.one_stays c.status_of.result (g.S.Source.coming c.args.input.now) (g.W.Sink.taken c.args.out.now) (g.W.Sink.taken c.answer_names.new.out)
    (g.E.Sink.taken c.args.err.now) (g.E.Sink.taken c.answer_names.new.err) c.requires.given c.requires.no_objects same (are ∙ ap (map bytes_of) c.names_of-texts.ensures) (λ none. some-words texts (sym c.is_empty.ensures ∙ c.if-is_empty.false) (sym are ∙ none)) c.in-Ok-answer_names.ensures.ok c.status_of.ensures

pub returns-clause-err : goal.returns-clause-err
returns-clause-err g c =
    let options = c.args.options in
    let answers = escaped_by options.escape (g.D.Demangler.answer c.args.demangler) in
    let same = ap (escaped_by options.escape) c.requires.texts in
    let texts = c.names_of-texts.result.now in
    let names = map (λ (name : Bor (List ℕ)). name.now) c.deref-2.result.now in
    let are : names ≡ map bytes_of (map (λ (text : Bor (List ℕ)). text.now) texts) = ap (map (λ (name : Bor (List ℕ)). name.now)) c.deref-2.ensures.value ∙ c.in_ok-lent.ensures ∙ ap (map (λ (word : Vec ℕ Global). word.items)) c.deref.ensures.value ∙ c.in_ok-names.ensures in
    let rows = rows_of (found_of c.args.matches.now) in
    names-stop rows c.args.terminal options answers names (g.S.Source.coming c.args.input.now) (g.W.Sink.taken c.args.out.now) (g.W.Sink.taken c.answer_names.new.out)
    (g.E.Sink.taken c.args.err.now) (g.E.Sink.taken c.answer_names.new.err) c.requires.given c.requires.no_objects same (are ∙ ap (map bytes_of) c.names_of-texts.ensures) c.in-Err-answer_names.ensures.err

pub returns-in_err-names-clause-err : goal.returns-in_err-names-clause-err
returns-in_err-names-clause-err g c =
    OnErr-anyway c.from_residual.result _ (stops-unbegun (rows_of (found_of c.args.matches.now)) c.args.terminal (g.S.Source.coming c.args.input.now) (g.W.Sink.taken c.args.out.now) (g.E.Sink.taken c.args.err.now))

pub returns-in_err-lent-clause-err : goal.returns-in_err-lent-clause-err
returns-in_err-lent-clause-err g c =
    OnErr-anyway c.from_residual-in_err-lent.result _ (stops-unbegun (rows_of (found_of c.args.matches.now)) c.args.terminal (g.S.Source.coming c.args.input.now) (g.W.Sink.taken c.args.out.now) (g.E.Sink.taken c.args.err.now))
