use Rattle.demangle_command.proofs.Basics.{◌≡◌, ◌∙◌, ap, sym, subst, map, Bor, Bool, List, [], ℕ, Vec, Global, inl, inr, refl, Appends, no-words, OnErr-anyway, PutsFront-none, PutsFront, status_of, reads_paths, bytes_of}
use Rattle.json_lines.specs.Objects.{name_lines, names_stay}
use Rattle.json_lines.specs.Texts.{TellsObjects, TellsObjectsFront}
use Rattle.demangle_command.proofs.TextLemmas.{some-words}
use Rattle.demangle_command.proofs.command.write_objects.Goals as goal

pub returns-in-Ok-clause-ok : goal.returns-in-Ok-clause-ok
returns-in-Ok-clause-ok g c =
    let answers = g.D.Demangler.answer c.args.demangler.now in
    let details = g.D.Detailed.details c.args.demangler.now in
    let coming = g.S.Source.coming c.args.input.now in
    let coming' = g.S.Source.coming c.tell_objects.new.input in
    let out = g.W.Sink.taken c.args.out.now in
    let out' = g.W.Sink.taken c.tell_objects.new.out in
    let one_stays = c.in-Ok.one_stays in
    inr (record {
      none = ap (map bytes_of) (no-words c.args.texts.now (sym c.is_empty.ensures ∙ c.if-is_empty.true));
      one_stays = one_stays;
      told = subst (λ (paths : Bool). TellsObjects paths answers details coming coming' out out' one_stays) c.reads_paths.ensures c.in-Ok.ensures.ok;
      ends = c.status_of.ensures;
    })

pub returns-in-Err-clause-err : goal.returns-in-Err-clause-err
returns-in-Err-clause-err g c =
    let answers = g.D.Demangler.answer c.args.demangler.now in
    let details = g.D.Detailed.details c.args.demangler.now in
    let coming = g.S.Source.coming c.args.input.now in
    let coming' = g.S.Source.coming c.tell_objects.new.input in
    let out = g.W.Sink.taken c.args.out.now in
    let out' = g.W.Sink.taken c.tell_objects.new.out in
    inr (
      ap (map bytes_of) (no-words c.args.texts.now (sym c.is_empty.ensures ∙ c.if-is_empty.true)),
      subst (λ (paths : Bool). TellsObjectsFront paths answers details coming coming' out out') c.reads_paths.ensures c.in-Err.ensures.err,
    )

pub returns-in_err-names-clause-err : goal.returns-in_err-names-clause-err
returns-in_err-names-clause-err g c = OnErr-anyway c.from_residual.result _ (inl (refl, PutsFront-none (g.W.Sink.taken c.args.out.now) [] _))

pub returns-in_err-lent-clause-err : goal.returns-in_err-lent-clause-err
returns-in_err-lent-clause-err g c = OnErr-anyway c.from_residual-in_err-lent.result _ (inl (refl, PutsFront-none (g.W.Sink.taken c.args.out.now) [] _))

pub returns-in-Ok-answer_objects-clause-ok : goal.returns-in-Ok-answer_objects-clause-ok
returns-in-Ok-answer_objects-clause-ok g c =
    let options = c.args.options in
    let answers = g.D.Demangler.answer c.args.demangler.now in
    let details = g.D.Detailed.details c.args.demangler.now in
    let texts = c.args.texts.now in
    let names = map (λ (name : Bor (List ℕ)). name.now) c.deref-2.result.now in
    let are : names ≡ map bytes_of (map (λ (text : Bor (List ℕ)). text.now) texts) = ap (map (λ (name : Bor (List ℕ)). name.now)) c.deref-2.ensures.value ∙ c.in_ok-lent.ensures ∙ ap (map (λ (word : Vec ℕ Global). word.items)) c.deref.ensures.value ∙ c.in_ok-names.ensures in
    let done = c.in-Ok-answer_objects.ensures in
    inl (record {
      some = λ none. some-words texts (sym c.is_empty.ensures ∙ c.if-is_empty.false) none;
      unread = refl;
      writes = subst (λ (ns : List (List ℕ)). Appends (g.W.Sink.taken c.args.out.now) (g.W.Sink.taken c.answer_objects.new.out) (name_lines options.types (reads_paths options.style) answers details ns)) are done.lines;
      ends = c.status_of-in-Ok-answer_objects.ensures ∙ ap (status_of options.strict) (done.stays ∙ ap (names_stay options.types (reads_paths options.style) answers details) are);
    })

pub returns-clause-err : goal.returns-clause-err
returns-clause-err g c =
    let options = c.args.options in
    let answers = g.D.Demangler.answer c.args.demangler.now in
    let details = g.D.Detailed.details c.args.demangler.now in
    let names = map (λ (name : Bor (List ℕ)). name.now) c.deref-2.result.now in
    let are : names ≡ map bytes_of (map (λ (text : Bor (List ℕ)). text.now) c.args.texts.now) = ap (map (λ (name : Bor (List ℕ)). name.now)) c.deref-2.ensures.value ∙ c.in_ok-lent.ensures ∙ ap (map (λ (word : Vec ℕ Global). word.items)) c.deref.ensures.value ∙ c.in_ok-names.ensures in
    inl (refl, subst (λ (ns : List (List ℕ)). PutsFront (g.W.Sink.taken c.args.out.now) (g.W.Sink.taken c.answer_objects.new.out) [] (name_lines options.types (reads_paths options.style) answers details ns)) are c.in-Err-answer_objects.ensures.err)
