use Rattle.sym_filter.proofs.Basics.{◌≡◌, ◌++◌, ◌∙◌, List, [], ℕ, true, false, take, sym, ap, subst, not-false, not-true, Letters, IsRead, rest_of_text, entries_after, entries_in_rest, Entry, rest_after}
use Rattle.sym_filter.proofs.TextEntryLemmas.{TakesTextEntries-end, TakesTextEntries-part, entries-begin, entries-segment-end}
use Rattle.sym_filter.proofs.CarryLemmas.{TakesText-part, TakesText-end, front-begins, segment-end, IsRead-as}
use Rattle.sym_filter.proofs.StreamLemmas.{Puts-join, PutsFront-join, PutsFront-more, PutsFront-same, IfErr-from_and}
use Rattle.sym_filter.proofs.filtering.take_segment.Goals as goal

pub returns-in_err-take_words-clause-err : goal.returns-in_err-take_words-clause-err
returns-in_err-take_words-clause-err g c =
    let answers = g.D.Demangler.answer c.args.demangler.now in
    let words = c.args.words.now in
    let text = c.args.text.now in
    let segment = c.first_segment-segment.result in
    let read = subst (λ (l : Letters). IsRead segment.ends l c.args.escape.now segment.escape (take segment.length text)) c.letters.ensures c.first_segment-segment.ensures.read in
    let begins = front-begins segment.ends answers words c.args.escape.now segment.escape text segment.length read c.first_segment-segment.ensures.whole in
    let wrote = c.in_err-take_words.ensures.err in
    let out = c.args.out.now.items in
    let front = PutsFront-same _ _ out (rest_after answers words (take segment.length text) ++ begins.0) (rest_of_text answers words c.args.escape.now text) (sym begins.1) (PutsFront-more _ _ out (rest_after answers words (take segment.length text)) begins.0 wrote.1) in
    IfErr-from_and c.from_residual.result _ _ c.from_residual.ensures.1 (λ fault is_fault. (λ is_read. wrote.0 (sym is_fault ∙ is_read), front))

pub returns-then-not-segment-clause-ok : goal.returns-then-not-segment-clause-ok
returns-then-not-segment-clause-ok g c =
    let answers = g.D.Demangler.answer c.args.demangler.now in
    let segment = c.first_segment-segment.result in
    let part = take segment.length c.args.text.now in
    let goes_on : segment.ends ≡ false = not-true segment.ends c.if-not-segment.true in
    let read = IsRead-as segment.ends false c.letters.result c.args.words.now.letters c.args.escape.now segment.escape part goes_on c.letters.ensures c.first_segment-segment.ensures.read in
    let took = c.in_ok-take_words.ensures.ok in
    (took.0, TakesText-part answers c.args.words.now c.take_words.new.words c.args.escape.now segment.escape part took.0 took.1 read, took.2)

pub returns-in_err-end_segment-clause-err : goal.returns-in_err-end_segment-clause-err
returns-in_err-end_segment-clause-err g c =
    let answers = g.D.Demangler.answer c.args.demangler.now in
    let words = c.args.words.now in
    let text = c.args.text.now in
    let segment = c.first_segment-segment.result in
    let part = take segment.length text in
    let read = subst (λ (l : Letters). IsRead segment.ends l c.args.escape.now segment.escape part) c.letters.ensures c.first_segment-segment.ensures.read in
    let begins = front-begins segment.ends answers words c.args.escape.now segment.escape text segment.length read c.first_segment-segment.ensures.whole in
    let took = c.in_ok-take_words.ensures.ok in
    let wrote = c.in_err-end_segment.ensures.err in
    let out = c.args.out.now.items in
    let rest = rest_after answers c.take_words.new.words [] in
    let whole : (took.0 ++ rest) ++ begins.0 ≡ rest_of_text answers words c.args.escape.now text = sym (begins.1 ∙ ap (λ (t : List ℕ). t ++ begins.0) (segment-end answers words c.take_words.new.words part took.0 took.1)) in
    let front = PutsFront-same _ _ out ((took.0 ++ rest) ++ begins.0) (rest_of_text answers words c.args.escape.now text) whole (PutsFront-more _ _ out (took.0 ++ rest) begins.0 (PutsFront-join _ _ _ out c.take_words.new.out.items took.0 rest took.2 wrote.1)) in
    IfErr-from_and c.from_residual-in_err-end_segment.result _ _ c.from_residual-in_err-end_segment.ensures.1 (λ fault is_fault. (λ is_read. wrote.0 (sym is_fault ∙ is_read), front))

pub returns-clause-ok : goal.returns-clause-ok
returns-clause-ok g c =
    let answers = g.D.Demangler.answer c.args.demangler.now in
    let segment = c.first_segment-segment.result in
    let part = take segment.length c.args.text.now in
    let ends : segment.ends ≡ true = not-false segment.ends c.if-not-segment.false in
    let read = IsRead-as segment.ends true c.letters.result c.args.words.now.letters c.args.escape.now segment.escape part ends c.letters.ensures c.first_segment-segment.ensures.read in
    let took = c.in_ok-take_words.ensures.ok in
    let ended = c.in_ok-end_segment.ensures in
    let rest = rest_after answers c.take_words.new.words [] in
    (took.0 ++ rest, TakesText-end answers c.args.words.now c.take_words.new.words c.end_segment.new.words c.args.escape.now segment.escape part took.0 took.1 read ended.letters ended.begins ended.counts, Puts-join _ _ _ c.args.out.now.items c.take_words.new.out.items c.end_segment.new.out.items took.0 rest took.2 ended.ok)

pub returns-in_err-take_words-clause-told : goal.returns-in_err-take_words-clause-told
returns-in_err-take_words-clause-told g c =
    let answers = g.D.Demangler.answer c.args.demangler.now in
    let words = c.args.words.now in
    let text = c.args.text.now in
    let segment = c.first_segment-segment.result in
    let read = subst (λ (l : Letters). IsRead segment.ends l c.args.escape.now segment.escape (take segment.length text)) c.letters.ensures c.first_segment-segment.ensures.read in
    let begins = entries-begin segment.ends answers words c.args.escape.now segment.escape text segment.length read c.first_segment-segment.ensures.whole in
    let stops = subst (λ (e : List Entry). g.P.Report.Stops c.args.report.now c.take_words.new.report e) (sym begins.1) (g.met.P.Report.stops_before c.args.report.now c.take_words.new.report (entries_after answers words (take segment.length text)) begins.0 c.in_err-take_words.ensures.told) in
    IfErr-from_and c.from_residual.result _ _ c.from_residual.ensures.1 (λ fault is_fault. stops)

pub returns-then-not-segment-clause-tells : goal.returns-then-not-segment-clause-tells
returns-then-not-segment-clause-tells g c =
    let answers = g.D.Demangler.answer c.args.demangler.now in
    let segment = c.first_segment-segment.result in
    let part = take segment.length c.args.text.now in
    let goes_on : segment.ends ≡ false = not-true segment.ends c.if-not-segment.true in
    let read = IsRead-as segment.ends false c.letters.result c.args.words.now.letters c.args.escape.now segment.escape part goes_on c.letters.ensures c.first_segment-segment.ensures.read in
    let told = c.in_ok-take_words.ensures.tells in
    (told.0, told.1, TakesTextEntries-part answers c.args.words.now c.take_words.new.words c.args.escape.now segment.escape part told.0 told.2 c.in_ok-take_words.ensures.ok.1.letters read)

pub returns-in_err-end_segment-clause-told : goal.returns-in_err-end_segment-clause-told
returns-in_err-end_segment-clause-told g c =
    let answers = g.D.Demangler.answer c.args.demangler.now in
    let words = c.args.words.now in
    let text = c.args.text.now in
    let segment = c.first_segment-segment.result in
    let part = take segment.length text in
    let read = subst (λ (l : Letters). IsRead segment.ends l c.args.escape.now segment.escape part) c.letters.ensures c.first_segment-segment.ensures.read in
    let begins = entries-begin segment.ends answers words c.args.escape.now segment.escape text segment.length read c.first_segment-segment.ensures.whole in
    let told = c.in_ok-take_words.ensures.tells in
    let rest = entries_after answers c.take_words.new.words [] in
    let whole : (told.0 ++ rest) ++ begins.0 ≡ entries_in_rest answers words c.args.escape.now text = sym (begins.1 ∙ ap (λ (t : List Entry). t ++ begins.0) (entries-segment-end answers words c.take_words.new.words part told.0 told.2)) in
    let stops = subst (λ (e : List Entry). g.P.Report.Stops c.args.report.now c.end_segment.new.report e) whole
    (g.met.P.Report.stops_before c.args.report.now c.end_segment.new.report (told.0 ++ rest) begins.0 (g.met.P.Report.stops_later c.args.report.now c.take_words.new.report c.end_segment.new.report told.0 rest told.1 c.in_err-end_segment.ensures.told)) in
    IfErr-from_and c.from_residual-in_err-end_segment.result _ _ c.from_residual-in_err-end_segment.ensures.1 (λ fault is_fault. stops)

pub returns-clause-tells : goal.returns-clause-tells
returns-clause-tells g c =
    let answers = g.D.Demangler.answer c.args.demangler.now in
    let segment = c.first_segment-segment.result in
    let part = take segment.length c.args.text.now in
    let ends : segment.ends ≡ true = not-false segment.ends c.if-not-segment.false in
    let read = IsRead-as segment.ends true c.letters.result c.args.words.now.letters c.args.escape.now segment.escape part ends c.letters.ensures c.first_segment-segment.ensures.read in
    let told = c.in_ok-take_words.ensures.tells in
    let ended = c.in_ok-end_segment.ensures in
    let rest = entries_after answers c.take_words.new.words [] in (
      told.0 ++ rest,
      g.met.P.Report.tells_both c.args.report.now c.take_words.new.report c.end_segment.new.report told.0 rest told.1 ended.tells,
      TakesTextEntries-end answers c.args.words.now c.take_words.new.words c.end_segment.new.words c.args.escape.now segment.escape part told.0 told.2 c.in_ok-take_words.ensures.ok.1.letters read ended.letters ended.begins.0 ended.begins.3 ended.begins.2,
    )
