use Rattle.sym_filter.proofs.Basics.{◌≡◌, ◌++◌, ◌∙◌, List, [], ℕ, sym, ap, subst, replicate, append-nil, entries_after, Entry, left_at_end, answers_at, written, rest_after}
use Rattle.sym_filter.proofs.EntryLemmas.{entries-end}
use Rattle.sym_filter.proofs.WordLemmas.{rest_of-end, tally-end}
use Rattle.sym_filter.proofs.StreamLemmas.{Puts-push, Puts-join, Puts-same, PutsFront-join, PutsFront-none, PutsFront-same, IfErr-from_and}
use Rattle.sym_filter.proofs.filtering.end_segment.Goals as goal

pub returns-in_err-ended-clause-err : goal.returns-in_err-ended-clause-err
returns-in_err-ended-clause-err g c =
    IfErr-from_and c.from_residual.result _ _ c.from_residual.ensures.1 (λ fault is_memory. (λ is_read. cc, PutsFront-none _ c.args.out.now.items (rest_after (g.D.Demangler.answer c.args.demangler.now) c.args.words.now [])))

pub returns-in_err-write_dots-clause-err : goal.returns-in_err-write_dots-clause-err
returns-in_err-write_dots-clause-err g c =
    let answers = g.D.Demangler.answer c.args.demangler.now in
    let words = c.args.words.now in
    let out = c.args.out.now.items in
    let word = written words.letters answers words.place words.held.items in
    let ended = c.in_ok-ended.ensures in
    let wrote = c.in_err-write_dots.ensures.err in
    let whole : word ++ replicate c.in_ok-ended.ended.dots 46 ≡ rest_after answers words [] = ap (λ (n : ℕ). word ++ replicate n 46) ended.dots ∙ sym (rest_of-end words.letters answers words.held.items words.dots words.past words.place words.is_held) in
    let front = PutsFront-same _ _ out (word ++ replicate c.in_ok-ended.ended.dots 46) (rest_after answers words []) whole (PutsFront-join _ _ _ out c.end_segment.new.out.items word (replicate c.in_ok-ended.ended.dots 46) (Puts-push _ out c.end_segment.new.out.items word ended.text) wrote.1) in
    IfErr-from_and c.from_residual-in_err-write_dots.result _ _ c.from_residual-in_err-write_dots.ensures.1 (λ fault is_fault. (λ is_read. wrote.0 (sym is_fault ∙ is_read), front))

pub returns-clause-ok : goal.returns-clause-ok
returns-clause-ok g c =
    let answers = g.D.Demangler.answer c.args.demangler.now in
    let words = c.args.words.now in
    let out = c.args.out.now.items in
    let word = written words.letters answers words.place words.held.items in
    let ended = c.in_ok-ended.ensures in
    let dots = replicate c.in_ok-ended.ended.dots 46 in
    let whole : word ++ dots ≡ rest_after answers words [] = ap (λ (n : ℕ). word ++ replicate n 46) ended.dots ∙ sym (rest_of-end words.letters answers words.held.items words.dots words.past words.place words.is_held) in
    let put = Puts-join _ _ _ out c.end_segment.new.out.items c.write_dots.new.out.items word dots (Puts-push _ out c.end_segment.new.out.items word ended.text) c.in_ok-write_dots.ensures.ok in
    Puts-same _ _ out c.write_when_full.new.out.items ((word ++ dots) ++ []) (rest_after answers words []) (append-nil (word ++ dots) ∙ whole) (Puts-join _ _ _ out c.write_dots.new.out.items c.write_when_full.new.out.items (word ++ dots) [] put c.in_ok-write_when_full.ensures.ok)

pub returns-in_err-write_when_full-clause-err : goal.returns-in_err-write_when_full-clause-err
returns-in_err-write_when_full-clause-err g c =
    let answers = g.D.Demangler.answer c.args.demangler.now in
    let words = c.args.words.now in
    let out = c.args.out.now.items in
    let word = written words.letters answers words.place words.held.items in
    let ended = c.in_ok-ended.ensures in
    let dots = replicate c.in_ok-ended.ended.dots 46 in
    let wrote = c.in_err-write_when_full.ensures.err in
    let whole : word ++ dots ≡ rest_after answers words [] = ap (λ (n : ℕ). word ++ replicate n 46) ended.dots ∙ sym (rest_of-end words.letters answers words.held.items words.dots words.past words.place words.is_held) in
    let put = Puts-join _ _ _ out c.end_segment.new.out.items c.write_dots.new.out.items word dots (Puts-push _ out c.end_segment.new.out.items word ended.text) c.in_ok-write_dots.ensures.ok in
    let front = PutsFront-same _ _ out ((word ++ dots) ++ []) (rest_after answers words []) (append-nil (word ++ dots) ∙ whole) (PutsFront-join _ _ _ out c.write_dots.new.out.items (word ++ dots) [] put wrote.1) in
    IfErr-from_and c.from_residual-in_err-write_when_full.result _ _ c.from_residual-in_err-write_when_full.ensures.1 (λ fault is_fault. (λ is_read. wrote.0 (sym is_fault ∙ is_read), front))

pub returns-clause-counts : goal.returns-clause-counts
returns-clause-counts g c =
    let words = c.args.words.now in
    c.in_ok-ended.ensures.counts ∙ tally-end words.letters (answers_at words.letters (g.D.Demangler.answer c.args.demangler.now)) words.tally words.held.items words.dots words.past words.place words.is_held

pub returns-in_err-ended-clause-told : goal.returns-in_err-ended-clause-told
returns-in_err-ended-clause-told g c =
    let report = c.args.report.now in
    let entries = entries_after (g.D.Demangler.answer c.args.demangler.now) c.args.words.now [] in
    IfErr-from_and c.from_residual.result _ _ c.from_residual.ensures.1 (λ fault is_memory. g.met.P.Report.stops_within report report [] entries (g.met.P.Report.tells_none report))

pub returns-in_err-tell_left-clause-err : goal.returns-in_err-tell_left-clause-err
returns-in_err-tell_left-clause-err g c =
    let told = c.in_err-tell_left.ensures.stops in
    IfErr-from_and c.from_residual-in_err-tell_left.result _ _ c.from_residual-in_err-tell_left.ensures.1 (λ fault is_fault. (λ is_read. told.0 (sym is_fault ∙ is_read), PutsFront-none _ c.args.out.now.items (rest_after (g.D.Demangler.answer c.args.demangler.now) c.args.words.now [])))

pub returns-in_err-tell_left-clause-told : goal.returns-in_err-tell_left-clause-told
returns-in_err-tell_left-clause-told g c =
    let answers = g.D.Demangler.answer c.args.demangler.now in
    let words = c.args.words.now in
    let is : left_at_end c.in_ok-ended.ended.left c.deref.result.now ≡ entries_after answers words [] =
    ap (left_at_end c.in_ok-ended.ended.left) c.deref.ensures.value ∙ c.in_ok-ended.ensures.left.1 ∙ sym (entries-end words.letters answers words.held.items words.dots words.past words.place words.is_held) in
    let stops = subst (λ (e : List Entry). g.P.Report.Stops c.args.report.now c.tell_left.new.report e) is c.in_err-tell_left.ensures.stops.1 in
    IfErr-from_and c.from_residual-in_err-tell_left.result _ _ c.from_residual-in_err-tell_left.ensures.1 (λ fault is_fault. stops)

pub returns-in_err-write_dots-clause-told : goal.returns-in_err-write_dots-clause-told
returns-in_err-write_dots-clause-told g c =
    let answers = g.D.Demangler.answer c.args.demangler.now in
    let words = c.args.words.now in
    let entries = left_at_end c.in_ok-ended.ended.left c.deref.result.now in
    let is : entries ++ [] ≡ entries_after answers words [] =
    append-nil entries ∙ ap (left_at_end c.in_ok-ended.ended.left) c.deref.ensures.value ∙ c.in_ok-ended.ensures.left.1 ∙ sym (entries-end words.letters answers words.held.items words.dots words.past words.place words.is_held) in
    let stops = subst (λ (e : List Entry). g.P.Report.Stops c.args.report.now c.tell_left.new.report e) is (g.met.P.Report.stops_within c.args.report.now c.tell_left.new.report entries [] c.in_ok-tell_left.ensures.tells) in
    IfErr-from_and c.from_residual-in_err-write_dots.result _ _ c.from_residual-in_err-write_dots.ensures.1 (λ fault is_fault. stops)

pub returns-in_err-write_when_full-clause-told : goal.returns-in_err-write_when_full-clause-told
returns-in_err-write_when_full-clause-told g c =
    let answers = g.D.Demangler.answer c.args.demangler.now in
    let words = c.args.words.now in
    let entries = left_at_end c.in_ok-ended.ended.left c.deref.result.now in
    let is : entries ++ [] ≡ entries_after answers words [] =
    append-nil entries ∙ ap (left_at_end c.in_ok-ended.ended.left) c.deref.ensures.value ∙ c.in_ok-ended.ensures.left.1 ∙ sym (entries-end words.letters answers words.held.items words.dots words.past words.place words.is_held) in
    let stops = subst (λ (e : List Entry). g.P.Report.Stops c.args.report.now c.tell_left.new.report e) is (g.met.P.Report.stops_within c.args.report.now c.tell_left.new.report entries [] c.in_ok-tell_left.ensures.tells) in
    IfErr-from_and c.from_residual-in_err-write_when_full.result _ _ c.from_residual-in_err-write_when_full.ensures.1 (λ fault is_fault. stops)

pub returns-clause-tells : goal.returns-clause-tells
returns-clause-tells g c =
    let answers = g.D.Demangler.answer c.args.demangler.now in
    let words = c.args.words.now in
    let is : left_at_end c.in_ok-ended.ended.left c.deref.result.now ≡ entries_after answers words [] =
    ap (left_at_end c.in_ok-ended.ended.left) c.deref.ensures.value ∙ c.in_ok-ended.ensures.left.1 ∙ sym (entries-end words.letters answers words.held.items words.dots words.past words.place words.is_held) in
    subst (λ (e : List Entry). g.P.Report.Tells c.args.report.now c.tell_left.new.report e) is c.in_ok-tell_left.ensures.tells
