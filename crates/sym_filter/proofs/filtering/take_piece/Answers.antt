use Rattle.sym_filter.proofs.Basics.{◌≡◌, refl, ◌-◌, ◌++◌, ◌∙◌, [], List, ℕ, take, drop, length, sym, ap, subst, arith, append-nil, take_all, length-drop, rest_of_text, TakesText, TakesTextEntries, entries_in_rest, Entry}
use Rattle.sym_filter.proofs.CarryLemmas.{TakesText-join, text-bytes}
use Rattle.sym_filter.proofs.WordLemmas.{slice_from}
use Rattle.sym_filter.proofs.StreamLemmas.{Appends-none, few-still, Puts-join, Puts-same, PutsFront-more, PutsFront-join, PutsFront-same, take-part, IfErr-from_and}
use Rattle.sym_filter.proofs.TextEntryLemmas.{TakesTextEntries-join, text-entries}
use Rattle.sym_filter.proofs.filtering.take_piece.Goals as goal

pub loop-at-init : goal.loop-at-init
loop-at-init g c = record {
  bytes = [];
  entries = [];
  few = few-still [] c.args.out.now.items c.requires.nothing_waits (omega arith);
  within = omega arith;
  takes = record {
    text = λ more. refl;
    counts = λ more. refl;
    dots = omega arith;
    letters = refl;
  };
  puts = record { gone = []; writes = Appends-none _; keeps = sym c.requires.nothing_waits };
  tells = g.met.P.Report.tells_none c.args.report.now;
  gives = record { all = λ more. refl };
  failures = refl;
  report_failures = refl;
}

pub loop-at-preserved : goal.loop-at-preserved
loop-at-preserved g c =
    let so_far = c.loop-at.invariant in
    let answers = g.D.Demangler.answer c.args.demangler.now in
    let piece = c.args.piece.now in
    let at = c.loop-at.at in
    let rest = take (length piece - at) (drop at piece) in
    let count = c.in_ok-count.count in
    let took = c.in_ok-count.ensures in record {
      bytes = so_far.bytes ++ took.ok.0;
      entries = so_far.entries ++ took.tells.0;
      few = took.few_wait;
      within = omega (arith, so_far.within, took.within.1, ap length (slice_from piece at), length-drop at piece);
      takes = subst (λ (t : List ℕ). TakesText answers c.args.words.now c.take_segment.new.words c.args.escape.now c.take_segment.new.escape t (so_far.bytes ++ took.ok.0)) (sym (take-part piece at count)) (TakesText-join answers _ _ _ _ _ _ (take at piece) (take count rest) so_far.bytes took.ok.0 so_far.takes took.ok.1);
      puts = Puts-join _ _ _ [] c.loop-at.out.items c.take_segment.new.out.items so_far.bytes took.ok.0 so_far.puts took.ok.2;
      tells = g.met.P.Report.tells_both c.args.report.now c.loop-at.report c.take_segment.new.report so_far.entries took.tells.0 so_far.tells took.tells.1;
      gives = subst (λ (t : List ℕ). TakesTextEntries answers c.args.words.now c.take_segment.new.words c.args.escape.now c.take_segment.new.escape t (so_far.entries ++ took.tells.0)) (sym (take-part piece at count)) (TakesTextEntries-join answers _ _ _ _ _ _ (take at piece) (take count rest) so_far.entries took.tells.0 so_far.gives took.tells.2);
      failures = took.same_failures.0 ∙ so_far.failures;
      report_failures = took.same_failures.1 ∙ so_far.report_failures;
    }

pub returns-in_err-count-clause-err : goal.returns-in_err-count-clause-err
returns-in_err-count-clause-err g c =
    let so_far = c.loop-at.invariant in
    let answers = g.D.Demangler.answer c.args.demangler.now in
    let piece = c.args.piece.now in
    let at = c.loop-at.at in
    let rest = take (length piece - at) (drop at piece) in
    let more = λ (text : List ℕ). rest_of_text answers c.loop-at.words c.loop-at.escape text in
    let wrote = c.in_err-count.ensures.err in
    let whole : so_far.bytes ++ more rest ≡ rest_of_text answers c.args.words.now c.args.escape.now piece = ap (λ (t : List ℕ). so_far.bytes ++ more t) (slice_from piece at) ∙ sym (text-bytes answers c.args.words.now c.loop-at.words c.args.escape.now c.loop-at.escape piece so_far.bytes at so_far.takes) in
    let front = PutsFront-same _ _ [] (so_far.bytes ++ more rest) (rest_of_text answers c.args.words.now c.args.escape.now piece) whole (PutsFront-join _ _ _ [] c.loop-at.out.items so_far.bytes (more rest) so_far.puts wrote.1) in
    IfErr-from_and c.from_residual.result _ _ c.from_residual.ensures.1 (λ fault is_fault. (λ is_read. wrote.0 (sym is_fault ∙ is_read), front))

pub returns-in_err-write_out-clause-err : goal.returns-in_err-write_out-clause-err
returns-in_err-write_out-clause-err g c =
    let so_far = c.loop-at.invariant in
    let answers = g.D.Demangler.answer c.args.demangler.now in
    let piece = c.args.piece.now in
    let more = rest_of_text answers c.loop-at.words c.loop-at.escape (drop c.loop-at.at piece) in
    let wrote = c.in_err-write_out.ensures.err in
    let whole : (so_far.bytes ++ []) ++ more ≡ rest_of_text answers c.args.words.now c.args.escape.now piece = ap (λ (t : List ℕ). t ++ more) (append-nil so_far.bytes) ∙ sym (text-bytes answers c.args.words.now c.loop-at.words c.args.escape.now c.loop-at.escape piece so_far.bytes c.loop-at.at so_far.takes) in
    let front = PutsFront-same _ _ [] ((so_far.bytes ++ []) ++ more) (rest_of_text answers c.args.words.now c.args.escape.now piece) whole (PutsFront-more _ _ [] (so_far.bytes ++ []) more (PutsFront-join _ _ _ [] c.loop-at.out.items so_far.bytes [] so_far.puts wrote.1)) in
    IfErr-from_and c.from_residual-in_err-write_out.result _ _ c.from_residual-in_err-write_out.ensures.1 (λ fault is_fault. (λ is_read. wrote.0 (sym is_fault ∙ is_read), front))

pub returns-clause-ok : goal.returns-clause-ok
returns-clause-ok g c =
    let so_far = c.loop-at.invariant in
    let answers = g.D.Demangler.answer c.args.demangler.now in
    let piece = c.args.piece.now in
    let whole : take c.loop-at.at piece ≡ piece = take_all c.loop-at.at piece (omega arith) in
    let wrote = c.in_ok-write_out.ensures.ok in
    (so_far.bytes, subst (λ (t : List ℕ). TakesText answers c.args.words.now c.loop-at.words c.args.escape.now c.loop-at.escape t so_far.bytes) whole so_far.takes, Puts-same _ _ [] c.write_out.new.out.items (so_far.bytes ++ []) so_far.bytes (append-nil so_far.bytes) (Puts-join _ _ _ [] c.loop-at.out.items c.write_out.new.out.items so_far.bytes [] so_far.puts wrote))

pub returns-in_err-count-clause-told : goal.returns-in_err-count-clause-told
returns-in_err-count-clause-told g c =
    let so_far = c.loop-at.invariant in
    let answers = g.D.Demangler.answer c.args.demangler.now in
    let piece = c.args.piece.now in
    let at = c.loop-at.at in
    let rest = take (length piece - at) (drop at piece) in
    let more = λ (text : List ℕ). entries_in_rest answers c.loop-at.words c.loop-at.escape text in
    let whole : so_far.entries ++ more rest ≡ entries_in_rest answers c.args.words.now c.args.escape.now piece = ap (λ (t : List ℕ). so_far.entries ++ more t) (slice_from piece at) ∙ sym (text-entries answers c.args.words.now c.loop-at.words c.args.escape.now c.loop-at.escape piece so_far.entries at so_far.gives) in
    let stops = subst (λ (e : List Entry). g.P.Report.Stops c.args.report.now c.take_segment.new.report e) whole (g.met.P.Report.stops_later c.args.report.now c.loop-at.report c.take_segment.new.report so_far.entries (more rest) so_far.tells c.in_err-count.ensures.told) in
    IfErr-from_and c.from_residual.result _ _ c.from_residual.ensures.1 (λ fault is_fault. stops)

pub returns-in_err-write_out-clause-told : goal.returns-in_err-write_out-clause-told
returns-in_err-write_out-clause-told g c =
    let so_far = c.loop-at.invariant in
    let answers = g.D.Demangler.answer c.args.demangler.now in
    let piece = c.args.piece.now in
    let more = entries_in_rest answers c.loop-at.words c.loop-at.escape (drop c.loop-at.at piece) in
    let whole : so_far.entries ++ more ≡ entries_in_rest answers c.args.words.now c.args.escape.now piece = sym (text-entries answers c.args.words.now c.loop-at.words c.args.escape.now c.loop-at.escape piece so_far.entries c.loop-at.at so_far.gives) in
    let stops = subst (λ (e : List Entry). g.P.Report.Stops c.args.report.now c.loop-at.report e) whole (g.met.P.Report.stops_within c.args.report.now c.loop-at.report so_far.entries more so_far.tells) in
    IfErr-from_and c.from_residual-in_err-write_out.result _ _ c.from_residual-in_err-write_out.ensures.1 (λ fault is_fault. stops)

pub returns-clause-tells : goal.returns-clause-tells
returns-clause-tells g c =
    let so_far = c.loop-at.invariant in
    let answers = g.D.Demangler.answer c.args.demangler.now in
    let piece = c.args.piece.now in
    let whole : take c.loop-at.at piece ≡ piece = take_all c.loop-at.at piece (omega arith) in
    (so_far.entries, so_far.tells, subst (λ (t : List ℕ). TakesTextEntries answers c.args.words.now c.loop-at.words c.args.escape.now c.loop-at.escape t so_far.entries) whole so_far.gives)
