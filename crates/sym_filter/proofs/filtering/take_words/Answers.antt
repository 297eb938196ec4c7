use Rattle.sym_filter.proofs.Basics.{◌≡◌, refl, [], ◌+◌, ◌-◌, ◌++◌, ◌∙◌, List, ℕ, take, drop, length, sym, ap, subst, arith, add-zero, append_assoc, append-nil, take_all, length-drop, rest_after, following, Takes, TakesEntries, entries_after, Entry, left_at_end, newlines_in}
use Rattle.sym_filter.proofs.WordLemmas.{slice_from, Takes-join}
use Rattle.sym_filter.proofs.StreamLemmas.{few-still, Appends-none, Puts-push, Puts-join, PutsFront-of, PutsFront-more, PutsFront-join, PutsFront-same, rest-bytes, take-part, IfErr-from_and}
use Rattle.sym_filter.proofs.EntryLemmas.{TakesEntries-join, entries-rest}
use Rattle.sym_filter.proofs.TextEntryLemmas.{regroup}
use Rattle.sym_filter.proofs.filtering.take_words.Goals as goal

pub loop-at-init : goal.loop-at-init
loop-at-init g c = record {
  bytes = [];
  entries = [];
  few = c.requires.few_wait;
  within = omega arith;
  takes = record {
    text = λ more. refl;
    counts = λ more. refl;
    dots = omega arith;
    letters = refl;
  };
  puts = record { gone = []; writes = Appends-none _; keeps = append-nil c.args.out.now.items };
  tells = g.met.P.Report.tells_none c.args.report.now;
  gives = record { all = λ more. refl };
  failures = refl;
  report_failures = refl;
}

pub loop-at-preserved : goal.loop-at-preserved
loop-at-preserved g c =
    let so_far = c.loop-at.invariant in
    let answers = g.D.Demangler.answer c.args.demangler.now in
    let piece = c.args.piece.now in
    let out = c.args.out.now.items in
    let at = c.loop-at.at in
    let rest = take (length piece - at) (drop at piece) in
    let count = c.in_ok-taken.taken.count in
    let takes = c.in_ok-taken.ensures.takes in
    let follows = following c.in_ok-taken.taken (take count rest) in
    let left = left_at_end c.in_ok-taken.taken.left c.take.new.out.items in
    let lines = newlines_in (take count rest) in
    let told = c.in_ok-tell_left.ensures in
    let passed = c.passes.ensures in
    let put = c.in_ok-put_after.ensures in record {
      bytes = so_far.bytes ++ (takes.0 ++ follows);
      entries = so_far.entries ++ (left ++ lines);
      few = put.few_wait (λ held. few-still c.loop-at.out.items c.take.new.out.items (c.in_ok-taken.ensures.held held) so_far.few);
      within = omega (arith, so_far.within, c.in_ok-taken.ensures.within.1, ap length (slice_from piece at), length-drop at piece);
      takes = subst (λ (t : List ℕ). Takes answers c.args.words.now c.take.new.self t (so_far.bytes ++ (takes.0 ++ follows))) (sym (take-part piece at count)) (Takes-join answers _ _ _ (take at piece) (take count rest) so_far.bytes (takes.0 ++ follows) so_far.takes takes.2);
      puts = Puts-join _ _ _ out c.loop-at.out.items c.put_after.new.out.items so_far.bytes (takes.0 ++ follows) so_far.puts (Puts-join _ _ _ c.loop-at.out.items c.take.new.out.items c.put_after.new.out.items takes.0 follows (Puts-push _ c.loop-at.out.items c.take.new.out.items takes.0 takes.1) put.ok);
      tells = g.met.P.Report.tells_both c.args.report.now c.loop-at.report c.passes.new.self so_far.entries (left ++ lines) so_far.tells
          (g.met.P.Report.tells_both c.loop-at.report c.tell_left.new.report c.passes.new.self left lines (subst (λ (t : List ℕ). g.P.Report.Tells c.loop-at.report c.tell_left.new.report (left_at_end c.in_ok-taken.taken.left t)) c.deref.ensures.value told.tells) passed.tells);
      gives = subst (λ (t : List ℕ). TakesEntries answers c.args.words.now c.take.new.self t (so_far.entries ++ (left ++ lines))) (sym (take-part piece at count)) (TakesEntries-join answers _ _ _ (take at piece) (take count rest) so_far.entries (left ++ lines) so_far.gives c.in_ok-taken.ensures.entries.1);
      failures = put.failures ∙ add-zero _ ∙ so_far.failures;
      report_failures = passed.failures ∙ told.failures ∙ add-zero _ ∙ so_far.report_failures;
    }

pub returns-in_err-taken-clause-err : goal.returns-in_err-taken-clause-err
returns-in_err-taken-clause-err g c =
    let so_far = c.loop-at.invariant in
    let answers = g.D.Demangler.answer c.args.demangler.now in
    let piece = c.args.piece.now in
    let out = c.args.out.now.items in
    let more = rest_after answers c.loop-at.words (drop c.loop-at.at piece) in
    let front = PutsFront-same _ _ out (so_far.bytes ++ more) (rest_after answers c.args.words.now piece) (sym (rest-bytes answers c.args.words.now c.loop-at.words piece so_far.bytes c.loop-at.at so_far.takes)) (PutsFront-of _ _ out c.loop-at.out.items so_far.bytes more so_far.puts) in
    IfErr-from_and c.from_residual.result _ _ c.from_residual.ensures.1 (λ fault is_memory. (λ is_read. cc, front))

pub returns-in_err-put_after-clause-err : goal.returns-in_err-put_after-clause-err
returns-in_err-put_after-clause-err g c =
    let so_far = c.loop-at.invariant in
    let answers = g.D.Demangler.answer c.args.demangler.now in
    let piece = c.args.piece.now in
    let out = c.args.out.now.items in
    let at = c.loop-at.at in
    let rest = take (length piece - at) (drop at piece) in
    let count = c.in_ok-taken.taken.count in
    let takes = c.in_ok-taken.ensures.takes in
    let follows = following c.in_ok-taken.taken (take count rest) in
    let wrote = c.in_err-put_after.ensures.err in
    let old = c.args.words.now in
    let new = c.take.new.self in
    let bytes = so_far.bytes ++ (takes.0 ++ follows) in
    let joined : Takes answers old new (take (at + count) piece) bytes = subst (λ (t : List ℕ). Takes answers old new t bytes) (sym (take-part piece at count)) (Takes-join answers old c.loop-at.words new (take at piece) (take count rest) so_far.bytes (takes.0 ++ follows) so_far.takes takes.2) in
    let more = rest_after answers new (drop (at + count) piece) in
    let whole : ((so_far.bytes ++ takes.0) ++ follows) ++ more ≡ rest_after answers old piece = ap (λ (t : List ℕ). t ++ more) (append_assoc so_far.bytes takes.0 follows) ∙ sym (rest-bytes answers old new piece bytes (at + count) joined) in
    let put = Puts-join _ _ _ out c.loop-at.out.items c.take.new.out.items so_far.bytes takes.0 so_far.puts (Puts-push _ c.loop-at.out.items c.take.new.out.items takes.0 takes.1) in
    let front = PutsFront-same _ _ out (((so_far.bytes ++ takes.0) ++ follows) ++ more) (rest_after answers old piece) whole (PutsFront-more _ _ out ((so_far.bytes ++ takes.0) ++ follows) more (PutsFront-join _ _ _ out c.take.new.out.items (so_far.bytes ++ takes.0) follows put wrote.1)) in
    IfErr-from_and c.from_residual-in_err-put_after.result _ _ c.from_residual-in_err-put_after.ensures.1 (λ fault is_fault. (λ is_read. wrote.0 (sym is_fault ∙ is_read), front))

pub returns-clause-ok : goal.returns-clause-ok
returns-clause-ok g c =
    let so_far = c.loop-at.invariant in
    let answers = g.D.Demangler.answer c.args.demangler.now in
    let piece = c.args.piece.now in
    let whole : take c.loop-at.at piece ≡ piece = take_all c.loop-at.at piece (omega arith) in
    (so_far.bytes, subst (λ (t : List ℕ). Takes answers c.args.words.now c.loop-at.words t so_far.bytes) whole so_far.takes, so_far.puts)

pub returns-in_err-taken-clause-told : goal.returns-in_err-taken-clause-told
returns-in_err-taken-clause-told g c =
    let so_far = c.loop-at.invariant in
    let answers = g.D.Demangler.answer c.args.demangler.now in
    let piece = c.args.piece.now in
    let more = entries_after answers c.loop-at.words (drop c.loop-at.at piece) in
    let stops = subst (λ (e : List Entry). g.P.Report.Stops c.args.report.now c.loop-at.report e) (sym (entries-rest answers c.args.words.now c.loop-at.words piece so_far.entries c.loop-at.at so_far.gives)) (g.met.P.Report.stops_within c.args.report.now c.loop-at.report so_far.entries more so_far.tells) in
    IfErr-from_and c.from_residual.result _ _ c.from_residual.ensures.1 (λ fault is_fault. stops)

pub returns-in_err-tell_left-clause-err : goal.returns-in_err-tell_left-clause-err
returns-in_err-tell_left-clause-err g c =
    let so_far = c.loop-at.invariant in
    let answers = g.D.Demangler.answer c.args.demangler.now in
    let piece = c.args.piece.now in
    let out = c.args.out.now.items in
    let told = c.in_err-tell_left.ensures.stops in
    let more = rest_after answers c.loop-at.words (drop c.loop-at.at piece) in
    let front = PutsFront-same _ _ out (so_far.bytes ++ more) (rest_after answers c.args.words.now piece) (sym (rest-bytes answers c.args.words.now c.loop-at.words piece so_far.bytes c.loop-at.at so_far.takes)) (PutsFront-of _ _ out c.loop-at.out.items so_far.bytes more so_far.puts) in
    IfErr-from_and c.from_residual-in_err-tell_left.result _ _ c.from_residual-in_err-tell_left.ensures.1 (λ fault is_fault. (λ is_read. told.0 (sym is_fault ∙ is_read), front))

pub returns-in_err-tell_left-clause-told : goal.returns-in_err-tell_left-clause-told
returns-in_err-tell_left-clause-told g c =
    let so_far = c.loop-at.invariant in
    let answers = g.D.Demangler.answer c.args.demangler.now in
    let piece = c.args.piece.now in
    let at = c.loop-at.at in
    let rest = take (length piece - at) (drop at piece) in
    let count = c.in_ok-taken.taken.count in
    let old = c.args.words.now in
    let new = c.take.new.self in
    let left = left_at_end c.in_ok-taken.taken.left c.take.new.out.items in
    let lines = newlines_in (take count rest) in
    let more = entries_after answers new (drop (at + count) piece) in
    let joined : TakesEntries answers old new (take (at + count) piece) (so_far.entries ++ (left ++ lines)) = subst (λ (t : List ℕ). TakesEntries answers old new t (so_far.entries ++ (left ++ lines))) (sym (take-part piece at count)) (TakesEntries-join answers old c.loop-at.words new (take at piece) (take count rest) so_far.entries (left ++ lines) so_far.gives c.in_ok-taken.ensures.entries.1) in
    let whole : (so_far.entries ++ left) ++ (lines ++ more) ≡ entries_after answers old piece = regroup so_far.entries left lines more ∙ sym (entries-rest answers old new piece (so_far.entries ++ (left ++ lines)) (at + count) joined) in
    let told = subst (λ (t : List ℕ). g.P.Report.Stops c.loop-at.report c.tell_left.new.report (left_at_end c.in_ok-taken.taken.left t)) c.deref.ensures.value c.in_err-tell_left.ensures.stops.1 in
    let stops = subst (λ (e : List Entry). g.P.Report.Stops c.args.report.now c.tell_left.new.report e) whole
    (g.met.P.Report.stops_before c.args.report.now c.tell_left.new.report (so_far.entries ++ left) (lines ++ more) (g.met.P.Report.stops_later c.args.report.now c.loop-at.report c.tell_left.new.report so_far.entries left so_far.tells told)) in
    IfErr-from_and c.from_residual-in_err-tell_left.result _ _ c.from_residual-in_err-tell_left.ensures.1 (λ fault is_fault. stops)

pub returns-in_err-put_after-clause-told : goal.returns-in_err-put_after-clause-told
returns-in_err-put_after-clause-told g c =
    let so_far = c.loop-at.invariant in
    let answers = g.D.Demangler.answer c.args.demangler.now in
    let piece = c.args.piece.now in
    let at = c.loop-at.at in
    let rest = take (length piece - at) (drop at piece) in
    let count = c.in_ok-taken.taken.count in
    let old = c.args.words.now in
    let new = c.take.new.self in
    let left = left_at_end c.in_ok-taken.taken.left c.take.new.out.items in
    let lines = newlines_in (take count rest) in
    let more = entries_after answers new (drop (at + count) piece) in
    let joined : TakesEntries answers old new (take (at + count) piece) (so_far.entries ++ (left ++ lines)) = subst (λ (t : List ℕ). TakesEntries answers old new t (so_far.entries ++ (left ++ lines))) (sym (take-part piece at count)) (TakesEntries-join answers old c.loop-at.words new (take at piece) (take count rest) so_far.entries (left ++ lines) so_far.gives c.in_ok-taken.ensures.entries.1) in
    let told = subst (λ (t : List ℕ). g.P.Report.Tells c.loop-at.report c.tell_left.new.report (left_at_end c.in_ok-taken.taken.left t)) c.deref.ensures.value c.in_ok-tell_left.ensures.tells in
    let tells = g.met.P.Report.tells_both c.args.report.now c.loop-at.report c.passes.new.self so_far.entries (left ++ lines) so_far.tells (g.met.P.Report.tells_both c.loop-at.report c.tell_left.new.report c.passes.new.self left lines told c.passes.ensures.tells) in
    let stops = subst (λ (e : List Entry). g.P.Report.Stops c.args.report.now c.passes.new.self e) (sym (entries-rest answers old new piece (so_far.entries ++ (left ++ lines)) (at + count) joined))
    (g.met.P.Report.stops_within c.args.report.now c.passes.new.self (so_far.entries ++ (left ++ lines)) more tells) in
    IfErr-from_and c.from_residual-in_err-put_after.result _ _ c.from_residual-in_err-put_after.ensures.1 (λ fault is_fault. stops)

pub returns-clause-tells : goal.returns-clause-tells
returns-clause-tells g c =
    let so_far = c.loop-at.invariant in
    let answers = g.D.Demangler.answer c.args.demangler.now in
    let piece = c.args.piece.now in
    let whole : take c.loop-at.at piece ≡ piece = take_all c.loop-at.at piece (omega arith) in
    (so_far.entries, so_far.tells, subst (λ (t : List ℕ). TakesEntries answers c.args.words.now c.loop-at.words t so_far.entries) whole so_far.gives)
