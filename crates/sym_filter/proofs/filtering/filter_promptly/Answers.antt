use Rattle.sym_filter.proofs.Basics.{◌≡◌, ◌++◌, [], refl, sym, subst, arith, take, length, ap, ap₂, ◌∙◌, add-zero, ◌+◌, List, ℕ, Appends, Consumes, append-nil, filtered_at, tally_at, rest_of_text, tally_of_text, Puts, rest_after, READ_SIZE, entries_after, entries_in_rest, Entry, entries_of}
use Rattle.sym_filter.proofs.CarryLemmas.{rest_of_text-end, rest_of_text-start, tally_of_text-end, tally_of_text-start}
use Rattle.sym_filter.proofs.StreamLemmas.{Appends-none, Consumes-join, Consumes-keeps, Consumes-none, Puts-none, next-text, next-counts, Puts-join, Puts-all, PutsFront-of, PutsFront-join, PutsFront-same, IfErr-from_and, reader_faults-other, take-none, room-back, dots-first, dots-step}
use Rattle.sym_filter.proofs.TextEntryLemmas.{next-entries, rest-end, rest-start}
use Rattle.sym_filter.proofs.filtering.filter_promptly.Goals as goal

pub loop-count-init : goal.loop-count-init
loop-count-init g c =
    let letters = c.args.letters in
    let answers = g.D.Demangler.answer c.args.demangler.now in
    let words = c.new-words.result in
    let begins = c.new-words.ensures in record {
      text = [];
      bytes = [];
      entries = [];
      reads = Consumes-none _;
      puts = Puts-none _;
      tells = g.met.P.Report.tells_none c.args.report.now;
      gives = λ more. sym (rest-start letters answers words more begins.letters begins.holds_nothing begins.not_past begins.start);
      report_failures = refl;
      read_failures = refl;
      write_failures = refl;
      same_letters = begins.letters;
      room = sym c.in_ok-room.room.ok.0 ∙ c.in_ok-room.ensures;
      nothing_waits = c.new-out.ensures.items;
      rest = λ more. sym (rest_of_text-start letters answers words more begins.letters begins.holds_nothing begins.not_past begins.start);
      counts = λ more. tally_of_text-start letters answers words more begins.letters begins.holds_nothing begins.not_past begins.start begins.nothing_counted;
      dots = dots-first words.dots (g.R.PromptSource.reads_left c.args.reader.now) c.left-left.result begins.no_dots c.left-left.ensures c.left-left.type_inv;
    }

-- nothing waits except what the words hold
pub read_beside-requires-clause-may : goal.read_beside-requires-clause-may
read_beside-requires-clause-may g c =
    let so_far = c.loop-count.invariant in
    c.requires.prompt c.loop-count.reader c.loop-count.writer (record {
      text = so_far.text;
      written = so_far.bytes;
      words = c.loop-count.words;
      escape = c.loop-count.escape;
      reads = so_far.reads;
      writes = Puts-all _ _ so_far.bytes so_far.puts;
      same_letters = so_far.same_letters;
      waits = c.loop-count.words.is_held;
      rest = so_far.rest;
    })

pub loop-count-preserved : goal.loop-count-preserved
loop-count-preserved g c =
    let so_far = c.loop-count.invariant in
    let read = c.in-Some.ensures in
    let taken = c.in_ok-take_piece.ensures in
    let letters = c.args.letters in
    let answers = g.D.Demangler.answer c.args.demangler.now in
    let piece = take c.in-Some.count c.deref.result.now in
    let same : take c.in-Some.count c.read_beside.new.room ≡ piece = ap (λ (t : List ℕ). take c.in-Some.count t) (sym (c.deref.ensures.value ∙ room-back c.read_beside.new.room c.loop-count.room.items c.loop-count.room.len (c.read_beside.auto.room ∙ c.deref_mut.ensures.len))) in
    let whole_room : length c.read_beside.new.room ≡ READ_SIZE = c.read_beside.auto.room ∙ ap length c.deref_mut.ensures.value ∙ so_far.room in record {
      text = so_far.text ++ piece;
      bytes = so_far.bytes ++ taken.ok.0;
      entries = so_far.entries ++ taken.tells.0;
      reads = Consumes-join _ _ _ so_far.text piece so_far.reads (subst (λ (t : List ℕ). Consumes (g.R.PromptSource.coming c.loop-count.reader) (g.R.PromptSource.coming c.read_beside.new.self) t) same read.bytes);
      puts = Puts-join _ _ _ [] [] [] so_far.bytes taken.ok.0 so_far.puts (subst (λ (t : List ℕ). Puts (g.W.Sink.taken c.loop-count.writer) (g.W.Sink.taken c.take_piece.new.writer) [] t taken.ok.0) taken.nothing_waits taken.ok.2);
      read_failures = read.failures ∙ add-zero _ ∙ so_far.read_failures;
      tells = g.met.P.Report.tells_both c.args.report.now c.loop-count.report c.take_piece.new.report so_far.entries taken.tells.0 so_far.tells taken.tells.1;
      gives = next-entries (entries_of letters answers) (entries_in_rest answers c.loop-count.words c.loop-count.escape) (entries_in_rest answers c.take_piece.new.words c.take_piece.new.escape) so_far.text piece so_far.entries taken.tells.0 so_far.gives taken.tells.2.all;
      report_failures = taken.same_failures.1 ∙ so_far.report_failures;
      write_failures = taken.same_failures.0 ∙ so_far.write_failures;
      same_letters = taken.ok.1.letters ∙ so_far.same_letters;
      room = ap length (room-back c.read_beside.new.room c.loop-count.room.items c.loop-count.room.len (c.read_beside.auto.room ∙ c.deref_mut.ensures.len)) ∙ whole_room;
      nothing_waits = taken.nothing_waits;
      rest = next-text (filtered_at letters answers) (rest_of_text answers c.loop-count.words c.loop-count.escape) (rest_of_text answers c.take_piece.new.words c.take_piece.new.escape) so_far.text piece so_far.bytes taken.ok.0 so_far.rest taken.ok.1.text;
      counts = next-counts (tally_at letters answers) (tally_of_text answers c.loop-count.words c.loop-count.escape) (tally_of_text answers c.take_piece.new.words c.take_piece.new.escape) so_far.text piece so_far.counts taken.ok.1.counts;
      dots = dots-step c.loop-count.words.dots c.take_piece.new.words.dots (g.R.PromptSource.reads_left c.loop-count.reader) (g.R.PromptSource.reads_left c.read_beside.new.self) c.in-Some.count c.read_beside.new.room piece so_far.dots (read.left refl) taken.ok.1.dots same whole_room;
    }

pub returns-in_default-clause-err : goal.returns-in_default-clause-err
returns-in_default-clause-err g c =
    let so_far = c.loop-count.invariant in
    let letters = c.args.letters in
    let answers = g.D.Demangler.answer c.args.demangler.now in
    let rest = rest_of_text answers c.loop-count.words c.loop-count.escape [] in
    let whole : so_far.bytes ++ rest ≡ filtered_at letters answers so_far.text = sym (so_far.rest []) ∙ ap (filtered_at letters answers) (append-nil so_far.text) in
    let front = PutsFront-same _ _ [] (so_far.bytes ++ rest) (filtered_at letters answers so_far.text) whole (PutsFront-of _ _ [] [] so_far.bytes rest so_far.puts) in record {
      text = so_far.text;
      gone = front.gone;
      reads = Consumes-keeps _ _ _ so_far.text so_far.reads c.in_default.ensures.failed;
      writes = front.writes;
      begins = front.begins;
      gives = subst (λ (e : List Entry). g.P.Report.Stops c.args.report.now c.loop-count.report e) (sym (so_far.gives []) ∙ ap (entries_of letters answers) (append-nil so_far.text))
          (g.met.P.Report.stops_within c.args.report.now c.loop-count.report so_far.entries (entries_in_rest answers c.loop-count.words c.loop-count.escape []) so_far.tells);
    }

pub returns-in_err-take_piece-clause-err : goal.returns-in_err-take_piece-clause-err
returns-in_err-take_piece-clause-err g c =
    let so_far = c.loop-count.invariant in
    let letters = c.args.letters in
    let answers = g.D.Demangler.answer c.args.demangler.now in
    let piece = take c.in-Some.count c.deref.result.now in
    let same : take c.in-Some.count c.read_beside.new.room ≡ piece = ap (λ (t : List ℕ). take c.in-Some.count t) (sym (c.deref.ensures.value ∙ room-back c.read_beside.new.room c.loop-count.room.items c.loop-count.room.len (c.read_beside.auto.room ∙ c.deref_mut.ensures.len))) in
    let wrote = c.in_err-take_piece.ensures.err in
    let rest = rest_of_text answers c.loop-count.words c.loop-count.escape piece in
    let front = PutsFront-same _ _ [] (so_far.bytes ++ rest) (filtered_at letters answers (so_far.text ++ piece)) (sym (so_far.rest piece)) (PutsFront-join _ _ _ [] [] so_far.bytes rest so_far.puts wrote.1) in
    let more = entries_in_rest answers c.loop-count.words c.loop-count.escape piece in
    let stops = subst (λ (e : List Entry). g.P.Report.Stops c.args.report.now c.take_piece.new.report e) (sym (so_far.gives piece))
    (g.met.P.Report.stops_later c.args.report.now c.loop-count.report c.take_piece.new.report so_far.entries more so_far.tells c.in_err-take_piece.ensures.told) in
    IfErr-from_and c.from_residual-in_err-take_piece.result _ _ c.from_residual-in_err-take_piece.ensures.1 (λ fault is_fault. record {
      text = so_far.text ++ piece;
      gone = front.gone;
      reads = Consumes-join _ _ _ so_far.text piece so_far.reads (subst (λ (t : List ℕ). Consumes (g.R.PromptSource.coming c.loop-count.reader) (g.R.PromptSource.coming c.read_beside.new.self) t) same c.in-Some.ensures.bytes);
      writes = front.writes;
      begins = front.begins;
      gives = stops;
    })

pub returns-in_err-take_piece-clause-read_failed : goal.returns-in_err-take_piece-clause-read_failed
returns-in_err-take_piece-clause-read_failed g c =
    let so_far = c.loop-count.invariant in
    c.in-Some.ensures.failures ∙ ap₂ (λ m n. m + n) so_far.read_failures (sym (reader_faults-other c.from_residual-in_err-take_piece.result _ c.from_residual-in_err-take_piece.ensures.1 c.in_err-take_piece.ensures.err.0))

pub returns-in_err-end_text-clause-read_failed : goal.returns-in_err-end_text-clause-read_failed
returns-in_err-end_text-clause-read_failed g c =
    let so_far = c.loop-count.invariant in
    c.in-Some.ensures.failures ∙ ap₂ (λ m n. m + n) so_far.read_failures (sym (reader_faults-other c.from_residual-in_err-end_text.result _ c.from_residual-in_err-end_text.ensures.1 c.in_err-end_text.ensures.err.0))

pub returns-in_err-end_text-clause-err : goal.returns-in_err-end_text-clause-err
returns-in_err-end_text-clause-err g c =
    let so_far = c.loop-count.invariant in
    let letters = c.args.letters in
    let answers = g.D.Demangler.answer c.args.demangler.now in
    let wrote = c.in_err-end_text.ensures.err in
    let rest = rest_after answers c.loop-count.words [] in
    let none : so_far.text ++ take c.in-Some.count c.read_beside.new.room ≡ so_far.text ++ [] = ap (λ (t : List ℕ). so_far.text ++ t) (take-none c.in-Some.count c.read_beside.new.room c.if-count-eq0.true) in
    let front = PutsFront-same _ _ [] (so_far.bytes ++ rest) (filtered_at letters answers (so_far.text ++ [])) (sym (so_far.rest [] ∙ ap (λ (t : List ℕ). so_far.bytes ++ t) (rest_of_text-end answers c.loop-count.words c.loop-count.escape))) (PutsFront-join _ _ _ [] [] so_far.bytes rest so_far.puts wrote.1) in
    let more = entries_after answers c.loop-count.words [] in
    let stops = subst (λ (e : List Entry). g.P.Report.Stops c.args.report.now c.end_text.new.report e) (sym (so_far.gives [] ∙ ap (λ (t : List Entry). so_far.entries ++ t) (rest-end answers c.loop-count.words c.loop-count.escape)))
    (g.met.P.Report.stops_later c.args.report.now c.loop-count.report c.end_text.new.report so_far.entries more so_far.tells c.in_err-end_text.ensures.told) in
    IfErr-from_and c.from_residual-in_err-end_text.result _ _ c.from_residual-in_err-end_text.ensures.1 (λ fault is_fault. record {
      text = so_far.text ++ [];
      gone = front.gone;
      reads = subst (λ (t : List ℕ). Consumes (g.R.PromptSource.coming c.args.reader.now) (g.R.PromptSource.coming c.read_beside.new.self) t) none (Consumes-join _ _ _ so_far.text (take c.in-Some.count c.read_beside.new.room) so_far.reads c.in-Some.ensures.bytes);
      writes = front.writes;
      begins = front.begins;
      gives = stops;
    })

pub returns-clause-ok : goal.returns-clause-ok
returns-clause-ok g c =
    let so_far = c.loop-count.invariant in
    let letters = c.args.letters in
    let answers = g.D.Demangler.answer c.args.demangler.now in
    let rest = rest_after answers c.loop-count.words [] in
    let none : so_far.text ++ take c.in-Some.count c.read_beside.new.room ≡ so_far.text ++ [] = ap (λ (t : List ℕ). so_far.text ++ t) (take-none c.in-Some.count c.read_beside.new.room c.if-count-eq0.true) in
    let all = Puts-all _ _ (so_far.bytes ++ rest) (Puts-join _ _ _ [] [] [] so_far.bytes rest so_far.puts c.in_ok-end_text.ensures.ok) in
    record {
      text = so_far.text ++ [];
      reads = subst (λ (t : List ℕ). Consumes (g.R.PromptSource.coming c.args.reader.now) (g.R.PromptSource.coming c.read_beside.new.self) t) none (Consumes-join _ _ _ so_far.text (take c.in-Some.count c.read_beside.new.room) so_far.reads c.in-Some.ensures.bytes);
      ends = c.in-Some.ensures.end c.if-count-eq0.true (let whole_room : length c.read_beside.new.room ≡ READ_SIZE = c.read_beside.auto.room ∙ ap length c.deref_mut.ensures.value ∙ so_far.room in omega arith);
      writes = subst (λ (t : List ℕ). Appends (g.W.Sink.taken c.args.writer.now) (g.W.Sink.taken c.end_text.new.writer) t) (sym (so_far.rest [] ∙ ap (λ (t : List ℕ). so_far.bytes ++ t) (rest_of_text-end answers c.loop-count.words c.loop-count.escape))) all;
      counts = c.tally.ensures ∙ c.in_ok-end_text.ensures.counts ∙ sym (so_far.counts [] ∙ tally_of_text-end answers c.loop-count.words c.loop-count.escape);
      gives = subst (λ (e : List Entry). g.P.Report.Tells c.args.report.now c.end_text.new.report e) (sym (so_far.gives [] ∙ ap (λ (t : List Entry). so_far.entries ++ t) (rest-end answers c.loop-count.words c.loop-count.escape)))
          (g.met.P.Report.tells_both c.args.report.now c.loop-count.report c.end_text.new.report so_far.entries (entries_after answers c.loop-count.words []) so_far.tells c.in_ok-end_text.ensures.tells);
    }

pub returns-in_err-lists-clause-err : goal.returns-in_err-lists-clause-err
returns-in_err-lists-clause-err g c =
    let report = c.args.report.now in
    let letters = c.args.letters in
    let answers = g.D.Demangler.answer c.args.demangler.now in
    IfErr-from_and c.from_residual.result _ _ c.from_residual.ensures.1 (λ fault is_memory. record {
      text = [];
      gone = [];
      reads = Consumes-none _;
      writes = Appends-none _;
      begins = (filtered_at letters answers [], refl);
      gives = g.met.P.Report.stops_within report report [] (entries_of letters answers []) (g.met.P.Report.tells_none report);
    })

pub returns-in_err-room-clause-err : goal.returns-in_err-room-clause-err
returns-in_err-room-clause-err g c =
    let report = c.args.report.now in
    let letters = c.args.letters in
    let answers = g.D.Demangler.answer c.args.demangler.now in
    IfErr-from_and c.from_residual-in_err-room.result _ _ c.from_residual-in_err-room.ensures.1 (λ fault is_memory. record {
      text = [];
      gone = [];
      reads = Consumes-none _;
      writes = Appends-none _;
      begins = (filtered_at letters answers [], refl);
      gives = g.met.P.Report.stops_within report report [] (entries_of letters answers []) (g.met.P.Report.tells_none report);
    })
