use Rattle.sym_filter.proofs.Basics.{◌++◌, ◌∙◌, [], List, ℕ, sym, subst, append-nil, entries_after, Entry, rest_after, Puts, PutsFront}
use Rattle.sym_filter.proofs.StreamLemmas.{Puts-join, Puts-same, PutsFront-join, PutsFront-same, IfErr-from_and}
use Rattle.sym_filter.proofs.filtering.end_text.Goals as goal

pub returns-in_err-end_segment-clause-err : goal.returns-in_err-end_segment-clause-err
returns-in_err-end_segment-clause-err g c =
    let rest = rest_after (g.D.Demangler.answer c.args.demangler.now) c.args.words.now [] in
    let wrote = c.in_err-end_segment.ensures.err in
    let front = subst (λ (t : List ℕ). PutsFront (g.W.Sink.taken c.args.writer.now) (g.W.Sink.taken c.end_segment.new.writer) t rest) c.requires.nothing_waits wrote.1 in
    IfErr-from_and c.from_residual.result _ _ c.from_residual.ensures.1 (λ fault is_fault. (λ is_read. wrote.0 (sym is_fault ∙ is_read), front))

pub returns-in_err-write_out-clause-err : goal.returns-in_err-write_out-clause-err
returns-in_err-write_out-clause-err g c =
    let rest = rest_after (g.D.Demangler.answer c.args.demangler.now) c.args.words.now [] in
    let wrote = c.in_err-write_out.ensures.err in
    let put = subst (λ (t : List ℕ). Puts (g.W.Sink.taken c.args.writer.now) (g.W.Sink.taken c.end_segment.new.writer) t c.end_segment.new.out.items rest) c.requires.nothing_waits c.in_ok-end_segment.ensures.ok in
    let front = PutsFront-same _ _ [] (rest ++ []) rest (append-nil rest) (PutsFront-join _ _ _ [] c.end_segment.new.out.items rest [] put wrote.1) in
    IfErr-from_and c.from_residual-in_err-write_out.result _ _ c.from_residual-in_err-write_out.ensures.1 (λ fault is_fault. (λ is_read. wrote.0 (sym is_fault ∙ is_read), front))

pub returns-clause-ok : goal.returns-clause-ok
returns-clause-ok g c =
    let rest = rest_after (g.D.Demangler.answer c.args.demangler.now) c.args.words.now [] in
    let wrote = c.in_ok-write_out.ensures in
    let put = subst (λ (t : List ℕ). Puts (g.W.Sink.taken c.args.writer.now) (g.W.Sink.taken c.end_segment.new.writer) t c.end_segment.new.out.items rest) c.requires.nothing_waits c.in_ok-end_segment.ensures.ok in
    let all = Puts-same _ _ [] c.write_out.new.out.items (rest ++ []) rest (append-nil rest) (Puts-join _ _ _ [] c.end_segment.new.out.items c.write_out.new.out.items rest [] put wrote.ok) in
    subst (λ (t : List ℕ). Puts (g.W.Sink.taken c.args.writer.now) (g.W.Sink.taken c.write_out.new.writer) [] t rest) wrote.nothing_waits all

pub returns-in_err-end_segment-clause-told : goal.returns-in_err-end_segment-clause-told
returns-in_err-end_segment-clause-told g c =
    IfErr-from_and c.from_residual.result _ _ c.from_residual.ensures.1 (λ fault is_fault. c.in_err-end_segment.ensures.told)

pub returns-in_err-write_out-clause-told : goal.returns-in_err-write_out-clause-told
returns-in_err-write_out-clause-told g c =
    let entries = entries_after (g.D.Demangler.answer c.args.demangler.now) c.args.words.now [] in
    let stops = subst (λ (e : List Entry). g.P.Report.Stops c.args.report.now c.end_segment.new.report e) (append-nil entries) (g.met.P.Report.stops_within c.args.report.now c.end_segment.new.report entries [] c.in_ok-end_segment.ensures.tells) in
    IfErr-from_and c.from_residual-in_err-write_out.result _ _ c.from_residual-in_err-write_out.ensures.1 (λ fault is_fault. stops)
