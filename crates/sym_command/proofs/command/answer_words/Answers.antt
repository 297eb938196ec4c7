use Rattle.sym_command.proofs.Basics.{◌≡◌, ◌+◌, cond, sym, ◌∙◌, List, [], ℕ, ap, get_or, map, take, drop, Bor, refl, arith, cond-true, cond-false, take_all, err_from_is_err_and}
use Rattle.sym_command.proofs.LineLemmas.{words-more, status-more}
use Rattle.sym_command.proofs.PageLemmas.{SoFar-begin, SoFar-word, SoFar-written, SoFar-stopped, SoFar-all, IfOk-not, never_read, PutsFront-none, PutsFront-all, PutsFront-from, OnErr-anyway, words-split}
use Rattle.sym_command.proofs.command.answer_words.Goals as goal
use Rattle.sym_command.proofs.command.answer_words.Goals.{then-not-has_text, else-not-has_text}

pub returns-in_err-lists-clause-err : goal.returns-in_err-lists-clause-err
returns-in_err-lists-clause-err g c =
    let answers = g.D.Demangler.answer c.args.demangler.now in
    let counting = g.D.Demangler.are_counts c.args.demangler.now in
    let now : Bor (List ℕ) → List ℕ = λ word. word.now in
    let words = c.args.words.now in
    let out = g.W.Sink.taken c.args.out.now in
    let err = g.E.Sink.taken c.args.err.now in
    OnErr-anyway c.from_residual.result _ (SoFar-stopped c.args.options.asked answers counting c.args.options.stats [] (map now words) (map now words) out out out err err err [] []
    (SoFar-begin c.args.options.asked answers counting c.args.options.stats out err [] [] refl refl) refl (PutsFront-none out []) (PutsFront-none err []))

pub returns-in_err-write-in-Err-clause-err : goal.returns-in_err-write-in-Err-clause-err
returns-in_err-write-in-Err-clause-err g c =
    let answers = g.D.Demangler.answer c.args.demangler.now in
    let counting = g.D.Demangler.are_counts c.args.demangler.now in
    let now : Bor (List ℕ) → List ℕ = λ word. word.now in
    let words = c.args.words.now in
    let out = g.W.Sink.taken c.args.out.now in
    let err = g.E.Sink.taken c.args.err.now in
    let i = c.words.word-index in
    let mid = g.W.Sink.taken c.words.out in
    let mid' = g.E.Sink.taken c.words.err in
    let lines = c.words.page.out.items in
    let said = c.words.page.err.items in
    let so_far = c.words.invariant.so_far in
    let wrote = c.in_err-write-in-Err.ensures in
    OnErr-anyway c.from_residual-in_err-write-in-Err.result _ (SoFar-stopped c.args.options.asked answers counting c.args.options.stats (map now (take i words)) (map now words) (map now (drop i words)) out mid (g.W.Sink.taken c.write.new.out) err mid' (g.E.Sink.taken c.write.new.err) lines said so_far (words-split words i)
    (PutsFront-from mid (g.W.Sink.taken c.write.new.out) lines c.answer_word.new.out.items c.in-Err.ensures.same_out wrote.out_front)
    (PutsFront-from mid' (g.E.Sink.taken c.write.new.err) said c.answer_word.new.err.items c.in-Err.ensures.same_err wrote.err_front))

pub returns-in-Err-clause-err : goal.returns-in-Err-clause-err
returns-in-Err-clause-err g c =
    let answers = g.D.Demangler.answer c.args.demangler.now in
    let counting = g.D.Demangler.are_counts c.args.demangler.now in
    let now : Bor (List ℕ) → List ℕ = λ word. word.now in
    let words = c.args.words.now in
    let out = g.W.Sink.taken c.args.out.now in
    let err = g.E.Sink.taken c.args.err.now in
    let i = c.words.word-index in
    let mid = g.W.Sink.taken c.words.out in
    let mid' = g.E.Sink.taken c.words.err in
    let lines = c.words.page.out.items in
    let said = c.words.page.err.items in
    let so_far = c.words.invariant.so_far in
    let wrote = c.in_ok-write-in-Err.ensures in
    SoFar-stopped c.args.options.asked answers counting c.args.options.stats (map now (take i words)) (map now words) (map now (drop i words)) out mid (g.W.Sink.taken c.write.new.out) err mid' (g.E.Sink.taken c.write.new.err) lines said so_far (words-split words i)
    (PutsFront-from mid (g.W.Sink.taken c.write.new.out) lines c.answer_word.new.out.items c.in-Err.ensures.same_out (PutsFront-all mid (g.W.Sink.taken c.write.new.out) c.answer_word.new.out.items [] wrote.out))
    (PutsFront-from mid' (g.E.Sink.taken c.write.new.err) said c.answer_word.new.err.items c.in-Err.ensures.same_err (PutsFront-all mid' (g.E.Sink.taken c.write.new.err) c.answer_word.new.err.items [] wrote.err))

pub returns-in_err-write_when_full-clause-err : goal.returns-in_err-write_when_full-clause-err
returns-in_err-write_when_full-clause-err g c =
    let answers = g.D.Demangler.answer c.args.demangler.now in
    let counting = g.D.Demangler.are_counts c.args.demangler.now in
    let now : Bor (List ℕ) → List ℕ = λ word. word.now in
    let words = c.args.words.now in
    let out = g.W.Sink.taken c.args.out.now in
    let err = g.E.Sink.taken c.args.err.now in
    let i = c.words.word-index in
    let mid = g.W.Sink.taken c.words.out in
    let mid' = g.E.Sink.taken c.words.err in
    let lines = c.words.page.out.items in
    let said = c.words.page.err.items in
    let so_far = c.words.invariant.so_far in
    let none : Bor (List ℕ) = record { ref_ptr = (0, 0); now = [] } in
    let word = (get_or words i none).now in
    let e = words-more words i none c.words-test.true in
    let answered = c.in-Ok.ensures in
    let with_word = SoFar-word c.args.options.asked answers counting c.args.options.stats (map now (take i words)) (map now (take (i + 1) words)) word out mid err mid' lines c.answer_word.new.out.items said c.answer_word.new.err.items answered.line.0 so_far e answered.line.1 answered.line.2 answered.complaint in
    let wrote = c.in_err-write_when_full.ensures in
    OnErr-anyway c.from_residual-in_err-write_when_full.result _ (SoFar-stopped c.args.options.asked answers counting c.args.options.stats (map now (take (i + 1) words)) (map now words) (map now (drop (i + 1) words)) out mid (g.W.Sink.taken c.write_when_full.new.out) err mid' (g.E.Sink.taken c.write_when_full.new.err) c.answer_word.new.out.items c.answer_word.new.err.items with_word (words-split words (i + 1)) wrote.out_front wrote.err_front)

pub words-preserved : goal.words-preserved
words-preserved g c =
    let answers = g.D.Demangler.answer c.args.demangler.now in
    let counting = g.D.Demangler.are_counts c.args.demangler.now in
    let now : Bor (List ℕ) → List ℕ = λ word. word.now in
    let words = c.args.words.now in
    let out = g.W.Sink.taken c.args.out.now in
    let err = g.E.Sink.taken c.args.err.now in
    let i = c.words.word-index in
    let mid = g.W.Sink.taken c.words.out in
    let mid' = g.E.Sink.taken c.words.err in
    let lines = c.words.page.out.items in
    let said = c.words.page.err.items in
    let so_far = c.words.invariant.so_far in
    let none : Bor (List ℕ) = record { ref_ptr = (0, 0); now = [] } in
    let word = (get_or words i none).now in
    let e = words-more words i none c.words-test.true in
    let answered = c.in-Ok.ensures in
    let with_word = SoFar-word c.args.options.asked answers counting c.args.options.stats (map now (take i words)) (map now (take (i + 1) words)) word out mid err mid' lines c.answer_word.new.out.items said c.answer_word.new.err.items answered.line.0 so_far e answered.line.1 answered.line.2 answered.complaint in
    let wrote = c.in_ok-write_when_full.ensures in
    let has_text = c.in-Ok.has_text in
    let chosen : c.if-not-has_text.status ≡ cond has_text c.words.status 1 = elim c.if-not-has_text.branch [ then-not-has_text w ↦ (let t = w.if-not-has_text.true in w.status-is ∙ sym (cond-false has_text _ _ t)) | else-not-has_text w ↦ (let t = w.if-not-has_text.false in w.status-is ∙ sym (cond-true has_text _ _ t)) ] in
    let before = c.words.invariant in record {
      so_far = SoFar-written c.args.options.asked answers counting c.args.options.stats (map now (take (i + 1) words)) out mid (g.W.Sink.taken c.write_when_full.new.out) err mid' (g.E.Sink.taken c.write_when_full.new.err) c.answer_word.new.out.items c.write_when_full.new.self.out.items c.answer_word.new.err.items c.write_when_full.new.self.err.items with_word wrote.out wrote.err;
      status = status-more answers (map now (take i words)) (map now (take (i + 1) words)) word c.words.status c.if-not-has_text.status c.in-Ok.has_text e before.status answered.has_text chosen;
      out_fails = wrote.out_fails ∙ before.out_fails;
      err_fails = omega (arith, wrote.failures, wrote.out_fails, before.err_fails);
    }

pub returns-in_err-write-clause-err : goal.returns-in_err-write-clause-err
returns-in_err-write-clause-err g c =
    let answers = g.D.Demangler.answer c.args.demangler.now in
    let counting = g.D.Demangler.are_counts c.args.demangler.now in
    let now : Bor (List ℕ) → List ℕ = λ word. word.now in
    let words = c.args.words.now in
    let out = g.W.Sink.taken c.args.out.now in
    let err = g.E.Sink.taken c.args.err.now in
    let i = c.words.word-index in
    let mid = g.W.Sink.taken c.words.out in
    let mid' = g.E.Sink.taken c.words.err in
    let lines = c.words.page.out.items in
    let said = c.words.page.err.items in
    let so_far = c.words.invariant.so_far in
    let wrote = c.in_err-write.ensures in
    OnErr-anyway c.from_residual-in_err-write.result _ (SoFar-stopped c.args.options.asked answers counting c.args.options.stats (map now (take i words)) (map now words) (map now (drop i words)) out mid (g.W.Sink.taken c.write-2.new.out) err mid' (g.E.Sink.taken c.write-2.new.err) lines said so_far (words-split words i) wrote.out_front wrote.err_front)

pub returns-in_err-lists-clause-ok : goal.returns-in_err-lists-clause-ok
returns-in_err-lists-clause-ok g c =
    let p = err_from_is_err_and c.from_residual.result c.from_residual.ensures.1 in
    IfOk-not c.from_residual.result _ p.0 p.1

pub returns-in_err-lists-clause-fault : goal.returns-in_err-lists-clause-fault
returns-in_err-lists-clause-fault g c =
    let p = err_from_is_err_and c.from_residual.result c.from_residual.ensures.1 in
    rw (p.1, p.2) never_read

pub returns-in_err-lists-clause-failures : goal.returns-in_err-lists-clause-failures
returns-in_err-lists-clause-failures g c =
    let p = err_from_is_err_and c.from_residual.result c.from_residual.ensures.1 in
    rw (p.1, p.2) (omega arith)

pub returns-in_err-write-in-Err-clause-ok : goal.returns-in_err-write-in-Err-clause-ok
returns-in_err-write-in-Err-clause-ok g c =
    let p = err_from_is_err_and c.from_residual-in_err-write-in-Err.result c.from_residual-in_err-write-in-Err.ensures.1 in
    IfOk-not c.from_residual-in_err-write-in-Err.result _ p.0 p.1

pub returns-in_err-write-in-Err-clause-fault : goal.returns-in_err-write-in-Err-clause-fault
returns-in_err-write-in-Err-clause-fault g c =
    let p = err_from_is_err_and c.from_residual-in_err-write-in-Err.result c.from_residual-in_err-write-in-Err.ensures.1 in
    rw (p.1, p.2) c.in_err-write-in-Err.ensures.fault

pub returns-in_err-write-in-Err-clause-failures : goal.returns-in_err-write-in-Err-clause-failures
returns-in_err-write-in-Err-clause-failures g c =
    let p = err_from_is_err_and c.from_residual-in_err-write-in-Err.result c.from_residual-in_err-write-in-Err.ensures.1 in
    rw (p.1, p.2) (omega (arith, c.in_err-write-in-Err.ensures.failures, c.words.invariant.out_fails, c.words.invariant.err_fails))

pub returns-in_err-write_when_full-clause-ok : goal.returns-in_err-write_when_full-clause-ok
returns-in_err-write_when_full-clause-ok g c =
    let p = err_from_is_err_and c.from_residual-in_err-write_when_full.result c.from_residual-in_err-write_when_full.ensures.1 in
    IfOk-not c.from_residual-in_err-write_when_full.result _ p.0 p.1

pub returns-in_err-write_when_full-clause-fault : goal.returns-in_err-write_when_full-clause-fault
returns-in_err-write_when_full-clause-fault g c =
    let p = err_from_is_err_and c.from_residual-in_err-write_when_full.result c.from_residual-in_err-write_when_full.ensures.1 in
    rw (p.1, p.2) c.in_err-write_when_full.ensures.fault

pub returns-in_err-write_when_full-clause-failures : goal.returns-in_err-write_when_full-clause-failures
returns-in_err-write_when_full-clause-failures g c =
    let p = err_from_is_err_and c.from_residual-in_err-write_when_full.result c.from_residual-in_err-write_when_full.ensures.1 in
    rw (p.1, p.2) (omega (arith, c.in_err-write_when_full.ensures.failures, c.words.invariant.out_fails, c.words.invariant.err_fails))

pub returns-in_err-write-clause-ok : goal.returns-in_err-write-clause-ok
returns-in_err-write-clause-ok g c =
    let p = err_from_is_err_and c.from_residual-in_err-write.result c.from_residual-in_err-write.ensures.1 in
    IfOk-not c.from_residual-in_err-write.result _ p.0 p.1

pub returns-in_err-write-clause-fault : goal.returns-in_err-write-clause-fault
returns-in_err-write-clause-fault g c =
    let p = err_from_is_err_and c.from_residual-in_err-write.result c.from_residual-in_err-write.ensures.1 in
    rw (p.1, p.2) c.in_err-write.ensures.fault

pub returns-in_err-write-clause-failures : goal.returns-in_err-write-clause-failures
returns-in_err-write-clause-failures g c =
    let p = err_from_is_err_and c.from_residual-in_err-write.result c.from_residual-in_err-write.ensures.1 in
    rw (p.1, p.2) (omega (arith, c.in_err-write.ensures.failures, c.words.invariant.out_fails, c.words.invariant.err_fails))

pub returns-in-Err-clause-ok : goal.returns-in-Err-clause-ok
returns-in-Err-clause-ok g c = tt

pub returns-in-Err-clause-fault : goal.returns-in-Err-clause-fault
returns-in-Err-clause-fault g c = never_read

pub returns-in-Err-clause-failures : goal.returns-in-Err-clause-failures
returns-in-Err-clause-failures g c = omega (arith, c.in_ok-write-in-Err.ensures.failures, c.words.invariant.out_fails, c.words.invariant.err_fails)

pub returns-clause-ok : goal.returns-clause-ok
returns-clause-ok g c =
    let answers = g.D.Demangler.answer c.args.demangler.now in
    let counting = g.D.Demangler.are_counts c.args.demangler.now in
    let now : Bor (List ℕ) → List ℕ = λ word. word.now in
    let words = c.args.words.now in
    let i = c.words.word-index in
    let wrote = c.in_ok-write.ensures in
    let before = c.words.invariant in
    SoFar-all c.args.options.asked answers counting c.args.options.stats (map now (take i words)) (map now words) c.words.status (g.W.Sink.taken c.args.out.now) (g.W.Sink.taken c.words.out) (g.W.Sink.taken c.write-2.new.out) (g.E.Sink.taken c.args.err.now) (g.E.Sink.taken c.words.err) (g.E.Sink.taken c.write-2.new.err) c.words.page.out.items c.words.page.err.items before.so_far
    (ap (map now) (sym (take_all i words (omega (arith, c.words-test.false))))) before.status wrote.out wrote.err

pub returns-clause-err : goal.returns-clause-err
returns-clause-err g c = tt

pub returns-clause-fault : goal.returns-clause-fault
returns-clause-fault g c = tt

pub returns-clause-failures : goal.returns-clause-failures
returns-clause-failures g c = omega (arith, c.in_ok-write.ensures.failures, c.words.invariant.out_fails, c.words.invariant.err_fails)
