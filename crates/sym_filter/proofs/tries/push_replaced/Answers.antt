use Rattle.sym_filter.proofs.Basics.{◌++◌, ◌∙◌, ◌-◌, List, ℕ, [], length, drop, take, sym, ap, is_some, unwrap_or, replaced, text_for}
use Rattle.sym_filter.proofs.TryLemmas.{nothing-appended, run-read, run-unread, two-parts}
use Rattle.sym_filter.proofs.WordLemmas.{slice_from}
use Rattle.sym_filter.proofs.tries.push_replaced.Goals as goal

pub returns-then-read-clause-text : goal.returns-then-read-clause-text
returns-then-read-clause-text g c =
    let answers = g.D.Demangler.answer c.args.demangler.now in
    let run = c.args.run.now in
    let out = c.args.out.now.items in
    let end = c.word_end-end.result in
    let front = c.in_ok-read.ensures in
    let replaced_is = run-read answers run (take end run) end c.word_end-end.ensures.word c.word_end-end.ensures.word c.word_end-end.ensures.within (sym front.has_text ∙ c.if-read.true) in
    two-parts out c.append_text.new.out.items _ (unwrap_or (text_for answers (take end run)) []) (take (length run - end) (drop end run)) (drop end run) (replaced answers run) c.in_ok-extend_from_slice.ensures.items front.text (slice_from run end) replaced_is

pub returns-then-read-clause-has_text : goal.returns-then-read-clause-has_text
returns-then-read-clause-has_text g c =
    let answers = g.D.Demangler.answer c.args.demangler.now in
    let front = c.in_ok-read.ensures in
    sym c.if-read.true ∙ front.has_text ∙ ap (λ (w : List ℕ). is_some (text_for answers w)) c.word_end-end.ensures.word

pub returns-clause-text : goal.returns-clause-text
returns-clause-text g c =
    let answers = g.D.Demangler.answer c.args.demangler.now in
    let run = c.args.run.now in
    let out = c.args.out.now.items in
    let end = c.word_end-end.result in
    let front = c.in_ok-read.ensures in
    let none = sym front.has_text ∙ c.if-read.false in
    c.in_ok-extend_from_slice-2.ensures.items ∙ ap (λ (t : List ℕ). t ++ run) (nothing-appended out _ (text_for answers (take end run)) front.text none)
    ∙ ap (λ (t : List ℕ). out ++ t) (sym (run-unread answers run (take end run) c.word_end-end.ensures.word none))

pub returns-clause-has_text : goal.returns-clause-has_text
returns-clause-has_text g c =
    let answers = g.D.Demangler.answer c.args.demangler.now in
    let front = c.in_ok-read.ensures in
    sym c.if-read.false ∙ front.has_text ∙ ap (λ (w : List ℕ). is_some (text_for answers w)) c.word_end-end.ensures.word
