use Rattle.sym_filter.proofs.Basics.{◌≡◌, ◌∙◌, ◌++◌, append_assoc, cond, length, sym, ap, ap₂, List, ℕ, None, Some, is_some, kind_of, before_mark, from_mark, Answering, answers_at, name_in, tally_with_word, text_for, within, word_or_text, left_of}
use Rattle.sym_filter.proofs.BeginLemmas.{answers-runs, answers-within}
use Rattle.sym_filter.proofs.EntryLemmas.{left-absent, left-present}
use Rattle.sym_filter.proofs.MarkLemmas.{name_in-runs, name_in-within, written-runs, written-within}
use Rattle.sym_filter.proofs.RunLemmas.{word_or_text-unnamed}
use Rattle.sym_filter.proofs.WordLemmas.{counts-unnamed, counts-named}
use Rattle.sym_filter.proofs.words.Words.end_word.Goals as goal
use Rattle.sym_filter.proofs.words.Words.end_word.Goals.{in-Some+in_ok-has_text-in-Some, in-None+in_ok-extend_from_slice-in-None}

pub returns-then-begins_within-clause-text : goal.returns-then-begins_within-clause-text
returns-then-begins_within-clause-text g c =
    let self = c.args.self.now in
    let answers = g.D.Demangler.answer c.args.demangler.now in
    let out = c.args.out.now.items in
    let held = self.held.items in
    c.in_ok-ended.ensures.text ∙ append_assoc out (before_mark self.place held) (word_or_text (within answers) (from_mark self.place held))
    ∙ ap (λ (t : List ℕ). out ++ t) (sym (written-within self.letters answers self.place held (sym c.begins_within.ensures ∙ c.if-begins_within.true)))

pub returns-then-begins_within-clause-counts : goal.returns-then-begins_within-clause-counts
returns-then-begins_within-clause-counts g c =
    let self = c.args.self.now in
    let answers = g.D.Demangler.answer c.args.demangler.now in
    let begins = sym c.begins_within.ensures ∙ c.if-begins_within.true in
    c.in_ok-ended.ensures.counts ∙ ap₂ (λ (a : Answering) (t : List ℕ). tally_with_word a self.tally t) (sym (answers-within self.letters answers begins)) (sym (name_in-within self.letters self.place self.held.items begins))

pub returns-clause-text : goal.returns-clause-text
returns-clause-text g c =
    let self = c.args.self.now in
    let answers = g.D.Demangler.answer c.args.demangler.now in
    let out = c.args.out.now.items in
    let runs = ap (λ (t : List ℕ). out ++ t) (sym (written-runs self.letters answers self.place self.held.items (sym c.begins_within.ensures ∙ c.if-begins_within.false))) in
    elim c.match-kind_of.branch [
      | in-Some+in_ok-has_text-in-Some w ↦ ap (λ v. v.items) w.out-is ∙ w.in_ok-has_text-in-Some.ensures.text ∙ ap (λ (t : List ℕ). out ++ word_or_text answers t) w.deref-in-Some.ensures.value ∙ runs
      | in-None+in_ok-extend_from_slice-in-None w ↦
          let none : kind_of self.held.items ≡ None = sym (ap kind_of c.deref.ensures.value) ∙ sym c.kind_of.ensures ∙ w.in-None.is in
          ap (λ v. v.items) w.out-is ∙ w.in_ok-extend_from_slice-in-None.ensures.items ∙ ap (λ (t : List ℕ). out ++ t) (w.deref-in-None.ensures.value ∙ sym (word_or_text-unnamed answers self.held.items none)) ∙ runs
    ]

pub returns-clause-counts : goal.returns-clause-counts
returns-clause-counts g c =
    let self = c.args.self.now in
    let answers = g.D.Demangler.answer c.args.demangler.now in
    let begins = sym c.begins_within.ensures ∙ c.if-begins_within.false in
    let runs = ap₂ (λ (a : Answering) (t : List ℕ). tally_with_word a self.tally t) (sym (answers-runs self.letters answers begins)) (sym (name_in-runs self.letters self.place self.held.items begins)) in
    elim c.match-kind_of.branch [
      | in-Some+in_ok-has_text-in-Some w ↦
          let some : kind_of self.held.items ≡ Some w.in-Some.kind = sym (ap kind_of c.deref.ensures.value) ∙ sym c.kind_of.ensures ∙ w.in-Some.is in
          let has = w.in_ok-has_text-in-Some.ensures.has_text ∙ ap (λ (t : List ℕ). is_some (text_for answers t)) w.deref-in-Some.ensures.value in
          ap (λ s. s.1.1.1.1.1.1.0) w.self-is ∙ counts-named answers self.tally w.count.new.self self.held.items w.in-Some.kind w.in_ok-has_text-in-Some.has_text self.is_counted self.is_held.is_word some has w.count.ensures ∙ runs
      | in-None+in_ok-extend_from_slice-in-None w ↦
          let none : kind_of self.held.items ≡ None = sym (ap kind_of c.deref.ensures.value) ∙ sym c.kind_of.ensures ∙ w.in-None.is in
          ap (λ s. s.1.1.1.1.1.1.0) w.self-is ∙ counts-unnamed answers self.tally self.held.items self.is_counted self.is_held.is_word none ∙ runs
    ]

pub returns-then-begins_within-clause-left : goal.returns-then-begins_within-clause-left
returns-then-begins_within-clause-left g c =
    let self = c.args.self.now in
    let answers = g.D.Demangler.answer c.args.demangler.now in
    let begins = sym c.begins_within.ensures ∙ c.if-begins_within.true in
    let left = c.in_ok-ended.ensures.left in
    (left.0, left.1 ∙ ap₂ (λ (a : Answering) (t : List ℕ). left_of a t) (sym (answers-within self.letters answers begins)) (sym (name_in-within self.letters self.place self.held.items begins)))

pub returns-clause-left : goal.returns-clause-left
returns-clause-left g c =
    let self = c.args.self.now in
    let answers = g.D.Demangler.answer c.args.demangler.now in
    let word = self.held.items in
    let front = c.args.out.now.items in
    let out = c.match-kind_of.out.items in
    let count = c.match-kind_of.left in
    let begins = sym c.begins_within.ensures ∙ c.if-begins_within.false in
    let runs : left_of answers word ≡ left_of (answers_at self.letters answers) (name_in self.letters self.place word) =
    ap₂ (λ (a : Answering) (t : List ℕ). left_of a t) (sym (answers-runs self.letters answers begins)) (sym (name_in-runs self.letters self.place word begins)) in
    elim c.match-kind_of.branch [
      | in-Some+in_ok-has_text-in-Some w ↦
          let some : kind_of word ≡ Some w.in-Some.kind = sym (ap kind_of c.deref.ensures.value) ∙ sym c.kind_of.ensures ∙ w.in-Some.is in
          let has = w.in_ok-has_text-in-Some.ensures.has_text ∙ ap (λ (t : List ℕ). is_some (text_for answers t)) w.deref-in-Some.ensures.value in
          let is : out ≡ front ++ word_or_text answers word = ap (λ v. v.items) w.out-is ∙ w.in_ok-has_text-in-Some.ensures.text ∙ ap (λ (t : List ℕ). front ++ word_or_text answers t) w.deref-in-Some.ensures.value in
          let all : count ≡ cond w.in_ok-has_text-in-Some.has_text 0 (length word) = w.left-is ∙ w.left_bytes-left.ensures ∙ ap (λ (t : List ℕ). cond w.in_ok-has_text-in-Some.has_text 0 (length t)) w.deref-in-Some-2.ensures.value in
          let left = left-present answers word front out w.in-Some.kind count w.in_ok-has_text-in-Some.has_text self.is_held.is_word some has is all in
          (left.0, left.1 ∙ runs)
      | in-None+in_ok-extend_from_slice-in-None w ↦
          let none : kind_of word ≡ None = sym (ap kind_of c.deref.ensures.value) ∙ sym c.kind_of.ensures ∙ w.in-None.is in
          let left = left-absent answers word out count w.left-is (ap kind_of self.is_held.is_word ∙ none) in
          (left.0, left.1 ∙ runs)
    ]
