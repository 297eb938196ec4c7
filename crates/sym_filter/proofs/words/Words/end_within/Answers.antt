use Rattle.sym_filter.proofs.Basics.{◌≡◌, ◌∙◌, ◌++◌, cond, length, sym, ap, ap₂, List, ℕ, None, Some, is_some, kind_of, from_mark, within, text_for, word_or_text}
use Rattle.sym_filter.proofs.EntryLemmas.{left-absent, left-present}
use Rattle.sym_filter.proofs.NameLemmas.{front_of, name_is_word, name_of}
use Rattle.sym_filter.proofs.RunLemmas.{word_or_text-unnamed}
use Rattle.sym_filter.proofs.WordLemmas.{counts-unnamed, counts-named}
use Rattle.sym_filter.proofs.words.Words.end_within.Goals as goal
use Rattle.sym_filter.proofs.words.Words.end_within.Goals.{in-Some+in_ok-has_text, in_default+in_ok-extend_from_slice}

pub returns-clause-text : goal.returns-clause-text
returns-clause-text g c =
    let self = c.args.self.now in
    let answers = within (g.D.Demangler.answer c.args.demangler.now) in
    let out = c.args.out.now.items in
    let at = c.mark_in-at.result in
    let name = name_of self.place self.held.items _ _ at c.deref.ensures.value c.deref-3.ensures.value c.mark_in-at.ensures.from in
    let front = c.in_ok-push_front.ensures ∙ ap (λ (t : List ℕ). out ++ t) (front_of self.place self.held.items _ _ at c.deref.ensures.value c.deref-2.ensures.value c.mark_in-at.ensures.before) in
    elim c.match-kind_of.branch [
      | in-Some+in_ok-has_text w ↦ ap (λ v. v.items) w.out-is ∙ w.in_ok-has_text.ensures.text ∙ ap₂ (λ (a b : List ℕ). a ++ word_or_text answers b) front name
      | in_default+in_ok-extend_from_slice w ↦
          let none : kind_of (from_mark self.place self.held.items) ≡ None = sym (ap kind_of name) ∙ sym c.kind_of.ensures ∙ w.in_default.is in
          ap (λ v. v.items) w.out-is ∙ w.in_ok-extend_from_slice.ensures.items ∙ ap₂ (λ (a b : List ℕ). a ++ b) front (name ∙ sym (word_or_text-unnamed answers (from_mark self.place self.held.items) none))
    ]

pub returns-clause-counts : goal.returns-clause-counts
returns-clause-counts g c =
    let self = c.args.self.now in
    let answers = within (g.D.Demangler.answer c.args.demangler.now) in
    let at = c.mark_in-at.result in
    let word = from_mark self.place self.held.items in
    let name = name_of self.place self.held.items _ _ at c.deref.ensures.value c.deref-3.ensures.value c.mark_in-at.ensures.from in
    let whole = name_is_word self.place self.held.items _ at c.deref.ensures.value c.mark_in-at.ensures.from self.is_held.is_word in
    elim c.match-kind_of.branch [
      | in-Some+in_ok-has_text w ↦
          let some : kind_of word ≡ Some w.in-Some.kind = sym (ap kind_of name) ∙ sym c.kind_of.ensures ∙ w.in-Some.is in
          let has = w.in_ok-has_text.ensures.has_text ∙ ap (λ (t : List ℕ). is_some (text_for answers t)) name in
          ap (λ s. s.1.1.1.1.1.1.0) w.self-is ∙ counts-named answers self.tally w.count.new.self word w.in-Some.kind w.in_ok-has_text.has_text self.is_counted whole some has w.count.ensures
      | in_default+in_ok-extend_from_slice w ↦
          let none : kind_of word ≡ None = sym (ap kind_of name) ∙ sym c.kind_of.ensures ∙ w.in_default.is in
          ap (λ s. s.1.1.1.1.1.1.0) w.self-is ∙ counts-unnamed answers self.tally word self.is_counted whole none
    ]

pub returns-clause-left : goal.returns-clause-left
returns-clause-left g c =
    let self = c.args.self.now in
    let answers = within (g.D.Demangler.answer c.args.demangler.now) in
    let at = c.mark_in-at.result in
    let word = from_mark self.place self.held.items in
    let out = c.match-kind_of.out.items in
    let count = c.match-kind_of.left in
    let front = c.push_front.new.out.items in
    let name = name_of self.place self.held.items _ _ at c.deref.ensures.value c.deref-3.ensures.value c.mark_in-at.ensures.from in
    let whole = name_is_word self.place self.held.items _ at c.deref.ensures.value c.mark_in-at.ensures.from self.is_held.is_word in
    elim c.match-kind_of.branch [
      | in-Some+in_ok-has_text w ↦
          let some : kind_of word ≡ Some w.in-Some.kind = sym (ap kind_of name) ∙ sym c.kind_of.ensures ∙ w.in-Some.is in
          let has = w.in_ok-has_text.ensures.has_text ∙ ap (λ (t : List ℕ). is_some (text_for answers t)) name in
          let is : out ≡ front ++ word_or_text answers word = ap (λ v. v.items) w.out-is ∙ w.in_ok-has_text.ensures.text ∙ ap (λ (t : List ℕ). front ++ word_or_text answers t) name in
          let all : count ≡ cond w.in_ok-has_text.has_text 0 (length word) = w.left-is ∙ w.left_bytes-left.ensures ∙ ap (λ (t : List ℕ). cond w.in_ok-has_text.has_text 0 (length t)) name in
          left-present answers word front out w.in-Some.kind count w.in_ok-has_text.has_text whole some has is all
      | in_default+in_ok-extend_from_slice w ↦
          let none : kind_of word ≡ None = sym (ap kind_of name) ∙ sym c.kind_of.ensures ∙ w.in_default.is in
          left-absent answers word out count w.left-is (ap kind_of whole ∙ none)
    ]
