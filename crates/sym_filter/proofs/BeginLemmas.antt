-- Where the word of a run begins.
use Rattle.sym_filter.proofs.Basics.{◌≡◌, ℕ, ◌<◌, Bool, true, false, cond, eqb, leb, not, ◌&&◌, List, [], ◌∷◌, ◌++◌, length, map, refl, sym, ap, ap₂, ◌∙◌, arith, None, filter, list_all, is_some, and_parts, and_from, and_left, cond-true, cond-false, not-true, true≢false, Letters, Any, Ascii, Within, Place, is_byte_of, kind_of, START, begins_within, from_word, in_stretch, is_divider, may_begin, place_after, with_word, Answering, answers_at, changed, filtered_segment, first_run, fits, is_begun, is_named, later_runs, named_in, named_in_segment, replaced, replaced_at, with_later_runs, within, word_in, word_of, word_or_text, dots_after, named_of, rest_of}
use Rattle.sym_filter.proofs.PlainLemmas.{may_begin-after}
use Rattle.sym_filter.proofs.RunLemmas.{kind_of-other, replaced-unnamed, word_of-word}

pub answers-within : (letters : Letters) (answers : Answering) → begins_within letters ≡ true → answers_at letters answers ≡ within answers
answers-within Any answers h = cc
answers-within Ascii answers h = cc
answers-within Within answers h = refl

pub answers-runs : (letters : Letters) (answers : Answering) → begins_within letters ≡ false → answers_at letters answers ≡ answers
answers-runs Any answers h = refl
answers-runs Ascii answers h = refl
answers-runs Within answers h = cc

-- ## Runs that begin with an underscore

pub begun-more : (front more : List ℕ) → is_begun front ≡ true → 0 < length front → is_begun (front ++ more) ≡ true
begun-more [] more h some = absurd (omega arith)
begun-more (byte ∷ front) more h some = h

pub with_word-begun : (letters : Letters) (change : Place → List ℕ → List ℕ) (place : Place) (run : List ℕ) → may_begin letters place ≡ true → is_begun run ≡ true → change place [] ≡ [] → with_word letters change place run ≡ change place run
with_word-begun letters change place [] begins h nothing = sym nothing
with_word-begun letters change place (byte ∷ run) begins h nothing = cond-true (may_begin letters place && eqb byte 95) _ _ (and_from _ _ begins h)

pub from_word-begun : (letters : Letters) (find : Place → List ℕ → List ℕ) (place : Place) (run : List ℕ) → may_begin letters place ≡ true → is_begun run ≡ true → find place [] ≡ [] → from_word letters find place run ≡ find place run
from_word-begun letters find place [] begins h nothing = sym nothing
from_word-begun letters find place (byte ∷ run) begins h nothing = cond-true (may_begin letters place && eqb byte 95) _ _ (and_from _ _ begins h)

pub named-first : (word : List ℕ) (words : List (List ℕ)) → kind_of (word_of word) ≡ None → filter is_named (word ∷ words) ≡ filter is_named words
unfolding is_named
named-first word words h = cond-false _ _ _ (ap is_some h)

-- ## Where a run's word begins, for all letters

-- a byte that belongs to no run belongs to no stretch
in_stretch-other : (letters : Letters) (byte : ℕ) → is_byte_of letters byte ≡ false → in_stretch letters byte ≡ false
in_stretch-other Any byte h = h
in_stretch-other Ascii byte h = h
in_stretch-other Within byte h = ap (λ (b : Bool). b && not (leb 128 byte)) h

pub place-other : (letters : Letters) (place : Place) (byte : ℕ) → is_byte_of letters byte ≡ false → place_after letters place byte ≡ START
place-other letters place byte h = cond-false (in_stretch letters byte) _ _ (in_stretch-other letters byte h)

pub first_run-all : (letters : Letters) (text : List ℕ) → list_all (is_byte_of letters) (first_run letters text) ≡ true
first_run-all letters [] = refl
first_run-all letters (byte ∷ text) = step (is_byte_of letters byte) refl (first_run-all letters text)
  where
    step : (b : Bool) → is_byte_of letters byte ≡ b → list_all (is_byte_of letters) (first_run letters text) ≡ true → list_all (is_byte_of letters) (cond b (byte ∷ first_run letters text) []) ≡ true
    step true h more = and_from _ _ h more
    step false h more = refl

-- where words are runs, none begins after a byte of a run
closed-after : (letters : Letters) (place : Place) (byte : ℕ) → begins_within letters ≡ false → in_stretch letters byte ≡ true → may_begin letters (place_after letters place byte) ≡ false
closed-after letters place byte runs h = may_begin-after letters place byte ∙ ap₂ (λ (a b : Bool). not (a && not (b && is_divider byte))) h runs

closed-stays : (letters : Letters) (change : Place → List ℕ → List ℕ) (place : Place) → begins_within letters ≡ false → ((byte : ℕ) → in_stretch letters byte ≡ is_byte_of letters byte) → may_begin letters place ≡ false → (run : List ℕ) → list_all (is_byte_of letters) run ≡ true → with_word letters change place run ≡ run
closed-stays letters change place runs same closed [] h = refl
closed-stays letters change place runs same closed (byte ∷ run) h =
    let parts = and_parts (is_byte_of letters byte) (list_all (is_byte_of letters) run) h in
    cond-false (may_begin letters place && eqb byte 95) _ _ (and_left (may_begin letters place) (eqb byte 95) closed)
    ∙ ap (λ (t : List ℕ). byte ∷ t) (closed-stays letters change (place_after letters place byte) runs same (closed-after letters place byte runs (same byte ∙ parts.0)) run parts.1)

closed-none : (letters : Letters) (find : Place → List ℕ → List ℕ) (place : Place) → begins_within letters ≡ false → ((byte : ℕ) → in_stretch letters byte ≡ is_byte_of letters byte) → may_begin letters place ≡ false → (run : List ℕ) → list_all (is_byte_of letters) run ≡ true → from_word letters find place run ≡ []
closed-none letters find place runs same closed [] h = refl
closed-none letters find place runs same closed (byte ∷ run) h =
    let parts = and_parts (is_byte_of letters byte) (list_all (is_byte_of letters) run) h in
    cond-false (may_begin letters place && eqb byte 95) _ _ (and_left (may_begin letters place) (eqb byte 95) closed)
    ∙ closed-none letters find (place_after letters place byte) runs same (closed-after letters place byte runs (same byte ∙ parts.0)) run parts.1

other_byte : (byte : ℕ) → eqb byte 95 ≡ false → byte ≡ 95 → ⊥
other_byte byte h e = let is : eqb byte 95 ≡ true = ap (λ n. eqb n 95) e in true≢false (sym is ∙ h)

-- a word that is too long names no symbol
too_long : (word : List ℕ) → fits word ≡ false → kind_of word ≡ None
too_long word h = cond-false (fits word) _ _ h

run-replaced : (letters : Letters) (answers : Answering) → begins_within letters ≡ false → ((byte : ℕ) → in_stretch letters byte ≡ is_byte_of letters byte) → ((run : List ℕ) → replaced answers run ≡ changed letters answers START run) → (run : List ℕ) → list_all (is_byte_of letters) run ≡ true → replaced answers run ≡ with_word letters (changed letters answers) START run
run-replaced letters answers runs same are [] h = replaced-unnamed answers [] refl
run-replaced letters answers runs same are (byte ∷ run) h = step (eqb byte 95) refl
  where
    step : (b : Bool) → eqb byte 95 ≡ b → replaced answers (byte ∷ run) ≡ cond b (changed letters answers START (byte ∷ run)) (byte ∷ with_word letters (changed letters answers) (place_after letters START byte) run)
    step true e = are (byte ∷ run)
    step false e =
        let parts = and_parts (is_byte_of letters byte) (list_all (is_byte_of letters) run) h in
        replaced-unnamed answers (byte ∷ run) (kind_of-other byte run (other_byte byte e))
        ∙ ap (λ (t : List ℕ). byte ∷ t) (sym (closed-stays letters (changed letters answers) (place_after letters START byte) runs same (closed-after letters START byte runs (same byte ∙ parts.0)) run parts.1))

pub replaced-is : (answers : Answering) (run : List ℕ) → replaced answers run ≡ word_or_text answers (word_of run) ++ dots_after run
unfolding replaced
replaced-is answers run = refl

changed-any : (answers : Answering) (run : List ℕ) → replaced answers run ≡ changed Any answers START run
changed-any answers run = step (fits (word_of run)) refl
  where
    step : (b : Bool) → fits (word_of run) ≡ b → replaced answers run ≡ cond b (word_or_text answers (word_of run) ++ dots_after run) run
    step true e = replaced-is answers run
    step false e = replaced-unnamed answers run (too_long (word_of run) e)

changed-ascii : (answers : Answering) (run : List ℕ) → replaced answers run ≡ changed Ascii answers START run
changed-ascii answers run = changed-any answers run

pub replaced_at-is : (letters : Letters) (answers : Answering) (run : List ℕ) → list_all (is_byte_of letters) run ≡ true → replaced_at letters answers run ≡ with_word letters (changed letters answers) START run
replaced_at-is Any answers run h = run-replaced Any answers refl (λ byte. refl) (changed-any answers) run h
replaced_at-is Ascii answers run h = run-replaced Ascii answers refl (λ byte. refl) (changed-ascii answers) run h
replaced_at-is Within answers run h = refl

named-short : (run : List ℕ) (words : List (List ℕ)) → filter is_named (word_of run ∷ words) ≡ filter is_named (cond (fits (word_of run)) (word_of run) [] ∷ words)
named-short run words = step (fits (word_of run)) refl
  where
    step : (b : Bool) → fits (word_of run) ≡ b → filter is_named (word_of run ∷ words) ≡ filter is_named (cond b (word_of run) [] ∷ words)
    step true e = refl
    step false e = named-first (word_of run) words (ap kind_of (word_of-word run) ∙ too_long (word_of run) e) ∙ sym (named-first [] words refl)

run-named : (letters : Letters) → begins_within letters ≡ false → ((byte : ℕ) → in_stretch letters byte ≡ is_byte_of letters byte) → ((run : List ℕ) → named_in letters START run ≡ cond (fits (word_of run)) (word_of run) []) → (run : List ℕ) (words : List (List ℕ)) → list_all (is_byte_of letters) run ≡ true
    → filter is_named (word_of run ∷ words) ≡ filter is_named (from_word letters (named_in letters) START run ∷ words)
run-named letters runs same are [] words h = refl
run-named letters runs same are (byte ∷ run) words h = step (eqb byte 95) refl
  where
    step : (b : Bool) → eqb byte 95 ≡ b → filter is_named (word_of (byte ∷ run) ∷ words) ≡ filter is_named (cond b (named_in letters START (byte ∷ run)) (from_word letters (named_in letters) (place_after letters START byte) run) ∷ words)
    step true e = named-short (byte ∷ run) words ∙ ap (λ (t : List ℕ). filter is_named (t ∷ words)) (sym (are (byte ∷ run)))
    step false e =
        let parts = and_parts (is_byte_of letters byte) (list_all (is_byte_of letters) run) h in
        named-first (word_of (byte ∷ run)) words (ap kind_of (word_of-word (byte ∷ run)) ∙ kind_of-other byte run (other_byte byte e))
        ∙ sym (ap (λ (t : List ℕ). filter is_named (t ∷ words)) (closed-none letters (named_in letters) (place_after letters START byte) runs same (closed-after letters START byte runs (same byte ∙ parts.0)) run parts.1) ∙ named-first [] words refl)

pub named-from : (letters : Letters) (run : List ℕ) (words : List (List ℕ)) → list_all (is_byte_of letters) run ≡ true → filter is_named (word_in letters run ∷ words) ≡ filter is_named (from_word letters (named_in letters) START run ∷ words)
named-from Any run words h = run-named Any refl (λ byte. refl) (λ run. refl) run words h
named-from Ascii run words h = run-named Ascii refl (λ byte. refl) (λ run. refl) run words h
named-from Within run words h = refl

-- ## What follows where nothing is held

-- where a run begins, the rest is the filtered segment
pub rest_of-start : (letters : Letters) (answers : Answering) (more : List ℕ) → rest_of letters answers [] false START more ≡ filtered_segment letters answers more
rest_of-start letters answers more = ap (λ (t : List ℕ). t ++ with_later_runs letters (replaced_at letters answers) more) (sym (replaced_at-is letters answers (first_run letters more) (first_run-all letters more)))

pub named_of-start : (letters : Letters) (more : List ℕ) → named_of letters [] false START more ≡ named_in_segment letters more
named_of-start letters more = sym (named-from letters (first_run letters more) (map (word_in letters) (later_runs letters more)) (first_run-all letters more))

-- one byte of a plain front is written as it is
pub plain-byte : (letters : Letters) (answers : Answering) (place : Place) (byte : ℕ) (more : List ℕ) (b : Bool) → is_byte_of letters byte ≡ b → not (may_begin letters place && eqb byte 95) ≡ true → rest_of letters answers [] false place (byte ∷ more) ≡ byte ∷ rest_of letters answers [] false (place_after letters place byte) more
plain-byte letters answers place byte more true h next =
    let change = changed letters answers in
    ap₂ (λ (a b : List ℕ). with_word letters change place a ++ b) (cond-true (is_byte_of letters byte) _ _ h) (cond-true (is_byte_of letters byte) _ _ h)
    ∙ ap (λ (t : List ℕ). t ++ with_later_runs letters (replaced_at letters answers) more) (cond-false (may_begin letters place && eqb byte 95) (change place (byte ∷ first_run letters more)) _ (not-true (may_begin letters place && eqb byte 95) next))
plain-byte letters answers place byte more false h next =
    ap₂ (λ (a b : List ℕ). with_word letters (changed letters answers) place a ++ b) (cond-false (is_byte_of letters byte) _ _ h) (cond-false (is_byte_of letters byte) _ _ h)
    ∙ ap (λ (t : List ℕ). byte ∷ t) (sym (rest_of-start letters answers more) ∙ ap (λ (p : Place). rest_of letters answers [] false p more) (sym (place-other letters place byte h)))

pub named-byte : (letters : Letters) (place : Place) (byte : ℕ) (more : List ℕ) (b : Bool) → is_byte_of letters byte ≡ b → not (may_begin letters place && eqb byte 95) ≡ true → named_of letters [] false place (byte ∷ more) ≡ named_of letters [] false (place_after letters place byte) more
named-byte letters place byte more true h next =
    ap₂ (λ (a : List ℕ) (b : List (List ℕ)). filter is_named (from_word letters (named_in letters) place a ∷ map (word_in letters) b)) (cond-true (is_byte_of letters byte) _ _ h) (cond-true (is_byte_of letters byte) _ _ h)
    ∙ ap (λ (t : List ℕ). filter is_named (t ∷ map (word_in letters) (later_runs letters more))) (cond-false (may_begin letters place && eqb byte 95) (named_in letters place (byte ∷ first_run letters more)) _ (not-true (may_begin letters place && eqb byte 95) next))
named-byte letters place byte more false h next =
    ap₂ (λ (a : List ℕ) (b : List (List ℕ)). filter is_named (from_word letters (named_in letters) place a ∷ map (word_in letters) b)) (cond-false (is_byte_of letters byte) _ _ h) (cond-false (is_byte_of letters byte) _ _ h)
    ∙ named-first [] (map (word_in letters) (first_run letters more ∷ later_runs letters more)) refl
    ∙ sym (named_of-start letters more) ∙ ap (λ (p : Place). named_of letters [] false p more) (sym (place-other letters place byte h))
