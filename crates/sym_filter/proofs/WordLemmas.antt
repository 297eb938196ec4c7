-- The steps of a filter over a part of a segment.
use Rattle.sym_filter.proofs.Basics.{◌≡◌, ℕ, zero, suc, ◌+◌, ◌-◌, ◌<◌, ◌≤◌, Bool, true, false, cond, eqb, ◌&&◌, not, List, [], ◌∷◌, ◌++◌, length, length-append, map, take, drop, refl, sym, ap, ap₂, ◌∙◌, subst, append_assoc, arith, Some, None, replicate, filter, get_or, list_all, is_some, and_parts, and_from, cond-true, cond-false, true≢false, eqb-true, lt-leb, le-leb, append-nil, take_more, length-drop, length-take, length-replicate, replicate-append-replicate, list_all-append, take-length, Letters, Place, Words, Tally, Taken, Kind, is_byte_of, kind_of, IsHeld, START, from_word, may_begin, place_after, place_of, with_word, Answering, IsTally, answers_at, changed, filtered_segment, first_run, fits, is_begun, is_named, later_runs, name_in, named_in, named_in_segment, replaced_at, tally_counted, tally_with, tally_with_word, text_for, with_later_runs, word_in, word_of, written, held_of, rest_of, named_of, rest_after, tally_after, following, Takes, is_plain, LONGEST_WORD}
use Rattle.sym_filter.proofs.TallyLemmas.{tally_with-append, tally_with_word-named, tally_with_word-unnamed}
use Rattle.sym_filter.proofs.RunLemmas.{is_dot, after-held, filter-front, first_run-append, later_runs-append, with_later_runs-append, list_all-held, word_of-held, word_of-longer, word_of-part, word_of-word, list_all-word_of, word_and_dots}
use Rattle.sym_filter.proofs.BeginLemmas.{begun-more, from_word-begun, named-byte, named-first, named_of-start, plain-byte, rest_of-start, with_word-begun}
use Rattle.sym_filter.proofs.MarkLemmas.{changed-nothing, name-nothing, named-nothing, written-nothing}

-- `&xs[k..]`
pub slice_from : (xs : List ℕ) (k : ℕ) → take (length xs - k) (drop k xs) ≡ drop k xs
slice_from xs k = ap (λ n. take n (drop k xs)) (sym (length-drop k xs)) ∙ take-length (drop k xs)

-- ## A run from its word on

-- a run is changed from its word on
begun-changed : (letters : Letters) (answers : Answering) (place : Place) (run : List ℕ) → may_begin letters place ≡ true → is_begun run ≡ true → with_word letters (changed letters answers) place run ≡ changed letters answers place run
begun-changed letters answers place run begins begun = with_word-begun letters (changed letters answers) place run begins begun (changed-nothing letters answers place)

pub begun-named : (letters : Letters) (place : Place) (run : List ℕ) → may_begin letters place ≡ true → is_begun run ≡ true → from_word letters (named_in letters) place run ≡ named_in letters place run
begun-named letters place run begins begun = from_word-begun letters (named_in letters) place run begins begun (named-nothing letters place)

-- if a run's word is already too long, it is too long however the run continues
pub too_far : (run rest : List ℕ) → LONGEST_WORD < length (word_of run) → fits (word_of (run ++ rest)) ≡ false
too_far run rest long = lt-leb (length (word_of (run ++ rest))) LONGEST_WORD (omega (arith, word_of-longer run rest))

pub rest_of-front : (letters : Letters) (answers : Answering) (place : Place) (front more : List ℕ) → list_all (is_byte_of letters) front ≡ true → may_begin letters place ≡ true → ((rest : List ℕ) → is_begun (front ++ rest) ≡ true) → LONGEST_WORD < length (word_of front)
    → with_word letters (changed letters answers) place (first_run letters (front ++ more)) ++ with_later_runs letters (replaced_at letters answers) (front ++ more) ≡ front ++ (first_run letters more ++ with_later_runs letters (replaced_at letters answers) more)
rest_of-front letters answers place front more h begins begun long =
    let run = front ++ first_run letters more in
    let stays : with_word letters (changed letters answers) place run ≡ run = begun-changed letters answers place run begins (begun (first_run letters more)) ∙ cond-false (fits (word_of run)) _ _ (too_far front (first_run letters more) long) in
    ap₂ (λ (a b : List ℕ). with_word letters (changed letters answers) place a ++ b) (first_run-append letters front more h) (with_later_runs-append letters (replaced_at letters answers) front more h)
    ∙ ap (λ (t : List ℕ). t ++ with_later_runs letters (replaced_at letters answers) more) stays ∙ append_assoc front (first_run letters more) (with_later_runs letters (replaced_at letters answers) more)

pub named_of-front : (letters : Letters) (place : Place) (front more : List ℕ) → list_all (is_byte_of letters) front ≡ true → may_begin letters place ≡ true → ((rest : List ℕ) → is_begun (front ++ rest) ≡ true) → LONGEST_WORD < length (word_of front)
    → filter is_named (from_word letters (named_in letters) place (first_run letters (front ++ more)) ∷ map (word_in letters) (later_runs letters (front ++ more))) ≡ filter is_named (map (word_in letters) (later_runs letters more))
named_of-front letters place front more h begins begun long =
    let run = front ++ first_run letters more in
    let none : from_word letters (named_in letters) place run ≡ [] = begun-named letters place run begins (begun (first_run letters more)) ∙ cond-false (fits (word_of run)) _ _ (too_far front (first_run letters more) long) in
    ap₂ (λ (a : List ℕ) (b : List (List ℕ)). filter is_named (from_word letters (named_in letters) place a ∷ map (word_in letters) b)) (first_run-append letters front more h) (later_runs-append letters front more h)
    ∙ ap (λ (t : List ℕ). filter is_named (t ∷ map (word_in letters) (later_runs letters more))) none ∙ named-first [] (map (word_in letters) (later_runs letters more)) refl

-- a byte that belongs to no run ends the run before it
pub runs-end : (letters : Letters) (run : List ℕ) (byte : ℕ) (more : List ℕ) → list_all (is_byte_of letters) run ≡ true → is_byte_of letters byte ≡ false → first_run letters (run ++ (byte ∷ more)) ≡ first_run letters (run ++ [])
runs-end letters run byte more h other =
    first_run-append letters run (byte ∷ more) h ∙ ap (λ t. run ++ t) (cond-false (is_byte_of letters byte) _ _ other) ∙ sym (first_run-append letters run [] h)

pub rest_of-ends : (letters : Letters) (answers : Answering) (run : List ℕ) (past : Bool) (place : Place) (byte : ℕ) (more : List ℕ) → list_all (is_byte_of letters) run ≡ true → is_byte_of letters byte ≡ false → rest_of letters answers run past place (byte ∷ more) ≡ rest_of letters answers run past place [] ++ (byte ∷ filtered_segment letters answers more)
rest_of-ends letters answers run true place byte more h other =
    ap₂ (λ (a b : List ℕ). a ++ b) (cond-false (is_byte_of letters byte) _ _ other) (cond-false (is_byte_of letters byte) _ _ other)
rest_of-ends letters answers run false place byte more h other =
    let change = with_word letters (changed letters answers) place in
    let none : with_later_runs letters (replaced_at letters answers) (run ++ []) ≡ [] = with_later_runs-append letters (replaced_at letters answers) run [] h in
    ap₂ (λ (a b : List ℕ). change a ++ b) (runs-end letters run byte more h other) (with_later_runs-append letters (replaced_at letters answers) run (byte ∷ more) h ∙ cond-false (is_byte_of letters byte) _ _ other)
    ∙ ap (λ (t : List ℕ). t ++ (byte ∷ filtered_segment letters answers more)) (sym (ap (λ (t : List ℕ). change (first_run letters (run ++ [])) ++ t) none ∙ append-nil (change (first_run letters (run ++ [])))))

pub named_of-ends : (letters : Letters) (run : List ℕ) (past : Bool) (place : Place) (byte : ℕ) (more : List ℕ) → list_all (is_byte_of letters) run ≡ true → is_byte_of letters byte ≡ false → named_of letters run past place (byte ∷ more) ≡ named_of letters run past place [] ++ named_in_segment letters more
named_of-ends letters run true place byte more h other = ap (λ (r : List (List ℕ)). filter is_named (map (word_in letters) r)) (cond-false (is_byte_of letters byte) _ _ other)
named_of-ends letters run false place byte more h other =
    let find = from_word letters (named_in letters) place in
    let none : later_runs letters (run ++ []) ≡ [] = later_runs-append letters run [] h in
    ap₂ (λ (a : List ℕ) (r : List (List ℕ)). filter is_named (find a ∷ map (word_in letters) r)) (runs-end letters run byte more h other) (later_runs-append letters run (byte ∷ more) h ∙ cond-false (is_byte_of letters byte) _ _ other)
    ∙ filter-front (find (first_run letters (run ++ []))) (named_in_segment letters more)
    ∙ ap (λ (r : List (List ℕ)). filter is_named (find (first_run letters (run ++ [])) ∷ map (word_in letters) r) ++ named_in_segment letters more) (sym none)

-- a plain front
pub rest_of-plain : (letters : Letters) (answers : Answering) (place : Place) (front more : List ℕ) → is_plain letters place front ≡ true → rest_of letters answers [] false place (front ++ more) ≡ front ++ rest_of letters answers [] false (place_of letters place front) more
rest_of-plain letters answers place [] more h = refl
rest_of-plain letters answers place (byte ∷ front) more h =
    let parts = and_parts (not (may_begin letters place && eqb byte 95)) (is_plain letters (place_after letters place byte) front) h in
    plain-byte letters answers place byte (front ++ more) (is_byte_of letters byte) refl parts.0 ∙ ap (λ (t : List ℕ). byte ∷ t) (rest_of-plain letters answers (place_after letters place byte) front more parts.1)

pub named_of-plain : (letters : Letters) (place : Place) (front more : List ℕ) → is_plain letters place front ≡ true → named_of letters [] false place (front ++ more) ≡ named_of letters [] false (place_of letters place front) more
named_of-plain letters place [] more h = refl
named_of-plain letters place (byte ∷ front) more h =
    let parts = and_parts (not (may_begin letters place && eqb byte 95)) (is_plain letters (place_after letters place byte) front) h in
    named-byte letters place byte (front ++ more) (is_byte_of letters byte) refl parts.0 ∙ named_of-plain letters (place_after letters place byte) front more parts.1

-- ## What is left of a run at its end

run_end : (letters : Letters) (answers : Answering) (place : Place) (run : List ℕ) → list_all (is_byte_of letters) run ≡ true → rest_of letters answers run false place [] ≡ with_word letters (changed letters answers) place run
run_end letters answers place run h =
    ap₂ (λ (a b : List ℕ). with_word letters (changed letters answers) place a ++ b) (first_run-append letters run [] h ∙ append-nil run) (with_later_runs-append letters (replaced_at letters answers) run [] h)
    ∙ append-nil (with_word letters (changed letters answers) place run)

names_end : (letters : Letters) (place : Place) (run : List ℕ) → list_all (is_byte_of letters) run ≡ true → named_of letters run false place [] ≡ filter is_named (from_word letters (named_in letters) place run ∷ [])
names_end letters place run h =
    ap₂ (λ (a : List ℕ) (b : List (List ℕ)). filter is_named (from_word letters (named_in letters) place a ∷ map (word_in letters) b)) (first_run-append letters run [] h ∙ append-nil run) (later_runs-append letters run [] h)

nothing_held : (letters : Letters) (answers : Answering) (held : List ℕ) (dots : ℕ) (place : Place) → (held ≡ []) × (dots ≡ 0) → [] ≡ written letters answers place held ++ replicate dots 46
nothing_held letters answers held dots place nothing =
    sym (ap₂ (λ (t : List ℕ) (n : ℕ). written letters answers place t ++ replicate n 46) nothing.0 nothing.1 ∙ append-nil (written letters answers place []) ∙ written-nothing letters answers place)

held-changed : (letters : Letters) (answers : Answering) (held : List ℕ) (dots : ℕ) (place : Place) → word_of held ≡ held → length held ≤ LONGEST_WORD → changed letters answers place (held ++ replicate dots 46) ≡ written letters answers place held ++ replicate dots 46
held-changed letters answers held dots place h short =
    let word = word_of-held held dots h in
    cond-true (fits (word_of (held ++ replicate dots 46))) _ _ (ap fits word ∙ le-leb (length held) LONGEST_WORD short)
    ∙ ap₂ (λ (w d : List ℕ). written letters answers place w ++ d) word (after-held held dots h)

held-named : (letters : Letters) (held : List ℕ) (dots : ℕ) (place : Place) → word_of held ≡ held → length held ≤ LONGEST_WORD → named_in letters place (held ++ replicate dots 46) ≡ name_in letters place held
held-named letters held dots place h short =
    let word = word_of-held held dots h in
    cond-true (fits (word_of (held ++ replicate dots 46))) _ _ (ap fits word ∙ le-leb (length held) LONGEST_WORD short) ∙ ap (name_in letters place) word

held-end : (letters : Letters) (answers : Answering) (held : List ℕ) (dots : ℕ) (place : Place) (b : Bool) → IsHeld letters held dots false place → may_begin letters place ≡ b → with_word letters (changed letters answers) place (held ++ replicate dots 46) ≡ written letters answers place held ++ replicate dots 46
held-end letters answers held dots place true h begins = begun-changed letters answers place (held ++ replicate dots 46) begins h.begins ∙ held-changed letters answers held dots place h.is_word h.fits
held-end letters answers held dots place false h begins =
    let nothing = h.closed_holds_nothing begins in
    ap₂ (λ (t : List ℕ) (n : ℕ). with_word letters (changed letters answers) place (t ++ replicate n 46)) nothing.0 nothing.1 ∙ nothing_held letters answers held dots place nothing

pub rest_of-end : (letters : Letters) (answers : Answering) (held : List ℕ) (dots : ℕ) (past : Bool) (place : Place) → IsHeld letters held dots past place → rest_of letters answers (held ++ replicate dots 46) past place [] ≡ written letters answers place held ++ replicate dots 46
rest_of-end letters answers held dots true place h = nothing_held letters answers held dots place (h.past_holds_nothing refl)
rest_of-end letters answers held dots false place h =
    run_end letters answers place (held ++ replicate dots 46) (list_all-held letters held dots h.of_run) ∙ held-end letters answers held dots place (may_begin letters place) h refl

-- a held word that names no symbol isn't counted
pub counts-unnamed : (answers : Answering) (tally : Tally) (word : List ℕ) → IsTally tally → word_of word ≡ word → kind_of word ≡ None → tally ≡ tally_with_word answers tally word
unfolding is_named
counts-unnamed answers tally word fits h none =
    sym (tally_with_word-unnamed answers tally word (ap (λ (w : List ℕ). is_some (kind_of w)) h ∙ ap is_some none) fits)

pub counts-named : (answers : Answering) (tally new : Tally) (word : List ℕ) (kind : Kind) (b : Bool) → IsTally tally → word_of word ≡ word → kind_of word ≡ Some kind → b ≡ is_some (text_for answers word) → new ≡ tally_counted b tally → new ≡ tally_with_word answers tally word
unfolding is_named
counts-named answers tally new word kind b fits h some text counted =
    counted ∙ sym (tally_with_word-named answers tally word b (ap (λ (w : List ℕ). is_some (kind_of w)) h ∙ ap is_some some) (ap (λ (w : List ℕ). is_some (text_for answers w)) h ∙ sym text) fits)

-- where nothing is held, no word is counted
pub names-nothing : (letters : Letters) (held : List ℕ) (dots : ℕ) (place : Place) → (held ≡ []) × (dots ≡ 0) → [] ≡ filter is_named (name_in letters place held ∷ [])
names-nothing letters held dots place nothing =
    sym (ap (λ (t : List ℕ). filter is_named (name_in letters place t ∷ [])) nothing.0 ∙ ap (λ (t : List ℕ). filter is_named (t ∷ [])) (name-nothing letters place) ∙ named-first [] [] refl)

pub held-names : (letters : Letters) (held : List ℕ) (dots : ℕ) (place : Place) (b : Bool) → IsHeld letters held dots false place → may_begin letters place ≡ b → filter is_named (from_word letters (named_in letters) place (held ++ replicate dots 46) ∷ []) ≡ filter is_named (name_in letters place held ∷ [])
held-names letters held dots place true h begins =
    ap (λ (t : List ℕ). filter is_named (t ∷ [])) (begun-named letters place (held ++ replicate dots 46) begins h.begins ∙ held-named letters held dots place h.is_word h.fits)
held-names letters held dots place false h begins =
    let nothing = h.closed_holds_nothing begins in
    ap₂ (λ (t : List ℕ) (n : ℕ). filter is_named (from_word letters (named_in letters) place (t ++ replicate n 46) ∷ [])) nothing.0 nothing.1 ∙ named-first [] [] refl ∙ names-nothing letters held dots place nothing

names-end : (letters : Letters) (held : List ℕ) (dots : ℕ) (past : Bool) (place : Place) → IsHeld letters held dots past place → named_of letters (held ++ replicate dots 46) past place [] ≡ filter is_named (name_in letters place held ∷ [])
names-end letters held dots true place h = names-nothing letters held dots place (h.past_holds_nothing refl)
names-end letters held dots false place h =
    names_end letters place (held ++ replicate dots 46) (list_all-held letters held dots h.of_run) ∙ held-names letters held dots place (may_begin letters place) h refl

pub tally-end : (letters : Letters) (answers : Answering) (tally : Tally) (held : List ℕ) (dots : ℕ) (past : Bool) (place : Place) → IsHeld letters held dots past place → tally_with_word answers tally (name_in letters place held) ≡ tally_with answers tally (named_of letters (held ++ replicate dots 46) past place [])
tally-end letters answers tally held dots past place h = ap (tally_with answers tally) (sym (names-end letters held dots past place h))

-- ## What is taken

-- a filter that holds nothing continues with the text that follows
pub rest_after-nothing : (letters : Letters) (answers : Answering) (words : Words) (more : List ℕ) → words.letters ≡ letters → held_of words ≡ [] → words.past ≡ false → words.place ≡ START → rest_after answers words more ≡ filtered_segment letters answers more
rest_after-nothing letters answers words more same nothing past start =
    ap (λ (l : Letters). rest_of l answers (held_of words) words.past words.place more) same ∙ ap (λ (h : List ℕ). rest_of letters answers h words.past words.place more) nothing
    ∙ ap₂ (λ (p : Bool) (b : Place). rest_of letters answers [] p b more) past start ∙ rest_of-start letters answers more

pub named_of-nothing : (letters : Letters) (words : Words) (more : List ℕ) → words.letters ≡ letters → held_of words ≡ [] → words.past ≡ false → words.place ≡ START → named_of words.letters (held_of words) words.past words.place more ≡ named_in_segment letters more
named_of-nothing letters words more same nothing past start =
    ap (λ (l : Letters). named_of l (held_of words) words.past words.place more) same ∙ ap (λ (h : List ℕ). named_of letters h words.past words.place more) nothing
    ∙ ap₂ (λ (p : Bool) (b : Place). named_of letters [] p b more) past start ∙ named_of-start letters more

-- a filter keeps its letters
pub rest_after-same : (letters : Letters) (answers : Answering) (words : Words) (more : List ℕ) → words.letters ≡ letters → rest_of letters answers (held_of words) words.past words.place more ≡ rest_after answers words more
rest_after-same letters answers words more same = ap (λ (l : Letters). rest_of l answers (held_of words) words.past words.place more) (sym same)

tally_after-same : (letters : Letters) (answers : Answering) (words : Words) (more : List ℕ) → words.letters ≡ letters → tally_with (answers_at letters answers) words.tally (named_of letters (held_of words) words.past words.place more) ≡ tally_after answers words more
tally_after-same letters answers words more same = ap (λ (l : Letters). tally_with (answers_at l answers) words.tally (named_of l (held_of words) words.past words.place more)) (sym same)

pub all_held : (words : Words) → list_all (is_byte_of words.letters) (held_of words) ≡ true
all_held words = list_all-held words.letters words.held.items words.dots words.is_held.of_run

-- a plain front is taken
pub Takes-plain : (answers : Answering) (old new : Words) (front : List ℕ) → new.letters ≡ old.letters → held_of old ≡ [] → held_of new ≡ [] → old.past ≡ false → new.past ≡ false → new.place ≡ place_of old.letters old.place front → new.tally ≡ old.tally → new.dots ≡ old.dots → is_plain old.letters old.place front ≡ true → Takes answers old new front front
Takes-plain answers old new front same nothing nothing' past past' place counted dots plain = let letters = old.letters in let texts = answers_at letters answers in record {
  text = λ more. ap₂ (λ (h : List ℕ) (p : Bool). rest_of letters answers h p old.place (front ++ more)) nothing past ∙ rest_of-plain letters answers old.place front more plain
      ∙ ap (λ (t : List ℕ). front ++ t) (ap₂ (λ (h : List ℕ) (b : Place). rest_of letters answers h false b more) (sym nothing') (sym place) ∙ ap (λ (p : Bool). rest_of letters answers (held_of new) p new.place more) (sym past') ∙ rest_after-same letters answers new more same);
  counts = λ more. ap₂ (λ (h : List ℕ) (p : Bool). tally_with texts old.tally (named_of letters h p old.place (front ++ more))) nothing past ∙ ap (tally_with texts old.tally) (named_of-plain letters old.place front more plain)
      ∙ ap₂ (λ (t : Tally) (words : List (List ℕ)). tally_with texts t words) (sym counted) (ap₂ (λ (h : List ℕ) (b : Place). named_of letters h false b more) (sym nothing') (sym place) ∙ ap (λ (p : Bool). named_of letters (held_of new) p new.place more) (sym past'))
      ∙ tally_after-same letters answers new more same;
  dots = omega arith;
  letters = same;
}

-- a part of a run is held
pub Takes-held : (answers : Answering) (old new : Words) (part : List ℕ) → new.letters ≡ old.letters → old.past ≡ false → new.past ≡ false → new.place ≡ old.place → held_of new ≡ held_of old ++ part → new.tally ≡ old.tally → new.dots ≤ old.dots + length part → Takes answers old new part []
Takes-held answers old new part same past past' place held counted dots =
    let letters = old.letters in
    let texts = answers_at letters answers in
    let more_is : (more : List ℕ) → held_of old ++ (part ++ more) ≡ held_of new ++ more = λ more. sym (append_assoc (held_of old) part more) ∙ ap (λ (t : List ℕ). t ++ more) (sym held) in
    let rest : List ℕ → List ℕ = λ text. with_word letters (changed letters answers) old.place (first_run letters text) ++ with_later_runs letters (replaced_at letters answers) text in
    let names : List ℕ → List (List ℕ) = λ text. filter is_named (from_word letters (named_in letters) old.place (first_run letters text) ∷ map (word_in letters) (later_runs letters text)) in record {
      text = λ more. ap (λ (p : Bool). rest_of letters answers (held_of old) p old.place (part ++ more)) past ∙ ap rest (more_is more) ∙ ap₂ (λ (p : Bool) (b : Place). rest_of letters answers (held_of new) p b more) (sym past') (sym place)
          ∙ rest_after-same letters answers new more same;
      counts = λ more. ap (λ (p : Bool). tally_with texts old.tally (named_of letters (held_of old) p old.place (part ++ more))) past ∙ ap₂ (λ (t : Tally) (text : List ℕ). tally_with texts t (names text)) (sym counted) (more_is more)
          ∙ ap₂ (λ (p : Bool) (b : Place). tally_with texts new.tally (named_of letters (held_of new) p b more)) (sym past') (sym place)
          ∙ tally_after-same letters answers new more same;
      dots = dots;
      letters = same;
    }

-- a run whose word is long has bytes
pub some_bytes : (run : List ℕ) → LONGEST_WORD < length (word_of run) → 0 < length run
some_bytes [] long = absurd (omega arith)
some_bytes (byte ∷ run) long = omega arith

-- a run is passed on from one of its parts on
pub Takes-passes : (answers : Answering) (old new : Words) (part : List ℕ) → new.letters ≡ old.letters → old.past ≡ false → may_begin old.letters old.place ≡ true → new.past ≡ true → list_all (is_byte_of old.letters) part ≡ true → is_begun (held_of old ++ part) ≡ true → LONGEST_WORD < length (word_of (held_of old ++ part)) → new.tally ≡ old.tally → new.dots ≤ old.dots + length part → Takes answers old new part (old.held.items ++ (replicate old.dots 46 ++ part))
Takes-passes answers old new part same past may past' in_run begun long counted dots =
    let letters = old.letters in
    let texts = answers_at letters answers in
    let front = held_of old ++ part in
    let all_front : list_all (is_byte_of letters) front ≡ true = list_all-append (is_byte_of letters) (held_of old) part ∙ and_from _ _ (all_held old) in_run in
    let begins : (rest : List ℕ) → is_begun (front ++ rest) ≡ true = λ rest. begun-more front rest begun (some_bytes front long) in
    let regrouped : (more : List ℕ) → held_of old ++ (part ++ more) ≡ front ++ more = λ more. sym (append_assoc (held_of old) part more) in
    let front_is : front ≡ old.held.items ++ (replicate old.dots 46 ++ part) = append_assoc old.held.items (replicate old.dots 46) part in
    let rest : List ℕ → List ℕ = λ text. with_word letters (changed letters answers) old.place (first_run letters text) ++ with_later_runs letters (replaced_at letters answers) text in
    let names : List ℕ → List (List ℕ) = λ text. filter is_named (from_word letters (named_in letters) old.place (first_run letters text) ∷ map (word_in letters) (later_runs letters text)) in record {
      text = λ more. ap (λ (p : Bool). rest_of letters answers (held_of old) p old.place (part ++ more)) past ∙ ap rest (regrouped more) ∙ rest_of-front letters answers old.place front more all_front may begins long
          ∙ ap₂ (λ (t : List ℕ) (p : Bool). t ++ rest_of letters answers (held_of new) p new.place more) front_is (sym past')
          ∙ ap (λ (t : List ℕ). (old.held.items ++ (replicate old.dots 46 ++ part)) ++ t) (rest_after-same letters answers new more same);
      counts = λ more. ap (λ (p : Bool). tally_with texts old.tally (named_of letters (held_of old) p old.place (part ++ more))) past ∙ ap (λ (t : List ℕ). tally_with texts old.tally (names t)) (regrouped more) ∙ ap (tally_with texts old.tally) (named_of-front letters old.place front more all_front may begins long)
          ∙ ap₂ (λ (t : Tally) (p : Bool). tally_with texts t (named_of letters (held_of new) p new.place more)) (sym counted) (sym past')
          ∙ tally_after-same letters answers new more same;
      dots = dots;
      letters = same;
    }

-- a run that is passed on to its end continues
pub Takes-past : (answers : Answering) (old new : Words) (part : List ℕ) → new.letters ≡ old.letters → old.past ≡ true → new.past ≡ true → list_all (is_byte_of old.letters) part ≡ true → new.tally ≡ old.tally → new.dots ≡ old.dots → Takes answers old new part part
Takes-past answers old new part same past past' in_run counted dots =
    let letters = old.letters in
    let texts = answers_at letters answers in record {
      text = λ more. ap (λ (p : Bool). rest_of letters answers (held_of old) p old.place (part ++ more)) past
          ∙ ap₂ (λ (a b : List ℕ). a ++ b) (first_run-append letters part more in_run) (with_later_runs-append letters (replaced_at letters answers) part more in_run)
          ∙ append_assoc part (first_run letters more) (with_later_runs letters (replaced_at letters answers) more)
          ∙ ap (λ (t : List ℕ). part ++ t) (ap (λ (p : Bool). rest_of letters answers (held_of new) p new.place more) (sym past') ∙ rest_after-same letters answers new more same);
      counts = λ more. ap (λ (p : Bool). tally_with texts old.tally (named_of letters (held_of old) p old.place (part ++ more))) past
          ∙ ap (λ (r : List (List ℕ)). tally_with texts old.tally (filter is_named (map (word_in letters) r))) (later_runs-append letters part more in_run)
          ∙ ap₂ (λ (t : Tally) (p : Bool). tally_with texts t (named_of letters (held_of new) p new.place more)) (sym counted) (sym past')
          ∙ tally_after-same letters answers new more same;
      dots = omega arith;
      letters = same;
    }

-- a run that is passed on ends at a byte that belongs to no run
pub Takes-past_end : (answers : Answering) (old new : Words) (byte : ℕ) → new.letters ≡ old.letters → old.past ≡ true → new.past ≡ false → new.place ≡ START → held_of new ≡ [] → is_byte_of old.letters byte ≡ false → new.tally ≡ old.tally → new.dots ≡ old.dots → Takes answers old new (byte ∷ []) (byte ∷ [])
Takes-past_end answers old new byte same past past' start nothing other counted dots =
    let letters = old.letters in
    let texts = answers_at letters answers in record {
      text = λ more. ap (λ (p : Bool). rest_of letters answers (held_of old) p old.place (byte ∷ more)) past
          ∙ ap₂ (λ (a b : List ℕ). a ++ b) (cond-false (is_byte_of letters byte) _ _ other) (cond-false (is_byte_of letters byte) _ _ other)
          ∙ ap (λ (t : List ℕ). byte ∷ t) (sym (rest_after-nothing letters answers new more same nothing past' start));
      counts = λ more. ap (λ (p : Bool). tally_with texts old.tally (named_of letters (held_of old) p old.place (byte ∷ more))) past
          ∙ ap (λ (r : List (List ℕ)). tally_with texts old.tally (filter is_named (map (word_in letters) r))) (cond-false (is_byte_of letters byte) _ _ other)
          ∙ ap₂ (λ (l : Letters) (t : Tally). tally_with (answers_at l answers) t (named_in_segment letters more)) (sym same) (sym counted)
          ∙ ap (tally_with (answers_at new.letters answers) new.tally) (sym (named_of-nothing letters new more same nothing past' start));
      dots = omega arith;
      letters = same;
    }

-- a run that is passed on ends at the first byte of a text
pub past-ends : (answers : Answering) (old new : Words) (text : List ℕ) (count : ℕ) → new.letters ≡ old.letters → old.past ≡ true → new.past ≡ false → new.place ≡ START → held_of new ≡ [] → 0 < length text → count ≡ 0 → is_byte_of old.letters (get_or text count 0) ≡ false → new.tally ≡ old.tally → new.dots ≡ old.dots → Takes answers old new (take 1 text) (take 1 text)
past-ends answers old new text count same past past' start nothing some none other counted dots =
    let first : take 1 text ≡ get_or text 0 0 ∷ [] = take_more text 0 0 some in
    let ends : is_byte_of old.letters (get_or text 0 0) ≡ false = ap (λ n. is_byte_of old.letters (get_or text n 0)) (sym none) ∙ other in
    subst (λ (t : List ℕ). Takes answers old new t t) (sym first) (Takes-past_end answers old new (get_or text 0 0) same past past' start nothing ends counted dots)

-- a byte after a run is taken
pub Takes-ends : (answers : Answering) (old new : Words) (byte : ℕ) → new.letters ≡ old.letters → is_byte_of old.letters byte ≡ false → new.tally ≡ tally_with_word (answers_at old.letters answers) old.tally (name_in old.letters old.place old.held.items) → held_of new ≡ [] → new.dots ≡ 0 → new.past ≡ false → new.place ≡ START → Takes answers old new (byte ∷ []) (written old.letters answers old.place old.held.items ++ (replicate old.dots 46 ++ byte ∷ []))
Takes-ends answers old new byte same other counted nothing no_dots past start =
    let letters = old.letters in
    let texts = answers_at letters answers in
    let ended = rest_of-end letters answers old.held.items old.dots old.past old.place old.is_held in
    let tally = tally-end letters texts old.tally old.held.items old.dots old.past old.place old.is_held in
    let word = written letters answers old.place old.held.items in record {
      text = λ more. let tail = byte ∷ rest_after answers new more in
          rest_of-ends letters answers (held_of old) old.past old.place byte more (all_held old) other ∙ ap₂ (λ (a b : List ℕ). a ++ (byte ∷ b)) ended (sym (rest_after-nothing letters answers new more same nothing past start))
          ∙ append_assoc word (replicate old.dots 46) tail
          ∙ ap (λ (t : List ℕ). word ++ t) (sym (append_assoc (replicate old.dots 46) (byte ∷ []) (rest_after answers new more)))
          ∙ sym (append_assoc word (replicate old.dots 46 ++ byte ∷ []) (rest_after answers new more));
      counts = λ more. ap (tally_with texts old.tally) (named_of-ends letters (held_of old) old.past old.place byte more (all_held old) other)
          ∙ sym (tally_with-append texts old.tally (named_of letters (held_of old) old.past old.place []) (named_in_segment letters more))
          ∙ ap₂ (λ (t : Tally) (words : List (List ℕ)). tally_with texts t words) (sym (counted ∙ tally)) (sym (named_of-nothing letters new more same nothing past start))
          ∙ ap (λ (l : Letters). tally_with (answers_at l answers) new.tally (named_of new.letters (held_of new) new.past new.place more)) (sym same);
      dots = omega arith;
      letters = same;
    }

-- two parts are taken, one after the other
pub Takes-join : (answers : Answering) (a b c : Words) (piece next bytes more_bytes : List ℕ) → Takes answers a b piece bytes → Takes answers b c next more_bytes → Takes answers a c (piece ++ next) (bytes ++ more_bytes)
Takes-join answers a b c piece next bytes more_bytes h i = record {
  text = λ more. ap (rest_after answers a) (append_assoc piece next more) ∙ h.text (next ++ more) ∙ ap (λ (t : List ℕ). bytes ++ t) (i.text more) ∙ sym (append_assoc bytes more_bytes (rest_after answers c more));
  counts = λ more. ap (tally_after answers a) (append_assoc piece next more) ∙ h.counts (next ++ more) ∙ i.counts more;
  dots = omega (arith, h.dots, i.dots, length-append piece next);
  letters = i.letters ∙ h.letters;
}

-- nothing is held while a run is passed on
pub held_of-past : (words : Words) → words.past ≡ true → held_of words ≡ []
held_of-past words past =
    let nothing = words.is_held.past_holds_nothing past in
    ap₂ (λ (t : List ℕ) (n : ℕ). t ++ replicate n 46) nothing.0 nothing.1

-- nothing is held of a run
pub held_of-empty : (words : Words) → words.held.items ≡ [] → words.dots ≡ 0 → held_of words ≡ []
held_of-empty words h none = ap₂ (λ (t : List ℕ) (n : ℕ). t ++ replicate n 46) h none

pub no_items : (xs : List ℕ) (n : ℕ) → n ≡ length xs → eqb n 0 ≡ true → xs ≡ []
no_items [] n h e = refl
no_items (x ∷ xs) n h e = let zero : n ≡ 0 = eqb-true n 0 e in absurd (omega arith)

pub has_items : (xs : List ℕ) (n : ℕ) → n ≡ length xs → eqb n 0 ≡ false → xs ≡ [] → ⊥
has_items xs n h e nothing = let none : eqb n 0 ≡ true = ap (λ k. eqb k 0) (h ∙ ap length nothing) in true≢false (sym none ∙ e)

-- what is held of a run with one more part of the run: the word, and the dots after the word
front_in_run : (letters : Letters) (part : List ℕ) (end : ℕ) → list_all (is_byte_of letters) part ≡ true → take end part ≡ word_of part → list_all (is_byte_of letters) (take end part) ≡ true
front_in_run letters part end h word =
    let whole : list_all (is_byte_of letters) (word_of part ++ replicate (length part - length (word_of part)) 46) ≡ true = ap (list_all (is_byte_of letters)) (sym (word_and_dots part)) ∙ h in
    ap (list_all (is_byte_of letters)) word ∙ (and_parts _ _ (sym (list_all-append (is_byte_of letters) (word_of part) _) ∙ whole)).0

not_dots-step : (part : List ℕ) (b : Bool) → list_all is_dot part ≡ b → (word_of part ≡ [] → ⊥) → b ≡ false
not_dots-step [] b h some = absurd (some refl)
not_dots-step (byte ∷ part) true h some = absurd (some (cond-true _ _ _ h))
not_dots-step (byte ∷ part) false h some = refl

some_word : (part : List ℕ) (end : ℕ) → take end part ≡ word_of part → (end ≡ 0 → ⊥) → end ≤ length part → (word_of part ≡ [] → ⊥)
some_word part end word some within none =
    let empty : length (take end part) ≡ 0 = ap length (word ∙ none) in absurd (some (omega (arith, length-take end part)))

not_dots : (part : List ℕ) (end : ℕ) → take end part ≡ word_of part → (end ≡ 0 → ⊥) → end ≤ length part → list_all is_dot part ≡ false
not_dots part end word some within = not_dots-step part (list_all is_dot part) refl (some_word part end word some within)

word_length : (part : List ℕ) (end : ℕ) → take end part ≡ word_of part → end ≤ length part → length (word_of part) ≡ end
word_length part end word within = ap length (sym word) ∙ omega (arith, length-take end part)

pub held_of-part : (held part : List ℕ) (dots end : ℕ) → take end part ≡ word_of part → end ≤ length part → (held ++ replicate dots 46 ++ take end part) ++ replicate (length part - end) 46 ≡ (held ++ replicate dots 46) ++ part
held_of-part held part dots end word within =
    let front = held ++ replicate dots 46 in
    let size = word_length part end word within in
    append_assoc front (take end part) (replicate (length part - end) 46)
    ∙ ap (λ (t : List ℕ). front ++ t) (ap₂ (λ (t : List ℕ) (n : ℕ). t ++ replicate (length part - n) 46) word (sym size) ∙ sym (word_and_dots part))

pub IsHeld-part : (letters : Letters) (held : List ℕ) (dots dots' : ℕ) (part : List ℕ) (end : ℕ) (past : Bool) (place : Place) → IsHeld letters held dots past place → list_all (is_byte_of letters) part ≡ true → take end part ≡ word_of part → (end ≡ 0 → ⊥) → end ≤ length part → length held + dots + end ≤ LONGEST_WORD → past ≡ false → may_begin letters place ≡ true → dots' ≡ length part - end → is_begun ((held ++ replicate dots 46) ++ part) ≡ true → IsHeld letters (held ++ replicate dots 46 ++ take end part) dots' past place
IsHeld-part letters held dots dots' part end past place h in_run word some within short not_past begins dots_are begun =
    let front = held ++ replicate dots 46 in
    let other : list_all is_dot (take end part) ≡ false = ap (list_all is_dot) word ∙ list_all-word_of part ∙ not_dots part end word some within in record {
      of_run = list_all-append (is_byte_of letters) front (take end part) ∙ and_from _ _ (list_all-held letters held dots h.of_run) (front_in_run letters part end in_run word);
      is_word = word_of-part front (take end part) other ∙ ap (λ (t : List ℕ). front ++ t) (ap word_of word ∙ word_of-word part ∙ sym word);
      fits = omega (arith, length-append front (take end part), length-append held (replicate dots 46), length-replicate {A = ℕ} dots 46, length-take end part);
      begins = ap (λ (n : ℕ). is_begun ((held ++ replicate dots 46 ++ take end part) ++ replicate n 46)) dots_are ∙ ap is_begun (held_of-part held part dots end word within) ∙ begun;
      past_holds_nothing = λ e. absurd (true≢false (sym e ∙ not_past));
      closed_holds_nothing = λ e. absurd (true≢false (sym begins ∙ e));
    }

pub held_of-dots : (held part : List ℕ) (dots end : ℕ) → take end part ≡ word_of part → end ≡ 0 → held ++ replicate (dots + length part) 46 ≡ (held ++ replicate dots 46) ++ part
held_of-dots held part dots end word none =
    let no_word : word_of part ≡ [] = sym word ∙ ap (λ n. take n part) none in
    let whole_length : length part - 0 ≡ length part = omega arith in
    let part_is : part ≡ replicate (length part) 46 = word_and_dots part ∙ ap (λ (t : List ℕ). t ++ replicate (length part - length t) 46) no_word ∙ ap (λ n. replicate n 46) whole_length in
    ap (λ (t : List ℕ). held ++ t) (sym (replicate-append-replicate dots (length part) 46)) ∙ sym (append_assoc held (replicate dots 46) (replicate (length part) 46)) ∙ ap (λ (t : List ℕ). (held ++ replicate dots 46) ++ t) (sym part_is)

pub IsHeld-dots : (letters : Letters) (held : List ℕ) (dots dots' : ℕ) (part : List ℕ) (end : ℕ) (past : Bool) (place : Place) → IsHeld letters held dots past place → take end part ≡ word_of part → end ≡ 0 → past ≡ false → may_begin letters place ≡ true → dots' ≡ dots + length part → is_begun ((held ++ replicate dots 46) ++ part) ≡ true → IsHeld letters held dots' past place
IsHeld-dots letters held dots dots' part end past place h word none not_past begins dots_are begun = record {
  of_run = h.of_run;
  is_word = h.is_word;
  begins = ap (λ (n : ℕ). is_begun (held ++ replicate n 46)) dots_are ∙ ap is_begun (held_of-dots held part dots end word none) ∙ begun;
  fits = h.fits;
  past_holds_nothing = λ e. absurd (true≢false (sym e ∙ not_past));
  closed_holds_nothing = λ e. absurd (true≢false (sym begins ∙ e));
}

pub long-part : (held part : List ℕ) (dots end : ℕ) → take end part ≡ word_of part → (end ≡ 0 → ⊥) → end ≤ length part → LONGEST_WORD < length held + dots + end → LONGEST_WORD < length (word_of ((held ++ replicate dots 46) ++ part))
long-part held part dots end word some within long =
    let front = held ++ replicate dots 46 in
    let size = word_length part end word within in
    omega (arith, ap length (word_of-part front part (not_dots part end word some within)), length-append front (word_of part), length-append held (replicate dots 46), length-replicate {A = ℕ} dots 46)

-- the byte after a run is the first of a text
pub Takes-first : (answers : Answering) (old new : Words) (text : List ℕ) (count dots : ℕ) → new.letters ≡ old.letters → 0 < length text → count ≡ 0 → is_byte_of old.letters (get_or text count 0) ≡ false → dots ≡ old.dots → new.tally ≡ tally_with_word (answers_at old.letters answers) old.tally (name_in old.letters old.place old.held.items) → held_of new ≡ [] → new.dots ≡ 0 → new.past ≡ false → new.place ≡ START → Takes answers old new (take 1 text) (written old.letters answers old.place old.held.items ++ (replicate dots 46 ++ take 1 text))
Takes-first answers old new text count dots letters some none other same counted nothing no_dots past holds =
    let first : take 1 text ≡ get_or text 0 0 ∷ [] = take_more text 0 0 some in
    let ends : is_byte_of old.letters (get_or text 0 0) ≡ false = ap (λ n. is_byte_of old.letters (get_or text n 0)) (sym none) ∙ other in
    subst (λ (n : ℕ). Takes answers old new (take 1 text) (written old.letters answers old.place old.held.items ++ (replicate n 46 ++ take 1 text))) (sym same)
    (subst (λ (t : List ℕ). Takes answers old new t (written old.letters answers old.place old.held.items ++ (replicate old.dots 46 ++ t))) (sym first) (Takes-ends answers old new (get_or text 0 0) letters ends counted nothing no_dots past holds))

-- a part of a run is held, or the run is passed on from that part on
pub Takes-hold : (answers : Answering) (old new : Words) (text out out' : List ℕ) (count : ℕ) (taken : Taken) (b : Bool) → new.letters ≡ old.letters → taken.stay ≡ b → count ≤ length text → list_all (is_byte_of old.letters) (take count text) ≡ true → is_begun (held_of old ++ take count text) ≡ true → old.past ≡ false → may_begin old.letters old.place ≡ true → new.place ≡ old.place → new.tally ≡ old.tally → new.dots ≤ old.dots + length (take count text) → taken.count ≡ length (take count text) → (taken.stay ≡ false → (new.past ≡ false) × (taken.dots ≡ 0) × (held_of new ≡ held_of old ++ take count text) × (out' ≡ out)) → (taken.stay ≡ true → (new.past ≡ true) × (taken.dots ≡ old.dots) × (out' ≡ out ++ old.held.items) × (LONGEST_WORD < length (word_of (held_of old ++ take count text)))) → (bytes : List ℕ) × (out' ≡ out ++ bytes) × Takes answers old new (take taken.count text) (bytes ++ following taken (take taken.count text))
Takes-hold answers old new text out out' count taken false letters stay within in_run begun past begins place counted dots count_is held passes =
    let h = held stay in
    let part = take count text in
    let whole : take taken.count text ≡ part = ap (λ n. take n text) (count_is ∙ omega (arith, length-take count text)) in
    let nothing : following taken (take taken.count text) ≡ [] = ap₂ (λ (n : ℕ) (b : Bool). replicate n 46 ++ cond b (take taken.count text) []) h.1 stay in
    ([], h.3 ∙ sym (append-nil out), subst (λ (t : List ℕ). Takes answers old new (take taken.count text) t) (sym nothing) (subst (λ (t : List ℕ). Takes answers old new t []) (sym whole) (Takes-held answers old new part letters past h.0 place h.2 counted dots)))
Takes-hold answers old new text out out' count taken true letters stay within in_run begun past begins place counted dots count_is held passes =
    let h = passes stay in
    let part = take count text in
    let whole : take taken.count text ≡ part = ap (λ n. take n text) (count_is ∙ omega (arith, length-take count text)) in
    let follows : following taken (take taken.count text) ≡ replicate old.dots 46 ++ part = ap₂ (λ (n : ℕ) (b : Bool). replicate n 46 ++ cond b (take taken.count text) []) h.1 stay ∙ ap (λ (t : List ℕ). replicate old.dots 46 ++ t) whole in
    (old.held.items, h.2, subst (λ (t : List ℕ). Takes answers old new (take taken.count text) (old.held.items ++ t)) (sym follows) (subst (λ (t : List ℕ). Takes answers old new t (old.held.items ++ (replicate old.dots 46 ++ part))) (sym whole) (Takes-passes answers old new part letters past begins h.0 in_run begun h.3 counted dots)))

-- where something is held, no run is passed on, and a word may begin at the place of what is held
pub held-open : (letters : Letters) (held : List ℕ) (dots : ℕ) (past : Bool) (place : Place) (b : Bool) → IsHeld letters held dots past place → ((held ≡ []) → (dots ≡ 0) → ⊥) → may_begin letters place ≡ b → b ≡ true
held-open letters held dots past place true h some begins = refl
held-open letters held dots past place false h some begins = let nothing = h.closed_holds_nothing begins in absurd (some nothing.0 nothing.1)

pub past-none : (letters : Letters) (held : List ℕ) (dots : ℕ) (past : Bool) (place : Place) → IsHeld letters held dots past place → ((held ≡ []) → (dots ≡ 0) → ⊥) → past ≡ false
past-none letters held dots true place h some = let nothing = h.past_holds_nothing refl in absurd (some nothing.0 nothing.1)
past-none letters held dots false place h some = refl

-- a word may begin at the place of a text that begins with a word
pub front-open : (letters : Letters) (place here : Place) (text : List ℕ) (n : ℕ) → n ≤ 0 → 0 < length text → (n < length text → may_begin letters here ≡ true) → here ≡ place_of letters place (take n text) → may_begin letters place ≡ true
front-open letters place here text n none some stops same =
    let zero : n ≡ 0 = omega arith in
    sym (ap (may_begin letters) (same ∙ ap (λ k. place_of letters place (take k text)) zero)) ∙ stops (omega arith)

-- a word at the front of a text begins with an underscore
pub front-begun : (held : List ℕ) (text : List ℕ) (n count : ℕ) → held ≡ [] → n ≤ 0 → 0 < length text → 0 < count → (n < length text → get_or text n 0 ≡ 95) → is_begun (held ++ take count text) ≡ true
front-begun held [] n count nothing none some more stops = absurd (omega arith)
front-begun held (byte ∷ text) n zero nothing none some more stops = absurd (omega arith)
front-begun held (byte ∷ text) zero (suc count) nothing none some more stops =
    ap (λ (h : List ℕ). is_begun (h ++ (byte ∷ take count text))) nothing ∙ ap (λ (b : ℕ). eqb b 95) (stops (omega arith))
front-begun held (byte ∷ text) (suc n) (suc count) nothing none some more stops = absurd (omega arith)

pub held-none : (held : List ℕ) (dots : ℕ) → held ++ replicate dots 46 ≡ [] → (held ≡ []) × (dots ≡ 0)
held-none [] zero e = (refl, refl)
held-none [] (suc dots) e = let none : suc (length (replicate {A = ℕ} dots 46)) ≡ 0 = ap length e in absurd (omega arith)
held-none (byte ∷ held) dots e = let none : suc (length (held ++ replicate dots 46)) ≡ 0 = ap length e in absurd (omega arith)

-- what is held still begins with an underscore once there is more of it
pub held-begun : (held more : List ℕ) → is_begun held ≡ true → (held ≡ [] → ⊥) → is_begun (held ++ more) ≡ true
held-begun [] more h some = absurd (some refl)
held-begun (byte ∷ held) more h some = h
