-- The newlines and the words left of a part of a segment, step by step.
use Rattle.sym_filter.proofs.Basics.{◌≡◌, ℕ, suc, ◌-◌, ◌<◌, ◌≤◌, Bool, true, false, cond, eqb, ◌&&◌, not, List, [], ◌∷◌, ◌++◌, length, length-append, take, drop, refl, sym, ap, ap₂, ◌∙◌, subst, append_assoc, arith, Option, None, Some, replicate, filter, get_or, list_all, is_some, unwrap_or, and_parts, and_from, cond-true, cond-false, true≢false, eqb-true, ne_eqb, not-true, append-nil, take_more, length-take, take-append-drop, flat_map-cons, list_all-append, drop-append_seam, Kind, Letters, Any, Ascii, Within, LONGEST_WORD, Place, Taken, Words, is_byte_of, is_run_byte, TakesEntries, entries_after, entries_from, Entry, newline, left_word, entries_in_segment, later_entries, left_at_end, left_of, newline_of, newlines_in, IsHeld, kind_of, START, from_word, may_begin, place_after, place_of, is_plain, Answering, answers_at, first_run, has_text, is_begun, is_named, name_in, named_in, text_for, word_in, word_of, word_or_text, held_of}
use Rattle.std.proofs.lemmas.Grind.{flat_map-append}
use Rattle.sym_filter.proofs.BeginLemmas.{begun-more, first_run-all, named-from, named-first, place-other}
use Rattle.sym_filter.proofs.RunLemmas.{first_run-append, list_all-held}
use Rattle.sym_filter.proofs.WordLemmas.{all_held, begun-named, held-names, names-nothing, runs-end, some_bytes, too_far}

-- ## Newlines

ten : (letters : Letters) → is_byte_of letters 10 ≡ false
unfolding is_run_byte
ten Any = refl
ten Ascii = refl
ten Within = refl

no-newline : (letters : Letters) (byte : ℕ) (b : Bool) → eqb byte 10 ≡ b → is_byte_of letters byte ≡ true → cond {A = List Entry} b (newline ∷ []) [] ≡ []
no-newline letters byte true e h = absurd (true≢false (sym h ∙ ap (is_byte_of letters) (eqb-true byte 10 e) ∙ ten letters))
no-newline letters byte false e h = refl

pub run-newline : (letters : Letters) (byte : ℕ) → is_byte_of letters byte ≡ true → newline_of byte ≡ []
run-newline letters byte h = no-newline letters byte (eqb byte 10) refl h

pub newlines-cons : (byte : ℕ) (bytes : List ℕ) → newlines_in (byte ∷ bytes) ≡ newline_of byte ++ newlines_in bytes
newlines-cons byte bytes = flat_map-cons newline_of byte bytes

pub newlines-append : (bytes more : List ℕ) → newlines_in (bytes ++ more) ≡ newlines_in bytes ++ newlines_in more
newlines-append bytes more = flat_map-append newline_of bytes more

-- a run has no newline
pub newlines-run : (letters : Letters) (run : List ℕ) → list_all (is_byte_of letters) run ≡ true → newlines_in run ≡ []
newlines-run letters [] h = refl
newlines-run letters (byte ∷ run) h =
    let parts = and_parts (is_byte_of letters byte) (list_all (is_byte_of letters) run) h in
    newlines-cons byte run ∙ ap₂ (λ (a b : List Entry). a ++ b) (run-newline letters byte parts.0) (newlines-run letters run parts.1)

pub newlines-byte : (byte : ℕ) → newlines_in (byte ∷ []) ≡ newline_of byte
newlines-byte byte = newlines-cons byte [] ∙ append-nil (newline_of byte)

-- ## Words

-- the words that are left, among words that name symbols
abbrev lefts : Answering → List (List ℕ) → List Entry
lefts answers [] = []
lefts answers (word ∷ words) = cond (not (has_text answers word)) (left_word word ∷ []) []

left-step : (answers : Answering) (word : List ℕ) (b : Bool) → is_named word ≡ b → cond (b && not (has_text answers word)) (left_word word ∷ []) [] ≡ lefts answers (cond b (word ∷ []) [])
left-step answers word true e = refl
left-step answers word false e = refl

left-is : (answers : Answering) (word : List ℕ) → left_of answers word ≡ lefts answers (filter is_named (word ∷ []))
unfolding left_of
left-is answers word = left-step answers word (is_named word) refl

pub left-same : (answers : Answering) (word other : List ℕ) → filter is_named (word ∷ []) ≡ filter is_named (other ∷ []) → left_of answers word ≡ left_of answers other
left-same answers word other e = left-is answers word ∙ ap (lefts answers) e ∙ sym (left-is answers other)

pub left-none : (answers : Answering) (word : List ℕ) → kind_of (word_of word) ≡ None → left_of answers word ≡ []
left-none answers word h = left-is answers word ∙ ap (lefts answers) (named-first word [] h)

pub left-empty : (answers : Answering) → left_of answers [] ≡ []
left-empty answers = left-none answers [] refl

-- ## Entries that are still to come

-- the entries after a run don't depend on the run's first bytes
pub later-append : (letters : Letters) (answers : Answering) (run more : List ℕ) → list_all (is_byte_of letters) run ≡ true → later_entries letters answers (run ++ more) ≡ later_entries letters answers more
later-append letters answers [] more h = refl
later-append letters answers (byte ∷ run) more h =
    let parts = and_parts (is_byte_of letters byte) (list_all (is_byte_of letters) run) h in
    cond-true (is_byte_of letters byte) _ _ parts.0 ∙ later-append letters answers run more parts.1

-- a run that is too long is passed on to its end
pub entries-front : (letters : Letters) (answers : Answering) (place : Place) (front more : List ℕ) → list_all (is_byte_of letters) front ≡ true → may_begin letters place ≡ true → ((rest : List ℕ) → is_begun (front ++ rest) ≡ true) → LONGEST_WORD < length (word_of front)
    → entries_from letters answers front false place more ≡ later_entries letters answers more
entries-front letters answers place front more h begins begun long =
    let texts = answers_at letters answers in
    let run = front ++ first_run letters more in
    let none : from_word letters (named_in letters) place run ≡ [] = begun-named letters place run begins (begun (first_run letters more)) ∙ cond-false _ _ _ (too_far front (first_run letters more) long) in
    ap₂ (λ (a : List ℕ) (b : List Entry). left_of texts (from_word letters (named_in letters) place a) ++ b) (first_run-append letters front more h) (later-append letters answers front more h)
    ∙ ap (λ (t : List ℕ). left_of texts t ++ later_entries letters answers more) none
    ∙ ap (λ (t : List Entry). t ++ later_entries letters answers more) (left-empty texts)

-- a byte that belongs to no run ends the run before it
pub entries-ends : (letters : Letters) (answers : Answering) (run : List ℕ) (past : Bool) (place : Place) (byte : ℕ) (more : List ℕ) → list_all (is_byte_of letters) run ≡ true → is_byte_of letters byte ≡ false
    → entries_from letters answers run past place (byte ∷ more) ≡ entries_from letters answers run past place [] ++ (newline_of byte ++ entries_in_segment letters answers more)
entries-ends letters answers run true place byte more h other = cond-false (is_byte_of letters byte) _ _ other
entries-ends letters answers run false place byte more h other =
    let texts = answers_at letters answers in
    let find = from_word letters (named_in letters) place in
    let rest = newline_of byte ++ entries_in_segment letters answers more in
    let word = left_of texts (find (first_run letters (run ++ []))) in
    let none : later_entries letters answers (run ++ []) ≡ [] = later-append letters answers run [] h in
    ap₂ (λ (a : List ℕ) (b : List Entry). left_of texts (find a) ++ b) (runs-end letters run byte more h other) (later-append letters answers run (byte ∷ more) h ∙ cond-false (is_byte_of letters byte) _ _ other)
    ∙ ap (λ (t : List Entry). t ++ rest) (sym (ap (λ (t : List Entry). word ++ t) none ∙ append-nil word))

-- the entries in the rest of a text, where a run begins
pub entries-start : (letters : Letters) (answers : Answering) (more : List ℕ) → entries_from letters answers [] false START more ≡ entries_in_segment letters answers more
entries-start letters answers more =
    ap (λ (t : List Entry). t ++ later_entries letters answers more)
    (sym (left-same (answers_at letters answers) (word_in letters (first_run letters more)) (from_word letters (named_in letters) START (first_run letters more)) (named-from letters (first_run letters more) [] (first_run-all letters more))))

-- one byte of a plain front
entries-byte : (letters : Letters) (answers : Answering) (place : Place) (byte : ℕ) (more : List ℕ) (b : Bool) → is_byte_of letters byte ≡ b → not (may_begin letters place && eqb byte 95) ≡ true
    → entries_from letters answers [] false place (byte ∷ more) ≡ newline_of byte ++ entries_from letters answers [] false (place_after letters place byte) more
entries-byte letters answers place byte more true h next =
    let texts = answers_at letters answers in
    let find = named_in letters in
    ap₂ (λ (a : List ℕ) (b : List Entry). left_of texts (from_word letters find place a) ++ b) (cond-true (is_byte_of letters byte) _ _ h) (cond-true (is_byte_of letters byte) _ _ h)
    ∙ ap (λ (t : List ℕ). left_of texts t ++ later_entries letters answers more) (cond-false (may_begin letters place && eqb byte 95) (find place (byte ∷ first_run letters more)) _ (not-true (may_begin letters place && eqb byte 95) next))
    ∙ ap (λ (t : List Entry). t ++ entries_from letters answers [] false (place_after letters place byte) more) (sym (run-newline letters byte h))
entries-byte letters answers place byte more false h next =
    let texts = answers_at letters answers in
    let rest = newline_of byte ++ entries_in_segment letters answers more in
    ap₂ (λ (a : List ℕ) (b : List Entry). left_of texts (from_word letters (named_in letters) place a) ++ b) (cond-false (is_byte_of letters byte) _ _ h) (cond-false (is_byte_of letters byte) _ _ h)
    ∙ ap (λ (t : List Entry). t ++ rest) (left-empty texts)
    ∙ ap (λ (t : List Entry). newline_of byte ++ t) (sym (entries-start letters answers more) ∙ ap (λ (p : Place). entries_from letters answers [] false p more) (sym (place-other letters place byte h)))

-- a plain front
pub entries-plain : (letters : Letters) (answers : Answering) (place : Place) (front more : List ℕ) → is_plain letters place front ≡ true
    → entries_from letters answers [] false place (front ++ more) ≡ newlines_in front ++ entries_from letters answers [] false (place_of letters place front) more
entries-plain letters answers place [] more h = refl
entries-plain letters answers place (byte ∷ front) more h =
    let parts = and_parts (not (may_begin letters place && eqb byte 95)) (is_plain letters (place_after letters place byte) front) h in
    let rest = entries_from letters answers [] false (place_of letters (place_after letters place byte) front) more in
    entries-byte letters answers place byte (front ++ more) (is_byte_of letters byte) refl parts.0
    ∙ ap (λ (t : List Entry). newline_of byte ++ t) (entries-plain letters answers (place_after letters place byte) front more parts.1)
    ∙ sym (append_assoc (newline_of byte) (newlines_in front) rest)
    ∙ ap (λ (t : List Entry). t ++ rest) (sym (newlines-cons byte front))

-- ## What is left of a run at its end

run-end : (letters : Letters) (answers : Answering) (place : Place) (run : List ℕ) → list_all (is_byte_of letters) run ≡ true → entries_from letters answers run false place [] ≡ left_of (answers_at letters answers) (from_word letters (named_in letters) place run)
run-end letters answers place run h =
    let word = left_of (answers_at letters answers) (from_word letters (named_in letters) place run) in
    ap₂ (λ (a : List ℕ) (b : List Entry). left_of (answers_at letters answers) (from_word letters (named_in letters) place a) ++ b) (first_run-append letters run [] h ∙ append-nil run) (later-append letters answers run [] h)
    ∙ append-nil word

pub entries-end : (letters : Letters) (answers : Answering) (held : List ℕ) (dots : ℕ) (past : Bool) (place : Place) → IsHeld letters held dots past place → entries_from letters answers (held ++ replicate dots 46) past place [] ≡ left_of (answers_at letters answers) (name_in letters place held)
entries-end letters answers held dots true place h =
    let texts = answers_at letters answers in
    sym (left-is texts (name_in letters place held) ∙ ap (lefts texts) (sym (names-nothing letters held dots place (h.past_holds_nothing refl))))
entries-end letters answers held dots false place h =
    run-end letters answers place (held ++ replicate dots 46) (list_all-held letters held dots h.of_run)
    ∙ left-same (answers_at letters answers) (from_word letters (named_in letters) place (held ++ replicate dots 46)) (name_in letters place held) (held-names letters held dots place (may_begin letters place) h refl)

-- ## What is taken

pub entries-same : (letters : Letters) (answers : Answering) (words : Words) (more : List ℕ) → words.letters ≡ letters → entries_from letters answers (held_of words) words.past words.place more ≡ entries_after answers words more
entries-same letters answers words more same = ap (λ (l : Letters). entries_from l answers (held_of words) words.past words.place more) (sym same)

-- for a filter that holds nothing, the entries still to come are those of the bytes that follow
pub entries-nothing : (letters : Letters) (answers : Answering) (words : Words) (more : List ℕ) → words.letters ≡ letters → held_of words ≡ [] → words.past ≡ false → words.place ≡ START → entries_after answers words more ≡ entries_in_segment letters answers more
entries-nothing letters answers words more same nothing past start =
    ap (λ (l : Letters). entries_from l answers (held_of words) words.past words.place more) same ∙ ap (λ (h : List ℕ). entries_from letters answers h words.past words.place more) nothing
    ∙ ap₂ (λ (p : Bool) (b : Place). entries_from letters answers [] p b more) past start ∙ entries-start letters answers more

-- a plain front is taken
pub TakesEntries-plain : (answers : Answering) (old new : Words) (front : List ℕ) → new.letters ≡ old.letters → held_of old ≡ [] → held_of new ≡ [] → old.past ≡ false → new.past ≡ false → new.place ≡ place_of old.letters old.place front → is_plain old.letters old.place front ≡ true → TakesEntries answers old new front (newlines_in front)
TakesEntries-plain answers old new front same nothing nothing' past past' place plain = record {
  all = λ more.
      let letters = old.letters in
      ap₂ (λ (h : List ℕ) (p : Bool). entries_from letters answers h p old.place (front ++ more)) nothing past ∙ entries-plain letters answers old.place front more plain
      ∙ ap (λ (t : List Entry). newlines_in front ++ t) (ap₂ (λ (h : List ℕ) (b : Place). entries_from letters answers h false b more) (sym nothing') (sym place) ∙ ap (λ (p : Bool). entries_from letters answers (held_of new) p new.place more) (sym past') ∙ entries-same letters answers new more same);
}

-- a part of a run is held
pub TakesEntries-held : (answers : Answering) (old new : Words) (part : List ℕ) → new.letters ≡ old.letters → old.past ≡ false → new.past ≡ false → new.place ≡ old.place → held_of new ≡ held_of old ++ part → TakesEntries answers old new part []
TakesEntries-held answers old new part same past past' place held = record {
  all = λ more.
      let letters = old.letters in
      let more_is : held_of old ++ (part ++ more) ≡ held_of new ++ more = sym (append_assoc (held_of old) part more) ∙ ap (λ (t : List ℕ). t ++ more) (sym held) in
      let rest : List ℕ → List Entry = λ text. left_of (answers_at letters answers) (from_word letters (named_in letters) old.place (first_run letters text)) ++ later_entries letters answers text in
      ap (λ (p : Bool). entries_from letters answers (held_of old) p old.place (part ++ more)) past ∙ ap rest more_is
      ∙ ap₂ (λ (p : Bool) (b : Place). entries_from letters answers (held_of new) p b more) (sym past') (sym place)
      ∙ entries-same letters answers new more same;
}

-- a run is passed on from one of its parts on
pub TakesEntries-passes : (answers : Answering) (old new : Words) (part : List ℕ) → new.letters ≡ old.letters → old.past ≡ false → may_begin old.letters old.place ≡ true → new.past ≡ true → list_all (is_byte_of old.letters) part ≡ true → is_begun (held_of old ++ part) ≡ true → LONGEST_WORD < length (word_of (held_of old ++ part)) → TakesEntries answers old new part []
TakesEntries-passes answers old new part same past may past' in_run begun long = record {
  all = λ more.
      let letters = old.letters in
      let front = held_of old ++ part in
      let all_front : list_all (is_byte_of letters) front ≡ true = list_all-append (is_byte_of letters) (held_of old) part ∙ and_from _ _ (all_held old) in_run in
      let begins : (rest : List ℕ) → is_begun (front ++ rest) ≡ true = λ rest. begun-more front rest begun (some_bytes front long) in
      let rest : List ℕ → List Entry = λ text. left_of (answers_at letters answers) (from_word letters (named_in letters) old.place (first_run letters text)) ++ later_entries letters answers text in
      ap (λ (p : Bool). entries_from letters answers (held_of old) p old.place (part ++ more)) past
      ∙ ap rest (sym (append_assoc (held_of old) part more))
      ∙ entries-front letters answers old.place front more all_front may begins long
      ∙ ap (λ (p : Bool). entries_from letters answers (held_of new) p new.place more) (sym past')
      ∙ entries-same letters answers new more same;
}

-- a run that is passed on to its end continues
pub TakesEntries-past : (answers : Answering) (old new : Words) (part : List ℕ) → new.letters ≡ old.letters → old.past ≡ true → new.past ≡ true → list_all (is_byte_of old.letters) part ≡ true → TakesEntries answers old new part (newlines_in part)
TakesEntries-past answers old new part same past past' in_run = record {
  all = λ more.
      let letters = old.letters in
      ap (λ (p : Bool). entries_from letters answers (held_of old) p old.place (part ++ more)) past
      ∙ later-append letters answers part more in_run
      ∙ ap (λ (p : Bool). entries_from letters answers (held_of new) p new.place more) (sym past')
      ∙ entries-same letters answers new more same
      ∙ ap (λ (t : List Entry). t ++ entries_after answers new more) (sym (newlines-run letters part in_run));
}

-- a run that is passed on ends at a byte that belongs to no run
TakesEntries-past_end : (answers : Answering) (old new : Words) (byte : ℕ) → new.letters ≡ old.letters → old.past ≡ true → new.past ≡ false → new.place ≡ START → held_of new ≡ [] → is_byte_of old.letters byte ≡ false → TakesEntries answers old new (byte ∷ []) (newlines_in (byte ∷ []))
TakesEntries-past_end answers old new byte same past past' start nothing other = record {
  all = λ more.
      let letters = old.letters in
      ap (λ (p : Bool). entries_from letters answers (held_of old) p old.place (byte ∷ more)) past
      ∙ cond-false (is_byte_of letters byte) _ _ other
      ∙ ap₂ (λ (a b : List Entry). a ++ b) (sym (newlines-byte byte)) (sym (entries-nothing letters answers new more same nothing past' start));
}

-- a run that is passed on ends at the first byte of a text
pub past-ends-entries : (answers : Answering) (old new : Words) (text : List ℕ) (count : ℕ) → new.letters ≡ old.letters → old.past ≡ true → new.past ≡ false → new.place ≡ START → held_of new ≡ [] → 0 < length text → count ≡ 0 → is_byte_of old.letters (get_or text count 0) ≡ false → TakesEntries answers old new (take 1 text) (newlines_in (take 1 text))
past-ends-entries answers old new text count same past past' start nothing some none other =
    let first : take 1 text ≡ get_or text 0 0 ∷ [] = take_more text 0 0 some in
    let ends : is_byte_of old.letters (get_or text 0 0) ≡ false = ap (λ n. is_byte_of old.letters (get_or text n 0)) (sym none) ∙ other in
    subst (λ (t : List ℕ). TakesEntries answers old new t (newlines_in t)) (sym first) (TakesEntries-past_end answers old new (get_or text 0 0) same past past' start nothing ends)

-- a byte after a run is taken
TakesEntries-ends : (answers : Answering) (old new : Words) (byte : ℕ) → new.letters ≡ old.letters → is_byte_of old.letters byte ≡ false → held_of new ≡ [] → new.past ≡ false → new.place ≡ START → TakesEntries answers old new (byte ∷ []) (left_of (answers_at old.letters answers) (name_in old.letters old.place old.held.items) ++ newlines_in (byte ∷ []))
TakesEntries-ends answers old new byte same other nothing past start = record {
  all = λ more.
      let letters = old.letters in
      let word = left_of (answers_at letters answers) (name_in letters old.place old.held.items) in
      entries-ends letters answers (held_of old) old.past old.place byte more (all_held old) other
      ∙ ap₂ (λ (a b : List Entry). a ++ b) (entries-end letters answers old.held.items old.dots old.past old.place old.is_held)
      (ap₂ (λ (a b : List Entry). a ++ b) (sym (newlines-byte byte)) (sym (entries-nothing letters answers new more same nothing past start)))
      ∙ sym (append_assoc word (newlines_in (byte ∷ [])) (entries_after answers new more));
}

-- the byte after a run is the first of a text
pub TakesEntries-first : (answers : Answering) (old new : Words) (text : List ℕ) (count : ℕ) (entries : List Entry) → new.letters ≡ old.letters → 0 < length text → count ≡ 0 → is_byte_of old.letters (get_or text count 0) ≡ false → held_of new ≡ [] → new.past ≡ false → new.place ≡ START
    → entries ≡ left_of (answers_at old.letters answers) (name_in old.letters old.place old.held.items) → TakesEntries answers old new (take 1 text) (entries ++ newlines_in (take 1 text))
TakesEntries-first answers old new text count entries letters some none other nothing past holds left =
    let first : take 1 text ≡ get_or text 0 0 ∷ [] = take_more text 0 0 some in
    let ends : is_byte_of old.letters (get_or text 0 0) ≡ false = ap (λ n. is_byte_of old.letters (get_or text n 0)) (sym none) ∙ other in
    subst (λ (e : List Entry). TakesEntries answers old new (take 1 text) (e ++ newlines_in (take 1 text))) (sym left)
    (subst (λ (t : List ℕ). TakesEntries answers old new t (left_of (answers_at old.letters answers) (name_in old.letters old.place old.held.items) ++ newlines_in t)) (sym first) (TakesEntries-ends answers old new (get_or text 0 0) letters ends nothing past holds))

-- two parts are taken, one after the other
pub TakesEntries-join : (answers : Answering) (a b c : Words) (piece next : List ℕ) (entries more_entries : List Entry) → TakesEntries answers a b piece entries → TakesEntries answers b c next more_entries → TakesEntries answers a c (piece ++ next) (entries ++ more_entries)
TakesEntries-join answers a b c piece next entries more_entries h i = record {
  all = λ more.
      ap (entries_after answers a) (append_assoc piece next more) ∙ h.all (next ++ more) ∙ ap (λ (t : List Entry). entries ++ t) (i.all more) ∙ sym (append_assoc entries more_entries (entries_after answers c more));
}

-- a part of a run is held, or the run is passed on from that part on
pub TakesEntries-hold : (answers : Answering) (old new : Words) (text out : List ℕ) (count : ℕ) (taken : Taken) (b : Bool) → new.letters ≡ old.letters → taken.stay ≡ b → count ≤ length text → list_all (is_byte_of old.letters) (take count text) ≡ true → is_begun (held_of old ++ take count text) ≡ true → old.past ≡ false → may_begin old.letters old.place ≡ true → new.place ≡ old.place → taken.count ≡ length (take count text) → taken.left ≡ 0 → (taken.stay ≡ false → (new.past ≡ false) × (held_of new ≡ held_of old ++ take count text)) → (taken.stay ≡ true → (new.past ≡ true) × (LONGEST_WORD < length (word_of (held_of old ++ take count text))))
    → (taken.left ≤ length out) × TakesEntries answers old new (take taken.count text) (left_at_end taken.left out ++ newlines_in (take taken.count text))
TakesEntries-hold answers old new text out count taken b letters stay within in_run begun past begins place count_is none held passes =
    let part = take count text in
    let whole : take taken.count text ≡ part = ap (λ n. take n text) (count_is ∙ omega (arith, length-take count text)) in
    let entries : left_at_end taken.left out ++ newlines_in part ≡ [] = ap₂ (λ (n : ℕ) (e : List Entry). left_at_end n out ++ e) none (newlines-run old.letters part in_run) in (
      omega (arith, none),
      subst (λ (t : List ℕ). TakesEntries answers old new t (left_at_end taken.left out ++ newlines_in t)) (sym whole)
          (subst (λ (e : List Entry). TakesEntries answers old new part e) (sym entries) (step b stay)),
    )
  where
    step : (b : Bool) → taken.stay ≡ b → TakesEntries answers old new (take count text) []
    step false is = let h = held is in TakesEntries-held answers old new (take count text) letters past h.0 place h.1
    step true is = let h = passes is in TakesEntries-passes answers old new (take count text) letters past begins h.0 in_run begun h.1

-- ## The word that is at the end of what was appended

pub left-absent : (answers : Answering) (word out : List ℕ) (count : ℕ) → count ≡ 0 → kind_of (word_of word) ≡ None → (count ≤ length out) × (left_at_end count out ≡ left_of answers word)
left-absent answers word out count none unnamed = (omega (arith, none), ap (λ (n : ℕ). left_at_end n out) none ∙ sym (left-none answers word unnamed))

some-word : (word : List ℕ) (kind : Kind) → kind_of word ≡ Some kind → eqb (length word) 0 ≡ false
some-word [] kind h = cc
some-word (byte ∷ word) kind h = ne_eqb (length (byte ∷ word)) 0 (λ (e : length (byte ∷ word) ≡ 0). none e)
  where
    none : suc (length word) ≡ 0 → ⊥
    none e = absurd (omega arith)

left-named : (answers : Answering) (word : List ℕ) (b : Bool) → is_named word ≡ true → has_text answers word ≡ b → left_of answers word ≡ cond (not b) (left_word word ∷ []) []
unfolding left_of
left-named answers word b named has = ap₂ (λ (n h : Bool). cond (n && not h) (left_word word ∷ []) []) named has

is-named : (word : List ℕ) (kind : Kind) → word_of word ≡ word → kind_of word ≡ Some kind → is_named word ≡ true
unfolding is_named
is-named word kind h some = ap (λ (w : List ℕ). is_some (kind_of w)) h ∙ ap is_some some

stays : (answers : Answering) (word : List ℕ) (text : Option (List ℕ)) → text_for answers word ≡ text → false ≡ is_some text → word_or_text answers word ≡ word
stays answers word None e h = ap (λ (t : Option (List ℕ)). unwrap_or t word) e
stays answers word (Some text) e h = cc

pub left-present : (answers : Answering) (word front out : List ℕ) (kind : Kind) (count : ℕ) (b : Bool) → word_of word ≡ word → kind_of word ≡ Some kind → b ≡ is_some (text_for answers word) → out ≡ front ++ word_or_text answers word → count ≡ cond b 0 (length word) → (count ≤ length out) × (left_at_end count out ≡ left_of answers word)
left-present answers word front out kind count true h some has is none =
    let same : has_text answers word ≡ true = ap (λ (w : List ℕ). is_some (text_for answers w)) h ∙ sym has in
    (omega (arith, none), ap (λ (n : ℕ). left_at_end n out) none ∙ sym (left-named answers word true (is-named word kind h some) same))
left-present answers word front out kind count false h some has is all =
    let same : has_text answers word ≡ false = ap (λ (w : List ℕ). is_some (text_for answers w)) h ∙ sym has in
    let whole : out ≡ front ++ word = is ∙ ap (λ (t : List ℕ). front ++ t) (stays answers word (text_for answers word) refl has) in
    let before : length out - count ≡ length front = omega (arith, ap length whole, length-append front word, all) in (
      omega (arith, ap length whole, length-append front word, all),
      cond-false (eqb count 0) _ _ (ap (λ (n : ℕ). eqb n 0) all ∙ some-word word kind some)
          ∙ ap₂ (λ (n : ℕ) (t : List ℕ). left_word (drop n t) ∷ []) before whole
          ∙ ap (λ (t : List ℕ). left_word t ∷ []) (drop-append_seam front word)
          ∙ sym (left-named answers word false (is-named word kind h some) same),
    )

-- the entries of a piece that was taken in part
pub entries-rest : (answers : Answering) (old words : Words) (piece : List ℕ) (entries : List Entry) (n : ℕ) → TakesEntries answers old words (take n piece) entries → entries_after answers old piece ≡ entries ++ entries_after answers words (drop n piece)
entries-rest answers old words piece entries n h = ap (entries_after answers old) (sym (take-append-drop n piece)) ∙ h.all (drop n piece)

-- no word is left
pub none-left : (answers : Answering) (old new : Words) (piece out : List ℕ) (count : ℕ) → count ≡ 0 → TakesEntries answers old new piece (newlines_in piece) → (count ≤ length out) × TakesEntries answers old new piece (left_at_end count out ++ newlines_in piece)
none-left answers old new piece out count none h =
    (omega (arith, none), subst (λ (n : ℕ). TakesEntries answers old new piece (left_at_end n out ++ newlines_in piece)) (sym none) h)
