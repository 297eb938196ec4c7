-- The newlines and the words left of a text that is cut after escapes, step by step.
use Rattle.sym_filter.proofs.Basics.{◌≡◌, ℕ, Bool, true, false, List, [], ◌∷◌, ◌++◌, length, take, drop, refl, sym, ap, ap₂, ◌∙◌, append_assoc, arith, flat_map, append-nil, take_all, take-append-drop, flat_map-cons, Letters, Any, Ascii, Within, Escape, Outside, Words, IsRead, segment_from, segments_after, TakesEntries, TakesTextEntries, entries_after, entries_in_rest, Entry, entries_in_segment, entries_of, START, Answering, held_of}
use Rattle.sym_filter.proofs.CarryLemmas.{no-segment, whole-segment}
use Rattle.sym_filter.proofs.EntryLemmas.{entries-nothing}
use Rattle.sym_filter.proofs.EscapeLemmas.{segments-are}

-- the entries of a text by segments, for all letters
pub entries-are : (letters : Letters) (answers : Answering) (text : List ℕ) → entries_of letters answers text
    ≡ entries_in_segment letters answers (segment_from letters Outside text) ++ flat_map (entries_in_segment letters answers) (segments_after letters Outside text)
entries-are Any answers text =
    sym (ap₂ (λ (a : List ℕ) (b : List (List ℕ)). entries_in_segment Any answers a ++ flat_map (entries_in_segment Any answers) b) (whole-segment Any Outside text refl) (no-segment Any Outside text refl)
    ∙ append-nil (entries_in_segment Any answers text))
entries-are Ascii answers text =
    sym (ap₂ (λ (a : List ℕ) (b : List (List ℕ)). entries_in_segment Ascii answers a ++ flat_map (entries_in_segment Ascii answers) b) (whole-segment Ascii Outside text refl) (no-segment Ascii Outside text refl)
    ∙ append-nil (entries_in_segment Ascii answers text))
entries-are Within answers text =
    ap (flat_map (entries_in_segment Within answers)) (segments-are text)
    ∙ flat_map-cons (entries_in_segment Within answers) (segment_from Within Outside text) (segments_after Within Outside text)

-- the entries still to come where a text begins
pub rest-start : (letters : Letters) (answers : Answering) (words : Words) (more : List ℕ) → words.letters ≡ letters → held_of words ≡ [] → words.past ≡ false → words.place ≡ START → entries_in_rest answers words Outside more ≡ entries_of letters answers more
rest-start letters answers words more same nothing past start =
    let later = flat_map (entries_in_segment letters answers) (segments_after letters Outside more) in
    ap (λ (l : Letters). entries_after answers words (segment_from l Outside more) ++ flat_map (entries_in_segment l answers) (segments_after l Outside more)) same
    ∙ ap (λ (t : List Entry). t ++ later) (entries-nothing letters answers words (segment_from letters Outside more) same nothing past start)
    ∙ sym (entries-are letters answers more)

-- the entries still to come where a text ends
pub rest-end : (answers : Answering) (words : Words) (escape : Escape) → entries_in_rest answers words escape [] ≡ entries_after answers words []
rest-end answers words escape = append-nil (entries_after answers words [])

-- ## Pieces that are taken

pub TakesTextEntries-join : (answers : Answering) (a b c : Words) (x y z : Escape) (piece next : List ℕ) (entries more_entries : List Entry) → TakesTextEntries answers a b x y piece entries → TakesTextEntries answers b c y z next more_entries → TakesTextEntries answers a c x z (piece ++ next) (entries ++ more_entries)
TakesTextEntries-join answers a b c x y z piece next entries more_entries h i = record {
  all = λ more.
      ap (entries_in_rest answers a x) (append_assoc piece next more) ∙ h.all (next ++ more) ∙ ap (λ (t : List Entry). entries ++ t) (i.all more) ∙ sym (append_assoc entries more_entries (entries_in_rest answers c z more));
}

-- a part of a segment
pub TakesTextEntries-part : (answers : Answering) (old new : Words) (x y : Escape) (piece : List ℕ) (entries : List Entry) → TakesEntries answers old new piece entries → new.letters ≡ old.letters → IsRead false old.letters x y piece → TakesTextEntries answers old new x y piece entries
TakesTextEntries-part answers old new x y piece entries takes same read = record {
  all = λ more.
      let letters = old.letters in
      let r = read more in
      let rest = segment_from letters y more in
      let later = flat_map (entries_in_segment letters answers) (segments_after letters y more) in
      ap₂ (λ (a : List ℕ) (b : List (List ℕ)). entries_after answers old a ++ flat_map (entries_in_segment letters answers) b) r.0 r.1
      ∙ ap (λ (t : List Entry). t ++ later) (takes.all rest) ∙ append_assoc entries (entries_after answers new rest) later
      ∙ ap (λ (l : Letters). entries ++ (entries_after answers new (segment_from l y more) ++ flat_map (entries_in_segment l answers) (segments_after l y more))) (sym same);
}

-- the entries that are left of a segment at its end
pub entries-segment-end : (answers : Answering) (old mid : Words) (piece : List ℕ) (entries : List Entry) → TakesEntries answers old mid piece entries → entries_after answers old piece ≡ entries ++ entries_after answers mid []
entries-segment-end answers old mid piece entries takes = ap (entries_after answers old) (sym (append-nil piece)) ∙ takes.all []

-- the end of a segment
pub TakesTextEntries-end : (answers : Answering) (old mid new : Words) (x y : Escape) (piece : List ℕ) (entries : List Entry) → TakesEntries answers old mid piece entries → mid.letters ≡ old.letters → IsRead true old.letters x y piece → new.letters ≡ mid.letters → held_of new ≡ [] → new.past ≡ false → new.place ≡ START → TakesTextEntries answers old new x y piece (entries ++ entries_after answers mid [])
TakesTextEntries-end answers old mid new x y piece entries takes kept read same nothing past start = record {
  all = λ more.
      let letters = old.letters in
      let letters_same = same ∙ kept in
      let r = read more in
      let rest = segment_from letters y more in
      let later = flat_map (entries_in_segment letters answers) (segments_after letters y more) in
      let gone = entries ++ entries_after answers mid [] in
      ap₂ (λ (a : List ℕ) (b : List (List ℕ)). entries_after answers old a ++ flat_map (entries_in_segment letters answers) b) r.0 r.1
      ∙ ap₂ (λ (a b : List Entry). a ++ b) (entries-segment-end answers old mid piece entries takes) (flat_map-cons (entries_in_segment letters answers) rest (segments_after letters y more))
      ∙ ap (λ (t : List Entry). gone ++ (t ++ later)) (sym (entries-nothing letters answers new rest letters_same nothing past start))
      ∙ ap (λ (l : Letters). gone ++ (entries_after answers new (segment_from l y more) ++ flat_map (entries_in_segment l answers) (segments_after l y more))) (sym letters_same);
}

-- the entries of a piece that was taken in part
pub text-entries : (answers : Answering) (old words : Words) (x y : Escape) (piece : List ℕ) (entries : List Entry) (n : ℕ) → TakesTextEntries answers old words x y (take n piece) entries → entries_in_rest answers old x piece ≡ entries ++ entries_in_rest answers words y (drop n piece)
text-entries answers old words x y piece entries n h = ap (entries_in_rest answers old x) (sym (take-append-drop n piece)) ∙ h.all (drop n piece)

-- the entries of a front of a text are a beginning of the text's entries
pub entries-begin : (b : Bool) (answers : Answering) (old : Words) (x y : Escape) (text : List ℕ) (n : ℕ) → IsRead b old.letters x y (take n text) → (b ≡ false → n ≡ length text) → (rest : List Entry) × (entries_in_rest answers old x text ≡ entries_after answers old (take n text) ++ rest)
entries-begin true answers old x y text n read whole =
    let letters = old.letters in
    let r = read (drop n text) in (
      flat_map (entries_in_segment letters answers) (segment_from letters y (drop n text) ∷ segments_after letters y (drop n text)),
      ap (entries_in_rest answers old x) (sym (take-append-drop n text))
          ∙ ap₂ (λ (a : List ℕ) (b : List (List ℕ)). entries_after answers old a ++ flat_map (entries_in_segment letters answers) b) r.0 r.1,
    )
entries-begin false answers old x y text n read whole =
    let letters = old.letters in
    let r = read [] in
    let all : take n text ≡ text = take_all n text (omega (arith, whole refl)) in (
      flat_map (entries_in_segment letters answers) (segments_after letters y []),
      ap (entries_in_rest answers old x) (sym (append-nil (take n text) ∙ all))
          ∙ ap₂ (λ (a : List ℕ) (b : List (List ℕ)). entries_after answers old a ++ flat_map (entries_in_segment letters answers) b) (r.0 ∙ append-nil (take n text)) r.1,
    )

-- all entries, once one more piece of the text is taken
pub next-entries : (whole part next : List ℕ → List Entry) (text piece : List ℕ) (gone more_gone : List Entry) → ((more : List ℕ) → whole (text ++ more) ≡ gone ++ part more) → ((more : List ℕ) → part (piece ++ more) ≡ more_gone ++ next more) → (more : List ℕ) → whole ((text ++ piece) ++ more) ≡ (gone ++ more_gone) ++ next more
next-entries whole part next text piece gone more_gone so_far taken more =
    ap whole (append_assoc text piece more) ∙ so_far (piece ++ more) ∙ ap (λ (t : List Entry). gone ++ t) (taken more) ∙ sym (append_assoc gone more_gone (next more))

pub regroup : (gone word lines rest : List Entry) → (gone ++ word) ++ (lines ++ rest) ≡ (gone ++ (word ++ lines)) ++ rest
regroup gone word lines rest = sym (append_assoc (gone ++ word) lines rest) ∙ ap (λ (t : List Entry). t ++ rest) (append_assoc gone word lines)
