-- The steps of a filter over a text that is cut after escapes.
use Rattle.sym_filter.proofs.Basics.{◌≡◌, ℕ, ◌+◌, ◌-◌, ◌<◌, Bool, true, false, eqb, not, ◌&&◌, ◌||◌, List, [], ◌∷◌, ◌++◌, length, length-append, take, drop, get_or, refl, sym, ap, ap₂, ◌∙◌, subst, append_assoc, arith, flat_map, list_all, and_parts, cond-true, cond-false, append-nil, take_all, take_more, take-append-drop, flat_map-cons, Letters, Any, Ascii, Within, Escape, Outside, Backslash, Esc, Tally, Words, IsRead, TakesText, cuts_after, ends_with, escape_after, rest_of_text, segment_from, segments_after, tally_of_text, is_no_lead, START, begins_within, Answering, answers_at, filtered_at, filtered_segment, named_in_segment, named_words, tally_at, tally_with, Takes, held_of, named_of, rest_after, tally_after}
use Rattle.sym_filter.proofs.EscapeLemmas.{segments-are}
use Rattle.sym_filter.proofs.StreamLemmas.{take-part}
use Rattle.sym_filter.proofs.TallyLemmas.{tally_with-append}
use Rattle.sym_filter.proofs.WordLemmas.{named_of-nothing, rest_after-nothing}

-- ## Bytes that are read

pub IsRead-none : (letters : Letters) (escape : Escape) → IsRead false letters escape escape []
IsRead-none letters escape = λ more. (refl, refl)

-- bytes are read in the same way for equal letters, and for equal answers to whether they end a segment
pub IsRead-as : (b c : Bool) (l m : Letters) (x y : Escape) (bytes : List ℕ) → b ≡ c → l ≡ m → IsRead b l x y bytes → IsRead c m x y bytes
IsRead-as b c l m x y bytes e f h = subst (λ (a : Bool). IsRead a m x y bytes) e (subst (λ (k : Letters). IsRead b k x y bytes) f h)

pub IsRead-join : (b : Bool) (letters : Letters) (x y z : Escape) (bytes next : List ℕ) → IsRead false letters x y bytes → IsRead b letters y z next → IsRead b letters x z (bytes ++ next)
IsRead-join false letters x y z bytes next h i = λ more.
    let first = h (next ++ more) in
    let then_ = i more in (
      ap (segment_from letters x) (append_assoc bytes next more) ∙ first.0 ∙ ap (λ (t : List ℕ). bytes ++ t) then_.0 ∙ sym (append_assoc bytes next (segment_from letters z more)),
      ap (segments_after letters x) (append_assoc bytes next more) ∙ first.1 ∙ then_.1,
    )
IsRead-join true letters x y z bytes next h i = λ more.
    let first = h (next ++ more) in
    let then_ = i more in (
      ap (segment_from letters x) (append_assoc bytes next more) ∙ first.0 ∙ ap (λ (t : List ℕ). bytes ++ t) then_.0,
      ap (segments_after letters x) (append_assoc bytes next more) ∙ first.1 ∙ then_.1,
    )

pub IsRead-byte : (b : Bool) (letters : Letters) (escape : Escape) (byte : ℕ) → cuts_after letters escape byte ≡ b → IsRead b letters escape (escape_after escape byte) (byte ∷ [])
IsRead-byte true letters escape byte h = λ more. (ap (λ (t : List ℕ). byte ∷ t) (cond-true (cuts_after letters escape byte) [] _ h), cond-true (cuts_after letters escape byte) _ _ h)
IsRead-byte false letters escape byte h = λ more. (ap (λ (t : List ℕ). byte ∷ t) (cond-false (cuts_after letters escape byte) [] _ h), cond-false (cuts_after letters escape byte) _ _ h)

-- a front of a text was read, and one more byte is read
pub IsRead-next : (b : Bool) (letters : Letters) (x y : Escape) (text : List ℕ) (i : ℕ) → i < length text → begins_within letters ≡ true → IsRead false letters x y (take i text) → ends_with y (get_or text i 0) ≡ b → IsRead b letters x (escape_after y (get_or text i 0)) (take (i + 1) text)
IsRead-next b letters x y text i h begins read ends =
    let byte = get_or text i 0 in
    let cuts : cuts_after letters y byte ≡ b = ap (λ (t : Bool). t && ends_with y byte) begins ∙ ends in
    subst (λ (t : List ℕ). IsRead b letters x (escape_after y byte) t) (sym (take_more text i 0 h)) (IsRead-join b letters x y (escape_after y byte) (take i text) (byte ∷ []) read (IsRead-byte b letters y byte cuts))

pub IsRead-longer : (letters : Letters) (x y : Escape) (text : List ℕ) (i n : ℕ) → IsRead false letters x y (take i text) → IsRead false letters y y (take n (take (length text - i) (drop i text))) → IsRead false letters x y (take (i + n) text)
IsRead-longer letters x y text i n read passed =
    subst (λ (t : List ℕ). IsRead false letters x y t) (sym (take-part text i n)) (IsRead-join false letters x y y (take i text) (take n (take (length text - i) (drop i text))) read passed)

-- where words are runs, no text is cut
uncut : (letters : Letters) (escape : Escape) (byte : ℕ) → begins_within letters ≡ false → cuts_after letters escape byte ≡ false
uncut letters escape byte runs = ap (λ (b : Bool). b && ends_with escape byte) runs

pub whole-segment : (letters : Letters) (escape : Escape) (text : List ℕ) → begins_within letters ≡ false → segment_from letters escape text ≡ text
whole-segment letters escape [] runs = refl
whole-segment letters escape (byte ∷ text) runs =
    ap (λ (t : List ℕ). byte ∷ t) (cond-false (cuts_after letters escape byte) [] _ (uncut letters escape byte runs) ∙ whole-segment letters (escape_after escape byte) text runs)

pub no-segment : (letters : Letters) (escape : Escape) (text : List ℕ) → begins_within letters ≡ false → segments_after letters escape text ≡ []
no-segment letters escape [] runs = refl
no-segment letters escape (byte ∷ text) runs = cond-false (cuts_after letters escape byte) _ _ (uncut letters escape byte runs) ∙ no-segment letters (escape_after escape byte) text runs

pub IsRead-whole : (letters : Letters) (escape : Escape) (text : List ℕ) → begins_within letters ≡ false → IsRead false letters escape escape text
IsRead-whole letters escape text runs = λ more. (
  whole-segment letters escape (text ++ more) runs ∙ ap (λ (t : List ℕ). text ++ t) (sym (whole-segment letters escape more runs)),
  no-segment letters escape (text ++ more) runs ∙ sym (no-segment letters escape more runs),
)

-- outside of escapes, a byte with which no escape begins opens no escape
outside-after : (byte : ℕ) (a b : Bool) → eqb byte 92 ≡ a → eqb byte 27 ≡ b → not (a || b) ≡ true → escape_after Outside byte ≡ Outside
outside-after byte true b e f h = cc
outside-after byte false true e f h = cc
outside-after byte false false e f h = cond-false (eqb byte 92) Backslash _ e ∙ cond-false (eqb byte 27) Esc _ f

none-cuts : (b : Bool) → (b && false) ≡ false
none-cuts true = refl
none-cuts false = refl

pub IsRead-passed : (letters : Letters) (bytes : List ℕ) → list_all is_no_lead bytes ≡ true → IsRead false letters Outside Outside bytes
IsRead-passed letters [] h = IsRead-none letters Outside
IsRead-passed letters (byte ∷ bytes) h =
    let parts = and_parts (is_no_lead byte) (list_all is_no_lead bytes) h in
    let same = outside-after byte (eqb byte 92) (eqb byte 27) refl refl parts.0 in
    IsRead-join false letters Outside Outside Outside (byte ∷ []) bytes
    (subst (λ (e : Escape). IsRead false letters Outside e (byte ∷ [])) same (IsRead-byte false letters Outside byte (none-cuts (begins_within letters))))
    (IsRead-passed letters bytes parts.1)

-- ## A text

-- the filtered text by segments, for all letters
pub filtered-is : (letters : Letters) (answers : Answering) (text : List ℕ) → filtered_at letters answers text
    ≡ filtered_segment letters answers (segment_from letters Outside text) ++ flat_map (filtered_segment letters answers) (segments_after letters Outside text)
filtered-is Any answers text =
    sym (ap₂ (λ (a : List ℕ) (b : List (List ℕ)). filtered_segment Any answers a ++ flat_map (filtered_segment Any answers) b) (whole-segment Any Outside text refl) (no-segment Any Outside text refl)
    ∙ append-nil (filtered_segment Any answers text))
filtered-is Ascii answers text =
    sym (ap₂ (λ (a : List ℕ) (b : List (List ℕ)). filtered_segment Ascii answers a ++ flat_map (filtered_segment Ascii answers) b) (whole-segment Ascii Outside text refl) (no-segment Ascii Outside text refl)
    ∙ append-nil (filtered_segment Ascii answers text))
filtered-is Within answers text =
    ap (flat_map (filtered_segment Within answers)) (segments-are text)
    ∙ flat_map-cons (filtered_segment Within answers) (segment_from Within Outside text) (segments_after Within Outside text)

named-are : (letters : Letters) (text : List ℕ) → named_words letters text ≡ named_in_segment letters (segment_from letters Outside text) ++ flat_map (named_in_segment letters) (segments_after letters Outside text)
named-are Any text =
    sym (ap₂ (λ (a : List ℕ) (b : List (List ℕ)). named_in_segment Any a ++ flat_map (named_in_segment Any) b) (whole-segment Any Outside text refl) (no-segment Any Outside text refl)
    ∙ append-nil (named_in_segment Any text))
named-are Ascii text =
    sym (ap₂ (λ (a : List ℕ) (b : List (List ℕ)). named_in_segment Ascii a ++ flat_map (named_in_segment Ascii) b) (whole-segment Ascii Outside text refl) (no-segment Ascii Outside text refl)
    ∙ append-nil (named_in_segment Ascii text))
named-are Within text =
    ap (flat_map (named_in_segment Within)) (segments-are text)
    ∙ flat_map-cons (named_in_segment Within) (segment_from Within Outside text) (segments_after Within Outside text)

-- what is to be written where a text begins
pub rest_of_text-start : (letters : Letters) (answers : Answering) (words : Words) (more : List ℕ) → words.letters ≡ letters → held_of words ≡ [] → words.past ≡ false → words.place ≡ START → rest_of_text answers words Outside more ≡ filtered_at letters answers more
rest_of_text-start letters answers words more same nothing past start =
    ap (λ (l : Letters). rest_after answers words (segment_from l Outside more) ++ flat_map (filtered_segment l answers) (segments_after l Outside more)) same
    ∙ ap (λ (t : List ℕ). t ++ flat_map (filtered_segment letters answers) (segments_after letters Outside more)) (rest_after-nothing letters answers words (segment_from letters Outside more) same nothing past start)
    ∙ sym (filtered-is letters answers more)

pub tally_of_text-start : (letters : Letters) (answers : Answering) (words : Words) (more : List ℕ) → words.letters ≡ letters → held_of words ≡ [] → words.past ≡ false → words.place ≡ START → words.tally ≡ record { words = 0; replaced = 0; refused = 0 } → tally_at letters answers more ≡ tally_of_text answers words Outside more
tally_of_text-start letters answers words more same nothing past start counted =
    let texts = answers_at letters answers in
    let first = segment_from letters Outside more in
    let later = flat_map (named_in_segment letters) (segments_after letters Outside more) in
    ap₂ (λ (t : Tally) (names : List (List ℕ)). tally_with texts t names) (sym counted) (named-are letters more)
    ∙ sym (tally_with-append texts words.tally (named_in_segment letters first) later)
    ∙ ap (λ (names : List (List ℕ)). tally_with texts (tally_with texts words.tally names) later) (sym (named_of-nothing letters words first same nothing past start))
    ∙ ap (λ (l : Letters). tally_with (answers_at l answers) (tally_with (answers_at l answers) words.tally (named_of words.letters (held_of words) words.past words.place (segment_from l Outside more))) (flat_map (named_in_segment l) (segments_after l Outside more))) (sym same)

-- what is to be written where a text ends
pub rest_of_text-end : (answers : Answering) (words : Words) (escape : Escape) → rest_of_text answers words escape [] ≡ rest_after answers words []
rest_of_text-end answers words escape = append-nil (rest_after answers words [])

pub tally_of_text-end : (answers : Answering) (words : Words) (escape : Escape) → tally_of_text answers words escape [] ≡ tally_after answers words []
tally_of_text-end answers words escape =
    let names = named_of words.letters (held_of words) words.past words.place [] in
    tally_with-append (answers_at words.letters answers) words.tally names [] ∙ ap (tally_with (answers_at words.letters answers) words.tally) (append-nil names)

-- ## Pieces that are taken

pub TakesText-join : (answers : Answering) (a b c : Words) (x y z : Escape) (piece next bytes more_bytes : List ℕ) → TakesText answers a b x y piece bytes → TakesText answers b c y z next more_bytes → TakesText answers a c x z (piece ++ next) (bytes ++ more_bytes)
TakesText-join answers a b c x y z piece next bytes more_bytes h i = record {
  text = λ more. ap (rest_of_text answers a x) (append_assoc piece next more) ∙ h.text (next ++ more) ∙ ap (λ (t : List ℕ). bytes ++ t) (i.text more) ∙ sym (append_assoc bytes more_bytes (rest_of_text answers c z more));
  counts = λ more. ap (tally_of_text answers a x) (append_assoc piece next more) ∙ h.counts (next ++ more) ∙ i.counts more;
  dots = omega (arith, h.dots, i.dots, length-append piece next);
  letters = i.letters ∙ h.letters;
}

-- a part of a segment
pub TakesText-part : (answers : Answering) (old new : Words) (x y : Escape) (piece bytes : List ℕ) → Takes answers old new piece bytes → IsRead false old.letters x y piece → TakesText answers old new x y piece bytes
TakesText-part answers old new x y piece bytes takes read =
    let letters = old.letters in
    let texts = answers_at letters answers in record {
      text = λ more.
          let r = read more in
          let rest = segment_from letters y more in
          let later = flat_map (filtered_segment letters answers) (segments_after letters y more) in
          ap₂ (λ (a : List ℕ) (b : List (List ℕ)). rest_after answers old a ++ flat_map (filtered_segment letters answers) b) r.0 r.1
          ∙ ap (λ (t : List ℕ). t ++ later) (takes.text rest) ∙ append_assoc bytes (rest_after answers new rest) later
          ∙ ap (λ (l : Letters). bytes ++ (rest_after answers new (segment_from l y more) ++ flat_map (filtered_segment l answers) (segments_after l y more))) (sym takes.letters);
      counts = λ more.
          let r = read more in
          let rest = segment_from letters y more in
          let later = flat_map (named_in_segment letters) (segments_after letters y more) in
          ap₂ (λ (a : List ℕ) (b : List (List ℕ)). tally_with texts (tally_after answers old a) (flat_map (named_in_segment letters) b)) r.0 r.1
          ∙ ap (λ (t : Tally). tally_with texts t later) (takes.counts rest)
          ∙ ap (λ (l : Letters). tally_with (answers_at l answers) (tally_after answers new (segment_from l y more)) (flat_map (named_in_segment l) (segments_after l y more))) (sym takes.letters);
      dots = takes.dots;
      letters = takes.letters;
    }

-- what is still to be written of a segment at its end
pub segment-end : (answers : Answering) (old mid : Words) (piece bytes : List ℕ) → Takes answers old mid piece bytes → rest_after answers old piece ≡ bytes ++ rest_after answers mid []
segment-end answers old mid piece bytes takes = ap (rest_after answers old) (sym (append-nil piece)) ∙ takes.text []

-- the end of a segment
pub TakesText-end : (answers : Answering) (old mid new : Words) (x y : Escape) (piece bytes : List ℕ) → Takes answers old mid piece bytes → IsRead true old.letters x y piece → new.letters ≡ mid.letters → (held_of new ≡ []) × (new.dots ≡ 0) × (new.place ≡ START) × (new.past ≡ false) → new.tally ≡ tally_after answers mid [] → TakesText answers old new x y piece (bytes ++ rest_after answers mid [])
TakesText-end answers old mid new x y piece bytes takes read kept begins counted =
    let letters = old.letters in
    let texts = answers_at letters answers in
    let same : new.letters ≡ letters = kept ∙ takes.letters in record {
      text = λ more.
          let r = read more in
          let rest = segment_from letters y more in
          let later = flat_map (filtered_segment letters answers) (segments_after letters y more) in
          let gone = bytes ++ rest_after answers mid [] in
          ap₂ (λ (a : List ℕ) (b : List (List ℕ)). rest_after answers old a ++ flat_map (filtered_segment letters answers) b) r.0 r.1
          ∙ ap₂ (λ (a b : List ℕ). a ++ b) (segment-end answers old mid piece bytes takes) (flat_map-cons (filtered_segment letters answers) rest (segments_after letters y more))
          ∙ ap (λ (t : List ℕ). gone ++ (t ++ later)) (sym (rest_after-nothing letters answers new rest same begins.0 begins.3 begins.2))
          ∙ ap (λ (l : Letters). gone ++ (rest_after answers new (segment_from l y more) ++ flat_map (filtered_segment l answers) (segments_after l y more))) (sym same);
      counts = λ more.
          let r = read more in
          let rest = segment_from letters y more in
          let later = flat_map (named_in_segment letters) (segments_after letters y more) in
          let now : tally_after answers old piece ≡ new.tally = ap (tally_after answers old) (sym (append-nil piece)) ∙ takes.counts [] ∙ sym counted in
          ap₂ (λ (a : List ℕ) (b : List (List ℕ)). tally_with texts (tally_after answers old a) (flat_map (named_in_segment letters) b)) r.0 r.1
          ∙ ap₂ (λ (t : Tally) (names : List (List ℕ)). tally_with texts t names) now (flat_map-cons (named_in_segment letters) rest (segments_after letters y more))
          ∙ sym (tally_with-append texts new.tally (named_in_segment letters rest) later)
          ∙ ap (λ (names : List (List ℕ)). tally_with texts (tally_with texts new.tally names) later) (sym (named_of-nothing letters new rest same begins.0 begins.3 begins.2))
          ∙ ap (λ (l : Letters). tally_with (answers_at l answers) (tally_with (answers_at l answers) new.tally (named_of new.letters (held_of new) new.past new.place (segment_from l y more))) (flat_map (named_in_segment l) (segments_after l y more))) (sym same);
      dots = omega (arith, begins.1);
      letters = same;
    }

-- what is written for a piece that was taken in part
pub text-bytes : (answers : Answering) (old words : Words) (x y : Escape) (piece bytes : List ℕ) (n : ℕ) → TakesText answers old words x y (take n piece) bytes → rest_of_text answers old x piece ≡ bytes ++ rest_of_text answers words y (drop n piece)
text-bytes answers old words x y piece bytes n h = ap (rest_of_text answers old x) (sym (take-append-drop n piece)) ∙ h.text (drop n piece)

-- what is written for a front of a text is a beginning of what is written for the text
pub front-begins : (b : Bool) (answers : Answering) (old : Words) (x y : Escape) (text : List ℕ) (n : ℕ) → IsRead b old.letters x y (take n text) → (b ≡ false → n ≡ length text) → (rest : List ℕ) × (rest_of_text answers old x text ≡ rest_after answers old (take n text) ++ rest)
front-begins true answers old x y text n read whole =
    let letters = old.letters in
    let r = read (drop n text) in (
      flat_map (filtered_segment letters answers) (segment_from letters y (drop n text) ∷ segments_after letters y (drop n text)),
      ap (rest_of_text answers old x) (sym (take-append-drop n text))
          ∙ ap₂ (λ (a : List ℕ) (b : List (List ℕ)). rest_after answers old a ++ flat_map (filtered_segment letters answers) b) r.0 r.1,
    )
front-begins false answers old x y text n read whole =
    let letters = old.letters in
    let r = read [] in
    let all : take n text ≡ text = take_all n text (omega (arith, whole refl)) in (
      flat_map (filtered_segment letters answers) (segments_after letters y []),
      ap (rest_of_text answers old x) (sym (append-nil (take n text) ∙ all))
          ∙ ap₂ (λ (a : List ℕ) (b : List (List ℕ)). rest_after answers old a ++ flat_map (filtered_segment letters answers) b) (r.0 ∙ append-nil (take n text)) r.1,
    )
