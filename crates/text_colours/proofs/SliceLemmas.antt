-- Bytes of a text from one place to another, and what is written of the text after these bytes.
use Rattle.std.proofs.Common.{get_or, ◌≡◌, ◌≤◌, ◌<◌, ◌∙◌, ◌+◌, ◌-◌, ℕ, Bool, true, false, List, [], ◌∷◌, ◌++◌, length, take, drop, cond, refl, ap, ap₂, sym, arith, append_assoc, ◌&&◌, inl, inr}
use Rattle.std.specs.Prelude.{nat_le, nat_lt}
use Rattle.std.specs.List.{All}
use Rattle.std.proofs.Math.Seq.{drop-append_seam, take-append_seam}
use Rattle.std.proofs.Math.Seq.{take-add}
use Rattle.std.proofs.lemmas.List.{take-append-drop, drop-drop, drop_all, drop_more, length-drop, take_all}
use Rattle.std.proofs.lemmas.List.Elements.{All-head, All-tail}
use Rattle.std.proofs.lemmas.Bool.{and_left, and_right, cases_Bool, cases_lt, le-leb, le-ltb, lt-leb}
use Rattle.sym_parts.specs.Placed.{end_of}
use Rattle.sym_parts.specs.declared.part.Part.{Part}
use Rattle.text_colours.specs.Styles.{plain, style_of}
use Rattle.text_colours.specs.Colored.{colored_from, has_style, place_after, shows, slice, written}

-- a text between two places, followed by the text from the second place on
pub slice-rest : (text : List ℕ) (from to : ℕ) → from ≤ to → slice text from to ++ drop to text ≡ drop from text
slice-rest text from to h =
    let rest = drop from text in
    ap (λ (t : List ℕ). slice text from to ++ t) (ap (λ (n : ℕ). drop n text) (omega (arith, h)) ∙ sym (drop-drop (to - from) from text))
    ∙ take-append-drop (to - from) rest

-- between the places where known bytes of a text begin and end, the slice is these bytes
pub slice-within : (text front bytes back : List ℕ) (from to : ℕ) → text ≡ front ++ (bytes ++ back) → from ≡ length front → to ≡ from + length bytes → slice text from to ≡ bytes
slice-within text front bytes back from to is begins ends =
    ap₂ (λ (n : ℕ) (bs : List ℕ). take n bs) (omega (arith, ends)) (ap₂ drop begins is ∙ drop-append_seam front (bytes ++ back)) ∙ take-append_seam bytes back

-- ## Parts that are shown

-- a part that begins after two places is shown at both or at neither
same-shown : (from to : ℕ) (part : Part) → from ≤ to → to ≤ part.start → shows from part ≡ shows to part
same-shown from to part h after =
    ap (λ (b : Bool). has_style part.role && (nat_lt 0 part.length && b)) (le-leb from part.start (omega (arith, h, after)) ∙ sym (le-leb to part.start after))

-- a part that ends before a place isn't shown
not-shown : (place : ℕ) (part : Part) → end_of part ≤ place → shows place part ≡ false
not-shown place part before =
    and_right (has_style part.role) _ (elim (cases_lt 0 part.length) [
      | inl some ↦ and_right (nat_lt 0 part.length) (nat_le place part.start) (lt-leb place part.start (omega (arith, before, some)))
      | inr none ↦ and_left (nat_lt 0 part.length) (nat_le place part.start) (le-ltb 0 part.length none)
    ])

-- a part that isn't shown is passed over
passed-by : (text : List ℕ) (place : ℕ) (part : Part) (parts : List Part) (b : Bool) → b ≡ false
    → cond b (slice text place part.start ++ (style_of part.role ++ (slice text part.start (end_of part) ++ plain))) [] ++ colored_from text (cond b (end_of part) place) parts ≡ colored_from text place parts
passed-by text place part parts false hidden = refl
passed-by text place part parts true hidden = cc

pub passed : (text : List ℕ) (place : ℕ) (part : Part) (parts : List Part) → shows place part ≡ false → colored_from text place (part ∷ parts) ≡ colored_from text place parts
unfolding colored_from
passed text place part parts hidden = passed-by text place part parts (shows place part) hidden

pub all-passed : (text : List ℕ) (place : ℕ) (parts more : List Part) → All (λ part. end_of part ≤ place) parts → colored_from text place (parts ++ more) ≡ colored_from text place more
all-passed text place [] more before = refl
all-passed text place (part ∷ parts) more before =
    passed text place part (parts ++ more) (not-shown place part (All-head (λ part. end_of part ≤ place) part parts before))
    ∙ all-passed text place parts more (All-tail (λ part. end_of part ≤ place) part parts before)

-- a part that is shown is written in its style
shown-by : (text : List ℕ) (place : ℕ) (part : Part) (parts : List Part) (b : Bool) → b ≡ true
    → cond b (slice text place part.start ++ (style_of part.role ++ (slice text part.start (end_of part) ++ plain))) [] ++ colored_from text (cond b (end_of part) place) parts
    ≡ (slice text place part.start ++ (style_of part.role ++ (slice text part.start (end_of part) ++ plain))) ++ colored_from text (end_of part) parts
shown-by text place part parts true shown = refl
shown-by text place part parts false shown = cc

pub shown : (text : List ℕ) (place : ℕ) (part : Part) (parts : List Part) → shows place part ≡ true
    → colored_from text place (part ∷ parts) ≡ (slice text place part.start ++ (style_of part.role ++ (slice text part.start (end_of part) ++ plain))) ++ colored_from text (end_of part) parts
unfolding colored_from
shown text place part parts is = shown-by text place part parts (shows place part) is

-- a slice up to a place between its ends, and the rest of the slice; where no part begins, the text is written as it is
slice-more : (text more : List ℕ) (from to start : ℕ) → from ≤ to → to ≤ start → slice text from start ++ more ≡ slice text from to ++ (slice text to start ++ more)
slice-more text more from to start h after =
    let first = slice text from to in
    let rest = drop from text in
    let both : slice text from start ≡ first ++ slice text to start =
    ap (λ (n : ℕ). take n rest) (omega (arith, h, after)) ∙ take-add (to - from) (start - to) rest
    ∙ ap (λ (t : List ℕ). first ++ take (start - to) t) (drop-drop (to - from) from text ∙ ap (λ (n : ℕ). drop n text) (omega (arith, h))) in
    ap (λ (t : List ℕ). t ++ more) both ∙ append_assoc first (slice text to start) more

pub advanced : (text : List ℕ) (from to : ℕ) (parts : List Part) → from ≤ to → All (λ part. to ≤ part.start) parts → colored_from text from parts ≡ slice text from to ++ colored_from text to parts
unfolding colored_from
advanced text from to [] h after = sym (slice-rest text from to h)
advanced text from to (part ∷ parts) h after =
    let begins : to ≤ part.start = All-head (λ part. to ≤ part.start) part parts after in
    let same : shows from part ≡ shows to part = same-shown from to part h begins in
    let rest = advanced text from to parts h (All-tail (λ part. to ≤ part.start) part parts after) in
    elim (cases_Bool (shows to part)) [
      | inl is ↦ shown text from part parts (same ∙ is)
          ∙ append_assoc (slice text from part.start) (style_of part.role ++ (slice text part.start (end_of part) ++ plain)) (colored_from text (end_of part) parts)
          ∙ slice-more text ((style_of part.role ++ (slice text part.start (end_of part) ++ plain)) ++ colored_from text (end_of part) parts) from to part.start h begins
          ∙ ap (λ (t : List ℕ). slice text from to ++ t) (sym (append_assoc (slice text to part.start) (style_of part.role ++ (slice text part.start (end_of part) ++ plain)) (colored_from text (end_of part) parts)) ∙ sym (shown text to part parts is))
      | inr not ↦ passed text from part parts (same ∙ not) ∙ rest ∙ ap (λ (t : List ℕ). slice text from to ++ t) (sym (passed text to part parts not))
    ]

-- ## The loop over the parts

-- one more part
pub part-more : (text : List ℕ) (parts : List Part) (i : ℕ) (d : Part) (place next : ℕ) (old new all : List ℕ) → i < length parts → old ++ colored_from text place (drop i parts) ≡ all
    → new ≡ old ++ written text place (get_or parts i d) → next ≡ place_after place (get_or parts i d) → new ++ colored_from text next (drop (i + 1) parts) ≡ all
unfolding colored_from
part-more text parts i d place next old new all more so_far is after =
    let part = get_or parts i d in
    ap₂ (λ (t : List ℕ) (n : ℕ). t ++ colored_from text n (drop (i + 1) parts)) is after ∙ append_assoc old (written text place part) (colored_from text (place_after place part) (drop (i + 1) parts))
    ∙ ap (λ (ps : List Part). old ++ colored_from text place ps) (sym (drop_more parts i d more)) ∙ so_far

-- no part is left
pub ended : (text : List ℕ) (parts : List Part) (i place end : ℕ) (old last new all : List ℕ) → length parts ≤ i → old ++ colored_from text place (drop i parts) ≡ all → last ≡ slice text place end → end ≡ length text
    → new ≡ old ++ last → new ≡ all
unfolding colored_from
ended text parts i place end old last new all done so_far is ends made =
    let rest : slice text place end ≡ drop place text = ap (λ (n : ℕ). slice text place n) ends ∙ take_all (length text - place) (drop place text) (omega (arith, length-drop place text)) in
    made ∙ ap (λ (t : List ℕ). old ++ t) (is ∙ rest) ∙ ap (λ (ps : List Part). old ++ colored_from text place ps) (sym (drop_all i parts done)) ∙ so_far
