-- Facts on places, on plain fronts and on the words of runs' parts.
use Rattle.sym_filter.proofs.Basics.{◌≡◌, ℕ, zero, suc, ◌+◌, ◌-◌, ◌<◌, ◌≤◌, Bool, true, false, cond, eqb, not, ◌&&◌, List, [], ◌∷◌, ◌++◌, length, take, drop, get_or, refl, sym, ap, ◌∙◌, arith, list_all, and_parts, and_from, and_left, cond-false, ne_eqb, not-true, take_more, take-append-drop, Letters, Place, START, begins_within, closes, in_stretch, is_divider, may_begin, opens, place_after, place_of, stretch_after, word_of, take-add, is_no_mark, is_plain}
use Rattle.sym_filter.specs.declared.places.Stretch.{Stretch}
use Rattle.sym_filter.specs.declared.places.Stretch.TheVariants.{Empty, Section, Other}
use Rattle.sym_filter.proofs.RunLemmas.{is_dot, word_of-part, word_of-append_dots}

-- ## Places

not_not : (b : Bool) → b ≡ not (not b)
not_not true = refl
not_not false = refl

-- a stretch that got one more byte isn't empty
opens-begun : (letters : Letters) (stretch : Stretch) (byte : ℕ) → opens letters (stretch_after stretch byte) byte ≡ (begins_within letters && is_divider byte)
opens-begun letters Empty byte = step (eqb byte 46)
  where
    step : (dot : Bool) → opens letters (cond dot Section Other) byte ≡ (begins_within letters && is_divider byte)
    step true = refl
    step false = refl
opens-begun letters Section byte = refl
opens-begun letters Other byte = refl

-- whether a word may begin at a place depends only on the byte before it
pub may_begin-after : (letters : Letters) (place : Place) (byte : ℕ) → may_begin letters (place_after letters place byte) ≡ not (closes letters byte)
may_begin-after letters place byte = step (in_stretch letters byte)
  where
    step : (b : Bool) → may_begin letters (cond b (record { stretch = stretch_after place.stretch byte; last = byte }) START) ≡ not (b && not (begins_within letters && is_divider byte))
    step true = opens-begun letters place.stretch byte ∙ not_not (begins_within letters && is_divider byte)
    step false = refl

pub place_of-more : (letters : Letters) (place : Place) (front : List ℕ) (byte : ℕ) → place_of letters place (front ++ byte ∷ []) ≡ place_after letters (place_of letters place front) byte
place_of-more letters place [] byte = refl
place_of-more letters place (first ∷ front) byte = place_of-more letters (place_after letters place first) front byte

pub place_of-take : (letters : Letters) (place : Place) (text : List ℕ) (i d : ℕ) → i < length text → place_of letters place (take (i + 1) text) ≡ place_after letters (place_of letters place (take i text)) (get_or text i d)
place_of-take letters place text i d h = ap (place_of letters place) (take_more text i d h) ∙ place_of-more letters place (take i text) (get_or text i d)

pub place_of-none : (letters : Letters) (place : Place) (text : List ℕ) (i : ℕ) → i ≡ 0 → place ≡ place_of letters place (take i text)
place_of-none letters place text zero h = refl
place_of-none letters place text (suc i) h = absurd (omega arith)

-- a stretch begins after a byte that belongs to no stretch
pub place_of-start : (letters : Letters) (place : Place) (text : List ℕ) (i d : ℕ) → 0 < i → i ≤ length text → in_stretch letters (get_or text (i - 1) d) ≡ false → START ≡ place_of letters place (take i text)
place_of-start letters place text i d some inside other =
    let at : i - 1 + 1 ≡ i = omega arith in
    sym (ap (λ n. place_of letters place (take n text)) (sym at) ∙ place_of-take letters place text (i - 1) d (omega arith) ∙ cond-false (in_stretch letters (get_or text (i - 1) d)) _ _ other)

-- ## Plain fronts

-- a plain front with one more byte
pub is_plain-more : (letters : Letters) (place : Place) (front : List ℕ) (byte : ℕ) → is_plain letters place front ≡ true → not (may_begin letters (place_of letters place front) && eqb byte 95) ≡ true → is_plain letters place (front ++ byte ∷ []) ≡ true
is_plain-more letters place [] byte h next = and_from _ _ next refl
is_plain-more letters place (first ∷ front) byte h next =
    let parts = and_parts (not (may_begin letters place && eqb first 95)) (is_plain letters (place_after letters place first) front) h in
    and_from _ _ parts.0 (is_plain-more letters (place_after letters place first) front byte parts.1 next)

-- the front of a text with the byte after it
pub is_plain-take : (letters : Letters) (place : Place) (text : List ℕ) (i d : ℕ) → i < length text → is_plain letters place (take i text) ≡ true → not (may_begin letters (place_of letters place (take i text)) && eqb (get_or text i d) 95) ≡ true → is_plain letters place (take (i + 1) text) ≡ true
is_plain-take letters place text i d h plain next = ap (is_plain letters place) (take_more text i d h) ∙ is_plain-more letters place (take i text) (get_or text i d) plain next

pub goes_on : (begins is_mark : Bool) → begins ≡ false → not (begins && is_mark) ≡ true
goes_on true is_mark h = cc
goes_on false is_mark h = refl

none-begins : (begins : Bool) → not (begins && false) ≡ true
none-begins true = refl
none-begins false = refl

pub is_other : (begins : Bool) (byte : ℕ) → (byte ≡ 95 → ⊥) → not (begins && eqb byte 95) ≡ true
is_other begins byte h = ap (λ (b : Bool). not (begins && b)) (ne_eqb byte 95 h) ∙ none-begins begins

-- a plain front with more bytes, none of them a '_'
is_plain-others : (letters : Letters) (place : Place) (others : List ℕ) → list_all is_no_mark others ≡ true → is_plain letters place others ≡ true
is_plain-others letters place [] h = refl
is_plain-others letters place (byte ∷ others) h =
    let parts = and_parts (is_no_mark byte) (list_all is_no_mark others) h in
    and_from _ _ (ap (λ b. not (may_begin letters place && b)) (not-true (eqb byte 95) parts.0) ∙ none-begins (may_begin letters place)) (is_plain-others letters (place_after letters place byte) others parts.1)

is_plain-append : (letters : Letters) (place : Place) (front others : List ℕ) → is_plain letters place front ≡ true → list_all is_no_mark others ≡ true → is_plain letters place (front ++ others) ≡ true
is_plain-append letters place [] others plain h = is_plain-others letters place others h
is_plain-append letters place (first ∷ front) others plain h =
    let parts = and_parts (not (may_begin letters place && eqb first 95)) (is_plain letters (place_after letters place first) front) plain in
    and_from _ _ parts.0 (is_plain-append letters (place_after letters place first) front others parts.1 h)

pub is_plain-longer : (letters : Letters) (place : Place) (text : List ℕ) (i r : ℕ) → is_plain letters place (take i text) ≡ true → list_all is_no_mark (take r (drop i text)) ≡ true → is_plain letters place (take (i + r) text) ≡ true
is_plain-longer letters place text i r plain others = ap (is_plain letters place) (take-add i r text) ∙ is_plain-append letters place (take i text) (take r (drop i text)) plain others

-- the word of a part ends after its last byte that is no dot
word_of-front : (part : List ℕ) (end : ℕ) → list_all is_dot (drop end part) ≡ true → word_of part ≡ word_of (take end part)
word_of-front part end h = ap word_of (sym (take-append-drop end part)) ∙ word_of-append_dots (take end part) (drop end part) h

last-step : (front : List ℕ) (byte : ℕ) → (byte ≡ 46 → ⊥) → word_of (front ++ byte ∷ []) ≡ front ++ byte ∷ []
last-step front byte other =
    let no_dot : list_all is_dot (byte ∷ []) ≡ false = and_left (is_dot byte) true (ne_eqb byte 46 other) in
    word_of-part front (byte ∷ []) no_dot ∙ ap (λ (t : List ℕ). front ++ t) (cond-false _ _ _ no_dot)

pub word_of-last : (part : List ℕ) (end : ℕ) → 0 < end → end ≤ length part → list_all is_dot (drop end part) ≡ true → (get_or part (end - 1) 0 ≡ 46 → ⊥) → take end part ≡ word_of part
word_of-last part end some within dots other =
    let place : end - 1 + 1 ≡ end = omega arith in
    let whole : take end part ≡ take (end - 1) part ++ get_or part (end - 1) 0 ∷ [] = ap (λ n. take n part) (sym place) ∙ take_more part (end - 1) 0 (omega arith) in
    whole ∙ sym (word_of-front part end dots ∙ ap word_of whole ∙ last-step (take (end - 1) part) (get_or part (end - 1) 0) other)

pub word_of-none : (part : List ℕ) (end : ℕ) → end ≡ 0 → list_all is_dot (drop end part) ≡ true → [] ≡ word_of part
word_of-none part end none dots = sym (word_of-front part end dots ∙ ap (λ n. word_of (take n part)) none)
