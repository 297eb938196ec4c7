-- Changing the runs of a text that is cut at a byte outside of runs.
use Rattle.sym_filter.proofs.Basics.{◌≡◌, ℕ, ◌≤◌, Bool, true, false, cond, eqb, leb, ◌&&◌, ◌||◌, List, [], ◌∷◌, ◌++◌, refl, ap, ap₂, sym, ◌∙◌, append_assoc, arith, flat_map, cond-false, eqb-true, leb-false, lt-leb, true≢false, append-nil, flat_map-cons, Letters, Any, Ascii, Within, Escape, Outside, Backslash, Octal, Octal3, Hex, Hex0, Hex00, Hex001, Three, Two, One, Esc, Sequence, is_between, is_byte_of, after_digit, cuts_after, escape_after, goes_on_after, only, segment_from, segments_after, is_blank_name, is_esc_digit, is_hex_digit, is_lead, is_letter, is_parameter, Answering, filtered_segment, first_run, with_later_runs, with_runs, replaced_at, FilteredByJoinsAt, is_in_escapes}
use Rattle.sym_filter.proofs.CarryLemmas.{filtered-is}

first_run-cut : (letters : Letters) (text : List ℕ) (byte : ℕ) (more : List ℕ) → is_byte_of letters byte ≡ false → first_run letters (text ++ (byte ∷ more)) ≡ first_run letters text
first_run-cut letters [] byte more other = cond-false (is_byte_of letters byte) _ _ other
first_run-cut letters (next ∷ text) byte more other = ap (λ (t : List ℕ). cond (is_byte_of letters next) (next ∷ t) []) (first_run-cut letters text byte more other)

either-cut : (test : Bool) (a b a' b' rest : List ℕ) → a ≡ a' ++ rest → b ≡ b' ++ rest → cond test a b ≡ cond test a' b' ++ rest
either-cut true a b a' b' rest left right = left
either-cut false a b a' b' rest left right = right

with_later_runs-cut : (letters : Letters) (change : List ℕ → List ℕ) (text : List ℕ) (byte : ℕ) (more : List ℕ) → is_byte_of letters byte ≡ false → with_later_runs letters change (text ++ (byte ∷ more)) ≡ with_later_runs letters change text ++ (byte ∷ with_runs letters change more)
with_later_runs-cut letters change [] byte more other = cond-false (is_byte_of letters byte) _ _ other
with_later_runs-cut letters change (next ∷ text) byte more other =
    let later = with_later_runs-cut letters change text byte more other in
    let first : change (first_run letters (text ++ (byte ∷ more))) ≡ change (first_run letters text) = ap change (first_run-cut letters text byte more other) in
    either-cut (is_byte_of letters next) _ _ (with_later_runs letters change text) (next ∷ (change (first_run letters text) ++ with_later_runs letters change text)) (byte ∷ with_runs letters change more) later
    (ap (λ (t : List ℕ). next ∷ t) (ap₂ (λ (a b : List ℕ). a ++ b) first later ∙ sym (append_assoc (change (first_run letters text)) (with_later_runs letters change text) (byte ∷ with_runs letters change more))))

joined-segment : (letters : Letters) (answers : Answering) (text : List ℕ) (byte : ℕ) (more : List ℕ) → is_byte_of letters byte ≡ false
    → filtered_segment letters answers (text ++ (byte ∷ more)) ≡ filtered_segment letters answers text ++ (byte ∷ filtered_segment letters answers more)
joined-segment letters answers text byte more other =
    ap₂ (λ (a b : List ℕ). a ++ b) (ap (replaced_at letters answers) (first_run-cut letters text byte more other)) (with_later_runs-cut letters (replaced_at letters answers) text byte more other)
    ∙ sym (append_assoc (replaced_at letters answers (first_run letters text)) (with_later_runs letters (replaced_at letters answers) text) (byte ∷ with_runs letters (replaced_at letters answers) more))

-- ## A byte that belongs to no escape

differs : (byte other : ℕ) (b : Bool) → eqb byte other ≡ b → is_in_escapes Within other ≡ true → is_in_escapes Within byte ≡ false → b ≡ false
differs byte other true e in_one not_in = absurd (true≢false (sym in_one ∙ sym (ap (is_in_escapes Within) (eqb-true byte other e)) ∙ not_in))
differs byte other false e in_one not_in = refl

or-false : (a b : Bool) → (a || b) ≡ false → (a ≡ false) × (b ≡ false)
or-false true b h = cc
or-false false b h = (refl, h)

-- a byte outside of a range is outside of each shorter range that begins at the same byte
narrower : (low high wide byte : ℕ) (a b : Bool) → leb low byte ≡ a → leb byte wide ≡ b → high ≤ wide → (a && b) ≡ false → (a && leb byte high) ≡ false
narrower low high wide byte true true e f h i = cc
narrower low high wide byte true false e f h i = lt-leb byte high (omega (arith, h, leb-false byte wide f))
narrower low high wide byte false b e f h i = refl

no-hex : (byte : ℕ) → is_letter byte ≡ false → is_parameter byte ≡ false → is_hex_digit byte ≡ false
no-hex byte letter parameter =
    let parts = or-false (is_between 65 90 byte) (is_between 97 122 byte) letter in
    let digit = narrower 48 57 59 byte (leb 48 byte) (leb byte 59) refl refl (omega arith) parameter in
    let capital = narrower 65 70 90 byte (leb 65 byte) (leb byte 90) refl refl (omega arith) parts.0 in
    let small = narrower 97 102 122 byte (leb 97 byte) (leb byte 122) refl refl (omega arith) parts.1 in
    ap₂ (λ (a b : Bool). a || b) (ap₂ (λ (a b : Bool). a || b) digit capital) small

module _ (byte : ℕ) (other : is_in_escapes Within byte ≡ false) where
  no : (k : ℕ) → is_in_escapes Within k ≡ true → eqb byte k ≡ false
  no k is = differs byte k (eqb byte k) refl is other

  both : (is_letter byte ≡ false) × (is_parameter byte ≡ false)
  both = or-false (is_letter byte) (is_parameter byte) (or-false (is_letter byte || is_parameter byte) (is_lead byte) (or-false ((is_letter byte || is_parameter byte) || is_lead byte) (eqb byte 91) other).0).0

  letter : is_letter byte ≡ false
  letter = both.0

  parameter : is_parameter byte ≡ false
  parameter = both.1

  hex : is_hex_digit byte ≡ false
  hex = no-hex byte letter parameter

  named : is_blank_name byte ≡ false
  named = ap₂ (λ (a b : Bool). a || b) (ap₂ (λ (a b : Bool). a || b) (no 110 refl) (no 114 refl)) (no 116 refl)

  esc-digit : (digit : ℕ) → is_in_escapes Within digit ≡ true → is_esc_digit digit byte ≡ false
  esc-digit digit is = ap₂ (λ (a b : Bool). a || (eqb digit 98 && b)) (no digit is) (no 66 refl) ∙ and-none (eqb digit 98)
    where
      and-none : (b : Bool) → (false || (b && false)) ≡ false
      and-none true = refl
      and-none false = refl

  stays-outside : (b : Bool) (escape : Escape) → b ≡ false → only b escape ≡ Outside
  stays-outside true escape h = cc
  stays-outside false escape h = refl

  after-digit : (digit : ℕ) (esc more : Escape) → is_in_escapes Within digit ≡ true → after_digit byte digit esc more ≡ Outside
  after-digit digit esc more is = cond-false (is_esc_digit digit byte) esc _ (esc-digit digit is) ∙ stays-outside (is_hex_digit byte) more hex

  goes-outside : (escape : Escape) → goes_on_after escape byte ≡ Outside
  goes-outside Outside = refl
  goes-outside Backslash =
      cond-false _ Outside _ named ∙ cond-false (eqb byte 117) Hex _ (no 117 refl) ∙ cond-false (eqb byte 120) Hex00 _ (no 120 refl)
      ∙ cond-false (eqb byte 48) Octal _ (no 48 refl) ∙ stays-outside (eqb byte 101) Esc (no 101 refl)
  goes-outside Octal = stays-outside (eqb byte 51) Octal3 (no 51 refl)
  goes-outside Octal3 = stays-outside (eqb byte 51) Esc (no 51 refl)
  goes-outside Hex = after-digit 48 Hex0 Three refl
  goes-outside Hex0 = after-digit 48 Hex00 Two refl
  goes-outside Hex00 = after-digit 49 Hex001 One refl
  goes-outside Hex001 = stays-outside (is_esc_digit 98 byte) Esc (esc-digit 98 refl)
  goes-outside Three = stays-outside (is_hex_digit byte) Two hex
  goes-outside Two = stays-outside (is_hex_digit byte) One hex
  goes-outside One = refl
  goes-outside Esc = stays-outside (eqb byte 91) Sequence (no 91 refl)
  goes-outside Sequence = stays-outside (is_parameter byte) Sequence parameter

  pub comes-outside : (escape : Escape) → escape_after escape byte ≡ Outside
  comes-outside escape = cond-false (eqb byte 92) Backslash _ (no 92 refl) ∙ cond-false (eqb byte 27) Esc _ (no 27 refl) ∙ goes-outside escape

  pub ends-none : (escape : Escape) → cuts_after Within escape byte ≡ false
  ends-none Backslash = named
  ends-none Hex001 = hex
  ends-none One = hex
  ends-none Sequence = letter
  ends-none more = refl

  -- ## Joined texts

  module _ (answers : Answering) (more : List ℕ) (between : is_byte_of Within byte ≡ false) where
    abbrev change : List ℕ → List ℕ
    change text = filtered_segment Within answers text

    abbrev after : Escape → List ℕ → List ℕ
    after escape text = flat_map (filtered_segment Within answers) (segments_after Within escape text)

    last-segment : (escape : Escape) → segment_from Within escape (byte ∷ more) ≡ byte ∷ segment_from Within Outside more
    last-segment escape =
        ap (λ (t : List ℕ). byte ∷ t) (cond-false (cuts_after Within escape byte) [] _ (ends-none escape) ∙ ap (λ (e : Escape). segment_from Within e more) (comes-outside escape))

    last-after : (escape : Escape) → segments_after Within escape (byte ∷ more) ≡ segments_after Within Outside more
    last-after escape = cond-false (cuts_after Within escape byte) _ _ (ends-none escape) ∙ ap (λ (e : Escape). segments_after Within e more) (comes-outside escape)

    -- joined texts, after a front of a segment
    text-joined : (front : List ℕ) (escape : Escape) (text : List ℕ) → change (front ++ segment_from Within escape (text ++ (byte ∷ more))) ++ after escape (text ++ (byte ∷ more))
        ≡ (change (front ++ segment_from Within escape text) ++ after escape text) ++ (byte ∷ (change (segment_from Within Outside more) ++ after Outside more))
    text-joined front escape [] =
        let rest = segment_from Within Outside more in
        ap₂ (λ (a : List ℕ) (b : List (List ℕ)). change (front ++ a) ++ flat_map (filtered_segment Within answers) b) (last-segment escape) (last-after escape)
        ∙ ap (λ (t : List ℕ). t ++ after Outside more) (joined-segment Within answers front byte rest between)
        ∙ append_assoc (change front) (byte ∷ change rest) (after Outside more)
        ∙ ap (λ (t : List ℕ). t ++ (byte ∷ (change rest ++ after Outside more))) (sym (append-nil (change (front ++ [])) ∙ ap change (append-nil front)))
    text-joined front escape (next ∷ text) = step (cuts_after Within escape next) (text-joined [] (escape_after escape next) text) (text-joined (front ++ next ∷ []) (escape_after escape next) text)
      where
        rest : List ℕ
        rest = byte ∷ (change (segment_from Within Outside more) ++ after Outside more)

        here : Escape
        here = escape_after escape next

        step : (b : Bool)
            → change (segment_from Within here (text ++ (byte ∷ more))) ++ after here (text ++ (byte ∷ more)) ≡ (change (segment_from Within here text) ++ after here text) ++ rest
            → change ((front ++ next ∷ []) ++ segment_from Within here (text ++ (byte ∷ more))) ++ after here (text ++ (byte ∷ more))
            ≡ (change ((front ++ next ∷ []) ++ segment_from Within here text) ++ after here text) ++ rest
            → change (front ++ next ∷ cond b [] (segment_from Within here (text ++ (byte ∷ more)))) ++ flat_map (filtered_segment Within answers) (cond b (segment_from Within here (text ++ (byte ∷ more)) ∷ segments_after Within here (text ++ (byte ∷ more))) (segments_after Within here (text ++ (byte ∷ more))))
            ≡ (change (front ++ next ∷ cond b [] (segment_from Within here text)) ++ flat_map (filtered_segment Within answers) (cond b (segment_from Within here text ∷ segments_after Within here text) (segments_after Within here text))) ++ rest
        step true new goes =
            ap (λ (t : List ℕ). change (front ++ next ∷ []) ++ t) (flat_map-cons (filtered_segment Within answers) (segment_from Within here (text ++ (byte ∷ more))) (segments_after Within here (text ++ (byte ∷ more))) ∙ new)
            ∙ sym (append_assoc (change (front ++ next ∷ [])) (change (segment_from Within here text) ++ after here text) rest)
            ∙ ap (λ (t : List ℕ). (change (front ++ next ∷ []) ++ t) ++ rest) (sym (flat_map-cons (filtered_segment Within answers) (segment_from Within here text) (segments_after Within here text)))
        step false new goes =
            ap (λ (t : List ℕ). change t ++ after here (text ++ (byte ∷ more))) (sym (append_assoc front (next ∷ []) (segment_from Within here (text ++ (byte ∷ more)))))
            ∙ goes
            ∙ ap (λ (t : List ℕ). (change t ++ after here text) ++ rest) (append_assoc front (next ∷ []) (segment_from Within here text))

pub filtered_by_joins : (letters : Letters) → FilteredByJoinsAt letters
filtered_by_joins Any answers text more byte other not_in = joined-segment Any answers text byte more other
filtered_by_joins Ascii answers text more byte other not_in = joined-segment Ascii answers text byte more other
filtered_by_joins Within answers text more byte other not_in =
    filtered-is Within answers (text ++ (byte ∷ more)) ∙ text-joined byte not_in answers more other [] Outside text
    ∙ ap₂ (λ (a b : List ℕ). a ++ (byte ∷ b)) (sym (filtered-is Within answers text)) (sym (filtered-is Within answers more))
