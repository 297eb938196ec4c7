-- Defaults and usual names of a list of elements.
use Rattle.short_names.proofs.Basics.{◌≡◌, ◌<◌, ◌≤◌, ◌+◌, ◌-◌, ◌==◌, ◌&&◌, not, inl, inr, zero, suc, ℕ, Bool, true, false, List, [], ◌∷◌, length, take, drop, get_or, nat_eq, refl, sym, ap, ◌∙◌, arith, None, Some, slice_get, eq-eqb, ne_eqb, le-leb, if◌then◌else◌, pointwise, lt-leb, slice_get-get_or, drop_more, drop_all, Place, Alias, ALIASES, DEFAULTS, Named, AreHoles, element, joined, filled_for, pattern_at, defaults_of, is_given, is_default, left_of, left, is_polymorphic, alias_in, filled, text_of}
use Rattle.short_names.specs.declared.patterns.Holes.{Holes}
use Rattle.short_names.proofs.RunLemmas.{lt-or-le}

-- ## A part of a list

module _ {X : Type 0} where
  slice_get-take : (xs : List X) (count i : ℕ) → i < count → slice_get (take count xs) i ≡ slice_get xs i
  slice_get-take xs zero i within = absurd (omega (arith, within))
  slice_get-take [] (suc count) i within = refl
  slice_get-take (x ∷ xs) (suc count) zero within = refl
  slice_get-take (x ∷ xs) (suc count) (suc i) within = slice_get-take xs count i (omega (arith, within))

  slice_get-past : (xs : List X) (count i : ℕ) → count ≤ i → slice_get (take count xs) i ≡ None
  slice_get-past xs zero i past = refl
  slice_get-past [] (suc count) i past = refl
  slice_get-past (x ∷ xs) (suc count) zero past = absurd (omega (arith, past))
  slice_get-past (x ∷ xs) (suc count) (suc i) past = slice_get-past xs count i (omega (arith, past))

  slice_get-drop : (n : ℕ) (xs : List X) (i : ℕ) → slice_get (drop n xs) i ≡ slice_get xs (n + i)
  slice_get-drop zero xs i = let on : i ≡ 0 + i = omega arith in ap (slice_get xs) on
  slice_get-drop (suc n) [] i = refl
  slice_get-drop (suc n) (x ∷ xs) i = let on : suc (n + i) ≡ suc n + i = omega arith in slice_get-drop n xs i ∙ ap (slice_get (x ∷ xs)) on

  slice_get-all : (xs : List X) (i : ℕ) → length xs ≤ i → slice_get xs i ≡ None
  slice_get-all [] i past = refl
  slice_get-all (x ∷ xs) zero past = absurd (omega (arith, past))
  slice_get-all (x ∷ xs) (suc i) past = slice_get-all xs i (omega (arith, past))

  next-row : (xs : List X) (k end : ℕ) (d : X) → k < end → k < length xs → take (end - k) (drop k xs) ≡ get_or xs k d ∷ take (end - (k + 1)) (drop (k + 1) xs)
  next-row xs k end d below within =
      let on : end - k ≡ suc (end - (k + 1)) = omega (arith, below) in
      ap (λ n. take n (drop k xs)) on ∙ ap (take (suc (end - (k + 1)))) (drop_more xs k d within)

-- ## Patterns with their holes filled

module _ (named : Named) (elements : List (List ℕ)) (holes : Holes) (are : AreHoles named elements holes) where
  pub filled-same : (pattern : List ℕ) → filled holes.first.now holes.second.now holes.whole.now pattern ≡ filled_for named elements pattern
  filled-same pattern =
      ap (λ f. filled f holes.second.now holes.whole.now pattern) are.0
      ∙ ap (λ s. filled (element elements 0) s holes.whole.now pattern) are.1
      ∙ ap (λ w. filled (element elements 0) (element elements 1) w pattern) are.2

  pub given-same : (text pattern : List ℕ)
      → (not (length pattern == 0) && pointwise nat_eq text (filled holes.first.now holes.second.now holes.whole.now pattern)) ≡ is_given named elements text pattern
  given-same text pattern = ap (λ t. not (length pattern == 0) && pointwise nat_eq text t) (filled-same pattern)

-- ## Defaults

module _ (named : Named) (elements : List (List ℕ)) (place : ℕ) where
  default-none : slice_get (defaults_of named.template) place ≡ None → is_default named elements place ≡ false
  default-none none = ap (λ o. is_given named elements (element elements place) (pattern_at o)) none

  pub no-place : named.template.count ≤ place → is_default named elements place ≡ false
  no-place past = default-none (slice_get-past (drop named.template.first_default DEFAULTS) named.template.count place past)

  pub no-row : length DEFAULTS ≤ named.template.first_default + place → is_default named elements place ≡ false
  no-row past = elim (lt-or-le place named.template.count) [
    | inl within ↦ default-none
        (slice_get-take (drop named.template.first_default DEFAULTS) named.template.count place within
        ∙ slice_get-drop named.template.first_default DEFAULTS place ∙ slice_get-all DEFAULTS (named.template.first_default + place) past)
    | inr behind ↦ no-place behind
  ]

  pub default-at : place < named.template.count → (row : ℕ) → row ≡ named.template.first_default + place → row < length DEFAULTS → (d : Place)
      → is_given named elements (element elements place) (text_of (get_or DEFAULTS row d)) ≡ is_default named elements place
  default-at within row at inside d =
      ap (λ o. is_given named elements (element elements place) (pattern_at o))
      (sym (slice_get-get_or DEFAULTS row d inside) ∙ ap (slice_get DEFAULTS) at ∙ sym (slice_get-drop named.template.first_default DEFAULTS place)
      ∙ sym (slice_get-take (drop named.template.first_default DEFAULTS) named.template.count place within))

module _ (named : Named) (elements : List (List ℕ)) (count n : ℕ) (at : count ≡ suc n) where
  pub one-less : is_default named elements n ≡ true → left_of named elements count ≡ left_of named elements n
  unfolding left_of
  one-less is = ap (left_of named elements) at ∙ rw is refl

  pub none-less : is_default named elements n ≡ false → left_of named elements count ≡ count
  unfolding left_of
  none-less other = ap (left_of named elements) at ∙ rw other refl ∙ sym at

pub nothing-left : (named : Named) (elements : List (List ℕ)) (count : ℕ) → count ≡ 0 → left_of named elements count ≡ count
unfolding left_of
nothing-left named elements count none = ap (left_of named elements) none ∙ sym none

module _ (named : Named) (elements : List (List ℕ)) where
  pub left-more : named.template.count < length elements → left named elements ≡ length elements
  left-more more = ap (λ b. if b then left_of named elements (length elements) else length elements) (lt-leb (length elements) named.template.count more)

  pub left-few : length elements ≤ named.template.count → left named elements ≡ left_of named elements (length elements)
  left-few few = ap (λ b. if b then left_of named elements (length elements) else length elements) (le-leb _ _ few)

  pub other-count : (length elements ≡ named.template.count → ⊥) → is_polymorphic named elements ≡ false
  other-count other =
      ap (λ b. b && is_given named elements (element elements (length elements - 1)) (text_of named.template.polymorphic)) (ne_eqb (length elements) named.template.count other)

  pub same-count : length elements ≡ named.template.count → is_polymorphic named elements ≡ is_given named elements (element elements (length elements - 1)) (text_of named.template.polymorphic)
  same-count same =
      ap (λ b. b && is_given named elements (element elements (length elements - 1)) (text_of named.template.polymorphic)) (eq-eqb (length elements) named.template.count same)

-- ## Usual names

module _ (named : Named) (elements : List (List ℕ)) (count end k : ℕ) where
  abbrev rows_from : ℕ → List Alias
  rows_from j = take (end - j) (drop j ALIASES)

  abbrev is_usual : Alias → Bool
  is_usual alias = pointwise nat_eq (joined (take count elements)) (filled_for named elements (text_of alias.arguments))

  pub usual-past : (d : Alias) → k < end → k < length ALIASES → is_usual (get_or ALIASES k d) ≡ false → alias_in (rows_from k) named elements count ≡ alias_in (rows_from (k + 1)) named elements count
  unfolding alias_in
  usual-past d below within other = ap (λ rows. alias_in rows named elements count) (next-row ALIASES k end d below within) ∙ rw other refl

  pub usual-found : (d : Alias) → k < end → k < length ALIASES → is_usual (get_or ALIASES k d) ≡ true → alias_in (rows_from k) named elements count ≡ Some (get_or ALIASES k d)
  unfolding alias_in
  usual-found d below within is = ap (λ rows. alias_in rows named elements count) (next-row ALIASES k end d below within) ∙ rw is refl

  pub usual-none : end ≤ k → alias_in (rows_from k) named elements count ≡ None
  unfolding alias_in
  usual-none past = let nothing : end - k ≡ 0 = omega (arith, past) in ap (λ n. alias_in (take n (drop k ALIASES)) named elements count) nothing

  pub usual-end : length ALIASES ≤ k → alias_in (rows_from k) named elements count ≡ None
  unfolding alias_in
  usual-end past = ap (λ rows. alias_in (take (end - k) rows) named elements count) (drop_all k ALIASES past) ∙ by (end - k)
    where
      by : (n : ℕ) → alias_in (take n []) named elements count ≡ None
      by zero = refl
      by (suc n) = refl
