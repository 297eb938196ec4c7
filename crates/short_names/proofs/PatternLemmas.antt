-- A text that is compared with a pattern, byte by byte of the pattern.
use Rattle.std.proofs.Common.{◌≡◌, ◌≢◌, ◌<◌, ◌≤◌, ◌+◌, ◌==◌, inl, inr, ℕ, true, false, List, [], ◌∷◌, ◌++◌, length, take, drop, get_or, nat_eq, refl, sym, ap, ◌∙◌, arith, length-append, append_assoc, take-append-drop, eq-eqb, ne_eqb}
use Rattle.short_names.proofs.Basics.{pointwise, cases_eq, bytes_eq-Decides, bit, filled}
use Rattle.std.proofs.lemmas.List.{append_cancel_left, append-nil, take_more, drop_more, take_all, nil_from_length}
use Rattle.short_names.proofs.FrontLemmas.{false-from}

module _ (first second whole : List ℕ) where
  filled-append : (xs ys : List ℕ) → filled first second whole (xs ++ ys) ≡ filled first second whole xs ++ filled first second whole ys
  unfolding filled
  filled-append [] ys = refl
  filled-append (x ∷ xs) ys =
      ap (λ t. bit first second whole x ++ t) (filled-append xs ys)
      ∙ sym (append_assoc (bit first second whole x) (filled first second whole xs) (filled first second whole ys))

  filled-one : (x : ℕ) → filled first second whole (x ∷ []) ≡ bit first second whole x
  unfolding filled
  filled-one x = append-nil (bit first second whole x)

  module _ (text pattern : List ℕ) (at : ℕ) (rest : List ℕ) (so_far : text ≡ filled first second whole (take at pattern) ++ rest) where
    -- one more byte of the pattern
    pub filled-more : at < length pattern → (others : List ℕ) → rest ≡ bit first second whole (get_or pattern at 0) ++ others → text ≡ filled first second whole (take (at + 1) pattern) ++ others
    filled-more within others here =
        let front = filled first second whole (take at pattern) in
        let byte = bit first second whole (get_or pattern at 0) in
        let more : filled first second whole (take (at + 1) pattern) ≡ front ++ byte =
        ap (filled first second whole) (take_more pattern at 0 within)
        ∙ filled-append (take at pattern) (get_or pattern at 0 ∷ []) ∙ ap (λ t. front ++ t) (filled-one (get_or pattern at 0)) in
        so_far ∙ ap (λ t. front ++ t) here ∙ sym (append_assoc front byte others) ∙ ap (λ t. t ++ others) (sym more)

    -- the whole pattern, from a byte on
    whole-pattern : at < length pattern → filled first second whole pattern ≡ filled first second whole (take at pattern) ++ (bit first second whole (get_or pattern at 0) ++ filled first second whole (drop (at + 1) pattern))
    whole-pattern within =
        let front = filled first second whole (take at pattern) in
        ap (filled first second whole) (sym (take-append-drop at pattern) ∙ ap (λ t. take at pattern ++ t) (drop_more pattern at 0 within))
        ∙ filled-append (take at pattern) (get_or pattern at 0 ∷ drop (at + 1) pattern)
        ∙ ap (λ t. front ++ t) (filled-append (get_or pattern at 0 ∷ []) (drop (at + 1) pattern) ∙ ap (λ t. t ++ filled first second whole (drop (at + 1) pattern)) (filled-one (get_or pattern at 0)))

    pub filled-stops : at < length pattern → ((others : List ℕ) → rest ≢ bit first second whole (get_or pattern at 0) ++ others) → false ≡ pointwise nat_eq text (filled first second whole pattern)
    filled-stops within other =
        sym (false-from (pointwise nat_eq text (filled first second whole pattern)) (λ same.
        other (filled first second whole (drop (at + 1) pattern))
        (append_cancel_left (filled first second whole (take at pattern)) rest _
        (sym so_far ∙ (bytes_eq-Decides text (filled first second whole pattern)).0 same ∙ whole-pattern within))))

    ends : length pattern ≤ at → (length rest ≡ 0 → pointwise nat_eq text (filled first second whole pattern) ≡ true) × ((length rest ≡ 0 → ⊥) → pointwise nat_eq text (filled first second whole pattern) ≡ false)
    ends past =
        let all : text ≡ filled first second whole pattern ++ rest = so_far ∙ ap (λ p. filled first second whole p ++ rest) (take_all at pattern past) in (
          (λ none. (bytes_eq-Decides text (filled first second whole pattern)).1 (all ∙ ap (λ t. filled first second whole pattern ++ t) (nil_from_length rest none) ∙ append-nil (filled first second whole pattern))),
          λ some. false-from (pointwise nat_eq text (filled first second whole pattern)) (λ same.
              some (omega (arith, ap length all, ap length ((bytes_eq-Decides text (filled first second whole pattern)).0 same), length-append (filled first second whole pattern) rest))),
        )

    -- the comparison after the whole pattern
    pub filled-ends : length pattern ≤ at → (length rest == 0) ≡ pointwise nat_eq text (filled first second whole pattern)
    filled-ends past = elim (cases_eq (length rest) 0) [
      | inl none ↦ eq-eqb (length rest) 0 none ∙ sym ((ends past).0 none)
      | inr some ↦ ne_eqb (length rest) 0 some ∙ sym ((ends past).1 some)
    ]
