-- In the part of a text searched so far, no name of `std` becomes shorter.
use Rattle.short_names.proofs.Basics.{◌≡◌, ◌<◌, ◌≤◌, ◌+◌, inl, inr, refl, sym, ap, ◌∙◌, subst, ℕ, arith, true, false, List, ◌++◌, length, drop, length-drop, codes, true≢false, cases_order, Change, IsChange, is_nothing, IsPlain, behind_run, is_name_byte, is_letter, run_of, begins_std, is_std_at}
use Rattle.std.proofs.lemmas.List.{length-take, take-append-drop}
use Rattle.short_names.specs.declared.names.Change.TheVariants as changes
use Rattle.short_names.proofs.SignLemmas.{begun}
use Rattle.short_names.proofs.OutsideLemmas.{begins-at}

-- if a text begins with `std::`, so does its first run
pub begins-run : (text : List ℕ) → begins_std text ≡ true → begins_std (run_of text) ≡ true
unfolding run_of is_name_byte is_letter
begins-run text h =
    let split : text ≡ codes "std::" ++ drop 5 text = sym (take-append-drop 5 text) ∙ ap (λ t. t ++ drop 5 text) (begun text (codes "std::") h) in
    let front : begins_std (run_of (codes "std::" ++ drop 5 text)) ≡ true = refl in
    ap (λ t. begins_std (run_of t)) split ∙ front

pub std-fits : (text : List ℕ) (at : ℕ) → is_std_at text at ≡ true → at < length text
std-fits text at h = omega (arith, ap length (begun (drop at text) (codes "std::") (begins-at text at h)), length-take 5 (drop at text), length-drop at text)

nothing_is : (run rest : List ℕ) (change : Change) → is_nothing change ≡ true → IsChange run rest change → IsChange run rest changes.Nothing
nothing_is run rest changes.Nothing e h = h
nothing_is run rest (changes.List whole row) e h = absurd (true≢false (sym e))
nothing_is run rest (changes.Member row size) e h = absurd (true≢false (sym e))

pub plain_more : (text : List ℕ) (at name : ℕ) (change : Change) → IsPlain text at → ((k : ℕ) → at ≤ k → k < name → is_std_at text k ≡ false)
    → IsChange (run_of (drop name text)) (behind_run (drop name text)) change → is_nothing change ≡ true → IsPlain text (name + 1)
plain_more text at name change plain between here nothing k less std = elim (cases_order k name) [
  | inl e ↦ subst (λ n. IsChange (run_of (drop n text)) (behind_run (drop n text)) changes.Nothing) (sym e) (nothing_is _ _ change nothing here)
  | inr other ↦ elim other [
    | inl before ↦ plain_before before
    | inr after ↦ absurd (omega (arith, less, after))
  ]
]
  where
    plain_before : k < name → IsChange (run_of (drop k text)) (behind_run (drop k text)) changes.Nothing
    plain_before before = elim (cases_order k at) [
      | inl e ↦ absurd (true≢false (sym std ∙ between k (omega (arith, e)) before))
      | inr other ↦ elim other [
        | inl h ↦ plain k h std
        | inr h ↦ absurd (true≢false (sym std ∙ between k (omega (arith, h)) before))
      ]
    ]

pub plain_to : (text : List ℕ) (at to : ℕ) → IsPlain text at → ((k : ℕ) → at ≤ k → k < to → is_std_at text k ≡ false) → IsPlain text to
plain_to text at to plain none k less std = elim (cases_order k at) [
  | inl e ↦ absurd (true≢false (sym std ∙ none k (omega (arith, e)) less))
  | inr other ↦ elim other [
    | inl h ↦ plain k h std
    | inr h ↦ absurd (true≢false (sym std ∙ none k (omega (arith, h)) less))
  ]
]
