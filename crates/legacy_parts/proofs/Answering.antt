-- The length of the text that was written for a legacy name.
use Rattle.legacy_parts.proofs.Basics.{◌≡◌, ℕ, ◌≤◌, List, length, Bool, true, false, Option, Some, None, Result, Ok, Err, refl, ap, sym, ◌∙◌, arith, nat_le, nat_tests, Unshared, cost_of, text_of, Path, legacy_of, legacy_text, shown_path}
use Rattle.sym_core.specs.declared.refusal.Refusal.{Refusal}
use Rattle.sym_core.specs.declared.refusal.Refusal.TheVariants.{TooLong}
use Rattle.sym_print.specs.Answer.{text_within}
use Rattle.sym_print.proofs.Noting.{length_of_text}

some-same : (a b : Result (List ℕ) Refusal) → Some a ≡ Some b → a ≡ b
some-same a b same = cc (same)

ok-same : (a b : List ℕ) → (let one : Result (List ℕ) Refusal = Ok a in let other : Result (List ℕ) Refusal = Ok b in one ≡ other) → a ≡ b
ok-same a b same = cc (same)

-- the answer to a path, if there is one
abbrev answer_to : (limit : ℕ) → Option Path → Option (Result (List ℕ) Refusal)
answer_to limit found = elim found [ Some path ↦ Some (text_within limit (shown_path path)) | None ↦ None ]

-- the answer to a legacy name is the text of its path, within the limit
within-shown : (limit : ℕ) (s : List ℕ) (path : Path) (r : Result (List ℕ) Refusal) → legacy_of s ≡ Some path → legacy_text limit s ≡ Some r → text_within limit (shown_path path) ≡ r
within-shown limit s path r is same = some-same (text_within limit (shown_path path)) r (sym (ap (answer_to limit) is) ∙ same)

-- a text within the limit is all that is printed, at a cost of at most the limit
within-limit : (limit : ℕ) (u : Unshared) (text : List ℕ) → text_within limit u ≡ Ok text → (text ≡ text_of u) × (cost_of u ≤ limit)
within-limit limit u text is = by (nat_le (cost_of u) limit) refl is
  where
    by : (b : Bool) → nat_le (cost_of u) limit ≡ b → (elim b as (λ x. Result (List ℕ) Refusal) [ true ↦ Ok (text_of u) | false ↦ Err TooLong ]) ≡ Ok text → (text ≡ text_of u) × (cost_of u ≤ limit)
    by true e same = (sym (ok-same (text_of u) text same), grind (arith, nat_tests, e))
    by false e same = absurd (cc (same))

-- the text of a legacy name is no longer than the limit
pub short-written : (limit : ℕ) (s text shown : List ℕ) (path : Path) → legacy_of s ≡ Some path → legacy_text limit s ≡ Some (Ok text) → shown ≡ text → length shown ≤ limit
short-written limit s text shown path found is same =
    let within = within-limit limit (shown_path path) text (within-shown limit s path (Ok text) found is) in
    omega (arith, ap length same, ap length within.0, within.1, length_of_text (shown_path path))
