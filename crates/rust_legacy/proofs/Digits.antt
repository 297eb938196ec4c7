-- The digits at the front of bytes.
use Rattle.std.proofs.Common.{◌≡◌, ℕ, ◌+◌, ◌-◌, List, [], ◌∷◌, length, take, drop, true, false, cond, refl, one-add}
use Rattle.std.specs.List.{prefix_len}
use Rattle.std.proofs.lemmas.List.{take_rest}
use Rattle.sym_core.specs.Number.{AreDigits, is_digit_of}
use Rattle.sym_core.specs.declared.NumberKind.{NumberKind}

-- all bytes after the first n
pub rest_whole : (bytes : List ℕ) (n : ℕ) → take (length bytes - n) (drop n bytes) ≡ drop n bytes
rest_whole bytes n = take_rest bytes n

-- the longest front of digits has only digits
pub digits-front : (kind : NumberKind) (xs : List ℕ) → AreDigits kind (take (prefix_len (is_digit_of kind) xs) xs)
digits-front kind [] = tt
digits-front kind (x ∷ xs) =
    elim (is_digit_of kind x) as (λ v. is_digit_of kind x ≡ v → AreDigits kind (take (cond v (1 + prefix_len (is_digit_of kind) xs) 0) (x ∷ xs)))
    [ true ↦ λ is. rw one-add (is, digits-front kind xs) | false ↦ λ _. tt ] refl
