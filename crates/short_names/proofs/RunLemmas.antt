-- The longest run of bytes of names with which a text begins, and where `std::` begins.
use Rattle.std.proofs.Common.{◌≡◌, ◌<◌, ◌≤◌, ◌+◌, ◌⊎◌, inl, inr, refl, sym, ap, ◌∙◌, ℕ, zero, suc, arith, Bool, true, false, true≢false, List, [], ◌∷◌, ◌++◌, length, take, drop, get_or, codes, length-drop, if◌then◌else◌}
use Rattle.short_names.proofs.Basics.{and_parts, and_left, list_all, is_letter, is_name_byte, run_of, begins_std, is_std_at}
use Rattle.short_names.proofs.FrontLemmas.{false-from, front-length}

-- the bytes of names at the front of a text, up to a byte that belongs to no name, are the text's run
pub run-is : (text : List ℕ) (n : ℕ) → n ≤ length text → list_all is_name_byte (take n text) ≡ true
    → (n < length text → is_name_byte (get_or text n 0) ≡ false) → take n text ≡ run_of text
unfolding run_of
run-is [] zero h all other = refl
run-is [] (suc n) h all other = absurd (omega (arith, h))
run-is (byte ∷ text) zero h all other = rw (other (omega arith)) refl
run-is (byte ∷ text) (suc n) h all other =
    let parts = and_parts (is_name_byte byte) (list_all is_name_byte (take n text)) all in
    rw parts.0 (ap (λ rest. byte ∷ rest) (run-is text n (omega (arith, h)) parts.1 (λ less. other (omega (arith, less)))))

-- ## Where runs begin with `std::`

pub lt-or-le : (m n : ℕ) → (m < n) ⊎ (n ≤ m)
lt-or-le zero zero = inr (omega arith)
lt-or-le zero (suc n) = inl (omega arith)
lt-or-le (suc m) zero = inr (omega arith)
lt-or-le (suc m) (suc n) = elim (lt-or-le m n) [ inl h ↦ inl (omega (arith, h)) | inr h ↦ inr (omega (arith, h)) ]

pub std-beyond : (text : List ℕ) (k : ℕ) → length text < k + 5 → is_std_at text k ≡ false
std-beyond text k short =
    and_left (begins_std (drop k text)) _
    (false-from (begins_std (drop k text)) (λ is. absurd (omega (arith, short, front-length (drop k text) (codes "std::") is, length-drop k text))))

pub std-room : (text : List ℕ) (at : ℕ) → is_std_at text at ≡ true → at + 5 ≤ length text
std-room text at is =
    elim (lt-or-le (length text) (at + 5)) [
      | inl short ↦ absurd (true≢false (sym is ∙ std-beyond text at short))
      | inr room ↦ room
    ]

-- if no run begins with `std::` from `from` up to `at`, and none from `at` to `next`, then none does from `from` to
-- `next`
pub no-std-more : (text : List ℕ) (from at next : ℕ) → ((k : ℕ) → from ≤ k → k < at → is_std_at text k ≡ false)
    → ((k : ℕ) → at ≤ k → k < next → begins_std (drop k text) ≡ false) → is_std_at text next ≡ false
    → (k : ℕ) → from ≤ k → k < next + 1 → is_std_at text k ≡ false
no-std-more text from at next front gap here k low high =
    elim (lt-or-le k at) [
      | inl before ↦ front k low before
      | inr behind ↦ elim (lt-or-le k next) [
        | inl within ↦ and_left (begins_std (drop k text)) _ (gap k behind within)
        | inr past ↦ let same : k ≡ next = omega (arith, high, past) in ap (is_std_at text) same ∙ here
      ]
    ]

pub no-std-between : (text : List ℕ) (from at next : ℕ) → ((k : ℕ) → from ≤ k → k < at → is_std_at text k ≡ false)
    → ((k : ℕ) → at ≤ k → k < next → begins_std (drop k text) ≡ false) → (k : ℕ) → from ≤ k → k < next → is_std_at text k ≡ false
no-std-between text from at next front gap k low high =
    elim (lt-or-le k at) [
      | inl before ↦ front k low before
      | inr behind ↦ and_left (begins_std (drop k text)) _ (gap k behind high)
    ]

-- ## Runs

pub run-prefix : (text : List ℕ) → text ≡ run_of text ++ drop (length (run_of text)) text
unfolding run_of
run-prefix [] = refl
run-prefix (byte ∷ text) = by (is_name_byte byte) (run-prefix text)
  where
    by : (b : Bool) → text ≡ run_of text ++ drop (length (run_of text)) text → byte ∷ text ≡ (if b then byte ∷ run_of text else []) ++ drop (length (if b then byte ∷ run_of text else [])) (byte ∷ text)
    by true rest = ap (λ t. byte ∷ t) rest
    by false rest = refl

-- a run ends where a byte belongs to no name, or where the text ends
pub run-stops : (text : List ℕ) → is_name_byte (get_or text (length (run_of text)) 0) ≡ false
unfolding run_of is_name_byte is_letter
run-stops [] = refl
run-stops (byte ∷ text) = by (is_name_byte byte) refl (run-stops text)
  where
    by : (b : Bool) → is_name_byte byte ≡ b → is_name_byte (get_or text (length (run_of text)) 0) ≡ false → is_name_byte (get_or (byte ∷ text) (length (if b then byte ∷ run_of text else [])) 0) ≡ false
    by true is rest = rest
    by false is rest = is

-- after some bytes of a run, the rest of the text begins with the rest of the run
pub run-drop : (text : List ℕ) (k : ℕ) → k ≤ length (run_of text) → run_of (drop k text) ≡ drop k (run_of text)
unfolding run_of
run-drop [] zero within = refl
run-drop [] (suc k) within = refl
run-drop (byte ∷ text) zero within = refl
run-drop (byte ∷ text) (suc k) within = by (is_name_byte byte) refl within (λ h. run-drop text k h)
  where
    by : (b : Bool) → is_name_byte byte ≡ b → suc k ≤ length (if b then byte ∷ run_of text else []) → (k ≤ length (run_of text) → run_of (drop k text) ≡ drop k (run_of text)) → run_of (drop k text) ≡ drop (suc k) (if b then byte ∷ run_of text else [])
    by true is within rest = rest (omega (arith, within))
    by false is within rest = absurd (omega (arith, within))
