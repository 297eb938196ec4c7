-- Bytes of the symbol, and digits without leading zeros.
use Rattle.cpp_link.proofs.Basics.{◌≡◌, refl, sym, ◌∙◌, ap, arith, ℕ, zero, suc, ◌+◌, ◌-◌, ◌<◌, ◌≤◌, List, [], ◌∷◌, length, take, drop, get_or, true, false, nat_eq, slice_range, normal, is_zero}

taken : (s : List ℕ) (f n : ℕ) → f < length s → take (suc n) (drop f s) ≡ get_or s f 0 ∷ take n (drop (suc f) s)
taken [] f n less = absurd (omega (arith, less))
taken (x ∷ s) zero n less = refl
taken (x ∷ s) (suc f) n less = taken s f n (omega (arith, less))

-- a text that isn't empty begins with the byte at its place
pub first_byte : (s : List ℕ) (f t : ℕ) → f < t → t ≤ length s → slice_range s f t ≡ get_or s f 0 ∷ slice_range s (f + 1) t
first_byte s f t some within =
    let size : t - f ≡ suc (t - suc f) = omega (arith, some) in
    let next : suc f ≡ f + 1 = omega arith in
    ap (λ n. take n (drop f s)) size ∙ taken s f (t - suc f) (omega (arith, some, within)) ∙ ap (λ k. get_or s f 0 ∷ take (t - k) (drop k s)) next

nothing_taken : (n : ℕ) (xs : List ℕ) → n ≡ 0 → take n xs ≡ []
nothing_taken n xs none = rw none refl

pub no_bytes : (s : List ℕ) (f t : ℕ) → t - f ≡ 0 → slice_range s f t ≡ []
no_bytes s f t none = nothing_taken (t - f) (drop f s) none

pub lone_byte : (s : List ℕ) (f t : ℕ) → t - f ≡ 1 → t ≤ length s → slice_range s f t ≡ get_or s f 0 ∷ []
lone_byte s f t one within = first_byte s f t (omega (arith, one)) within ∙ ap (λ xs. get_or s f 0 ∷ xs) (no_bytes s (f + 1) t (omega (arith, one)))

normal_zero : (d e : ℕ) (ds : List ℕ) → nat_eq d 48 ≡ true → normal (d ∷ e ∷ ds) ≡ normal (e ∷ ds)
unfolding normal
normal_zero d e ds zero_is = rw (normal, zero_is) refl

normal_other : (d : ℕ) (ds : List ℕ) → nat_eq d 48 ≡ false → normal (d ∷ ds) ≡ d ∷ ds
unfolding normal
normal_other d [] other = refl
normal_other d (e ∷ ds) other = rw (normal, other) refl

normal_lone : (d : ℕ) → normal (d ∷ []) ≡ d ∷ []
unfolding normal
normal_lone d = refl

normal_none : normal [] ≡ []
unfolding normal
normal_none = refl

-- a zero before other digits is skipped
pub passes_zero : (s : List ℕ) (f t : ℕ) → 1 < t - f → t ≤ length s → nat_eq (get_or s f 0) 48 ≡ true → normal (slice_range s f t) ≡ normal (slice_range s (f + 1) t)
passes_zero s f t more within zero_is =
    let one = first_byte s f t (omega (arith, more)) within in
    let two = first_byte s (f + 1) t (omega (arith, more)) within in
    ap normal (one ∙ ap (λ xs. get_or s f 0 ∷ xs) two) ∙ normal_zero (get_or s f 0) (get_or s (f + 1) 0) (slice_range s (f + 1 + 1) t) zero_is ∙ ap normal (sym two)

-- digits that don't begin with a zero stay
pub stays_digits : (s : List ℕ) (f t : ℕ) → 0 < t - f → t ≤ length s → nat_eq (get_or s f 0) 48 ≡ false → slice_range s f t ≡ normal (slice_range s f t)
stays_digits s f t more within other =
    let one = first_byte s f t (omega (arith, more)) within in
    one ∙ sym (normal_other (get_or s f 0) (slice_range s (f + 1) t) other) ∙ ap normal (sym one)

short : (s : List ℕ) (f t n : ℕ) → t - f ≡ n → n ≤ 1 → t ≤ length s → slice_range s f t ≡ normal (slice_range s f t)
short s f t zero is few within = let none = no_bytes s f t is in none ∙ sym normal_none ∙ ap normal (sym none)
short s f t (suc zero) is few within = let one = lone_byte s f t is within in one ∙ sym (normal_lone (get_or s f 0)) ∙ ap normal (sym one)
short s f t (suc (suc n)) is few within = absurd (omega (arith, few))

-- a text of at most one digit stays
pub stays_short : (s : List ℕ) (f t : ℕ) → t - f ≤ 1 → t ≤ length s → slice_range s f t ≡ normal (slice_range s f t)
stays_short s f t few within = short s f t (t - f) refl few within

sized : (s : List ℕ) (f t n : ℕ) → t - f ≡ n → (n ≡ 1 → ⊥) → t ≤ length s → is_zero (slice_range s f t) ≡ false
unfolding is_zero
sized s f t zero is other within = ap is_zero (no_bytes s f t is)
sized s f t (suc zero) is other within = absurd (other refl)
sized s f t (suc (suc n)) is other within =
    ap is_zero (first_byte s f t (omega (arith, is)) within ∙ ap (λ xs. get_or s f 0 ∷ xs) (first_byte s (f + 1) t (omega (arith, is)) within))

pub no_zero : (s : List ℕ) (f t : ℕ) → (t - f ≡ 1 → ⊥) → t ≤ length s → is_zero (slice_range s f t) ≡ false
no_zero s f t other within = sized s f t (t - f) refl other within

pub lone_zero : (s : List ℕ) (f t : ℕ) → t - f ≡ 1 → t ≤ length s → is_zero (slice_range s f t) ≡ nat_eq (get_or s f 0) 48
unfolding is_zero
lone_zero s f t one within = ap is_zero (lone_byte s f t one within)
