-- The bytes of a text that begins with another text.
use Rattle.std.proofs.Common.{◌≡◌, ◌<◌, ◌≤◌, ◌-◌, ℕ, Bool, true, false, List, ◌++◌, length, take, drop, get_or, nat_eq, refl, ap, ◌∙◌, arith, length-append, length-drop, append_assoc, take_all, get_or-drop, add-zero}
use Rattle.short_names.proofs.Basics.{starts_with, starts_is, Decides-eqb, get_or_append_left}

pub false-from : (b : Bool) → (b ≡ true → ⊥) → b ≡ false
false-from true f = absurd (f refl)
false-from false f = refl

pub front-is : (s p : List ℕ) → starts_with nat_eq s p ≡ true → s ≡ p ++ drop (length p) s
front-is s p h = (starts_is Decides-eqb s p (starts_with nat_eq s p) refl).0 h

pub begins : (s p rest : List ℕ) → s ≡ p ++ rest → starts_with nat_eq s p ≡ true
begins s p rest e = (starts_is Decides-eqb s p (starts_with nat_eq s p) refl).1 rest e

pub front-length : (s p : List ℕ) → starts_with nat_eq s p ≡ true → length p ≤ length s
front-length s p h = omega (arith, ap length (front-is s p h), length-append p (drop (length p) s))

-- a byte of a front
pub front-byte : (s p : List ℕ) (k : ℕ) → starts_with nat_eq s p ≡ true → k < length p → get_or s k 0 ≡ get_or p k 0
front-byte s p k h within = ap (λ t. get_or t k 0) (front-is s p h) ∙ get_or_append_left p (drop (length p) s) 0 k within

pub differs : (s p : List ℕ) (k : ℕ) → k < length p → (get_or s k 0 ≡ get_or p k 0 → ⊥) → starts_with nat_eq s p ≡ false
differs s p k within other = false-from (starts_with nat_eq s p) (λ h. other (front-byte s p k h within))

-- a front of a front
pub front-front : (s p q : List ℕ) → starts_with nat_eq s p ≡ true → starts_with nat_eq p q ≡ true → starts_with nat_eq s q ≡ true
front-front s p q one two =
    begins s q (drop (length q) p ++ drop (length p) s)
    (front-is s p one ∙ ap (λ t. t ++ drop (length p) s) (front-is p q two) ∙ append_assoc q (drop (length q) p) (drop (length p) s))

-- the rest of a text, written as a slice
pub rest-all : (text : List ℕ) (n : ℕ) → take (length text - n) (drop n text) ≡ drop n text
rest-all text n = take_all (length text - n) (drop n text) (omega (arith, length-drop n text))

pub first-dropped : (text : List ℕ) (n : ℕ) → get_or (drop n text) 0 0 ≡ get_or text n 0
first-dropped text n = get_or-drop n text 0 0 ∙ ap (λ k. get_or text k 0) (add-zero n)
