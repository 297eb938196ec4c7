-- Digits that are written from the last one on.
use Rattle.rust_tree.proofs.Basics.{◌≡◌, ℕ, zero, suc, ◌+◌, ◌-◌, ◌*◌, ◌/◌, ◌%◌, ◌<◌, ◌≤◌, List, [], ◌∷◌, length, take, drop, slice_set, false, refl, sym, ap, ◌∙◌, arith, digits_onto, digit_glyph, ne_eqb, reach}

drop-set : (list : List ℕ) (m g : ℕ) → m < length list → drop m (slice_set list m g) ≡ g ∷ drop (m + 1) list
drop-set [] m g h = absurd (omega arith)
drop-set (x ∷ xs) zero g h = refl
drop-set (x ∷ xs) (suc m) g h =
    let one : suc m + 1 ≡ suc (m + 1) = omega arith in
    drop-set xs m g (omega arith) ∙ ap (λ n. g ∷ drop n (x ∷ xs)) (sym one)

digits-more : (k rest : ℕ) (acc : List ℕ) → 16 ≤ rest → digits_onto (suc k) 16 false rest acc ≡ digits_onto k 16 false (rest / 16) (digit_glyph false (rest % 16) ∷ acc)
digits-more k rest acc h = rw (ne_eqb (rest / 16) 0 (λ e. omega (arith, e, h))) refl

digits-last : (k rest : ℕ) (acc : List ℕ) → rest < 16 → digits_onto (suc k) 16 false rest acc ≡ digit_glyph false rest ∷ acc
digits-last k rest acc h = let none : rest / 16 ≡ 0 = omega (arith, h) in let all : rest % 16 ≡ rest = omega (arith, h) in rw (none, all) refl

pub some-left : (from rest : ℕ) → 0 < rest → rest < reach from → 0 < from
some-left zero rest some h = absurd (omega (arith, some, h))
some-left (suc m) rest some h = omega arith

sixteenth : (r x : ℕ) → r < 16 * x → r / 16 < x
sixteenth r x h = omega (arith, h)

pub reach-less : (from rest : ℕ) → 16 ≤ rest → rest < reach from → rest / 16 < reach (from - 1)
reach-less zero rest big h = absurd (omega (arith, big, h))
reach-less (suc m) rest big h = let one : suc m - 1 ≡ m = omega arith in rw one (sixteenth rest (reach m) h)

pub digit-kept : (list : List ℕ) (from rest g : ℕ) (whole : List ℕ) → from ≤ length list → 0 < from → 16 ≤ rest → g ≡ digit_glyph false (rest % 16)
    → digits_onto (56 + from) 16 false rest (drop from list) ≡ whole
    → digits_onto (56 + (from - 1)) 16 false (rest / 16) (drop (from - 1) (slice_set list (from - 1) g)) ≡ whole
digit-kept list zero rest g whole within some big e h = absurd (omega arith)
digit-kept list (suc m) rest g whole within some big e h =
    let one : suc m - 1 ≡ m = omega arith in
    let next : m + 1 ≡ suc m = omega arith in
    let count : 56 + suc m ≡ suc (56 + m) = omega arith in
    rw one (
    ap (digits_onto (56 + m) 16 false (rest / 16)) (drop-set list m g (omega (arith, within)) ∙ ap (λ n. g ∷ drop n list) next ∙ ap (λ d. d ∷ drop (suc m) list) e)
    ∙ sym (digits-more (56 + m) rest (drop (suc m) list) big) ∙ ap (λ k. digits_onto k 16 false rest (drop (suc m) list)) (sym count) ∙ h
    )

pub digit-written : (list : List ℕ) (from rest g : ℕ) (whole : List ℕ) → from ≤ length list → 0 < from → rest < 16 → g ≡ digit_glyph false rest
    → digits_onto (56 + from) 16 false rest (drop from list) ≡ whole → drop (from - 1) (slice_set list (from - 1) g) ≡ whole
digit-written list zero rest g whole within some small e h = absurd (omega arith)
digit-written list (suc m) rest g whole within some small e h =
    let one : suc m - 1 ≡ m = omega arith in
    let next : m + 1 ≡ suc m = omega arith in
    let count : 56 + suc m ≡ suc (56 + m) = omega arith in
    rw one (
    drop-set list m g (omega (arith, within)) ∙ ap (λ n. g ∷ drop n list) next ∙ ap (λ d. d ∷ drop (suc m) list) e
    ∙ sym (digits-last (56 + m) rest (drop (suc m) list) small) ∙ ap (λ k. digits_onto k 16 false rest (drop (suc m) list)) (sym count) ∙ h
    )

pub drop-all : (n : ℕ) (list : List ℕ) → length list ≤ n → drop n list ≡ []
drop-all zero [] h = refl
drop-all zero (x ∷ xs) h = absurd (omega arith)
drop-all (suc n) [] h = refl
drop-all (suc n) (x ∷ xs) h = drop-all n xs (omega arith)

pub take-all : (n : ℕ) (list : List ℕ) → length list ≤ n → take n list ≡ list
take-all zero [] h = refl
take-all zero (x ∷ xs) h = absurd (omega arith)
take-all (suc n) [] h = refl
take-all (suc n) (x ∷ xs) h = ap (λ r. x ∷ r) (take-all n xs (omega arith))
