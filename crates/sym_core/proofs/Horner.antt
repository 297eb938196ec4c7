-- Numbers read digit by digit.
use Rattle.sym_core.proofs.Basics.{◌≡◌, ℕ, zero, suc, ◌+◌, ◌*◌, ◌^◌, ◌<◌, ◌≤◌, List, [], ◌∷◌, ◌++◌, ◌-◌, length, take, drop, refl, sym, ap, ◌∙◌, arith, get_or, true, pow-zero, pow-suc, mul_assoc, mul_comm, mul-le-mul_right, drop-cons, take_more, length-drop, get_or-drop, nat_tests, is_digit_of, is_decimal_digit, AreDigits, radix_of, digit_value, value_onto, value_of, NumberKind, Length, Decimal, Seq36, Base62, Hex, Digits}
use Rattle.std.proofs.lemmas.Fmt.{length-decimal-le, length-decimal-le_wide}
use Rattle.std.specs.Fmt.{decimal}
use Rattle.std.proofs.lemmas.List.Elements.{All-from_recursion}

grows : (kind : NumberKind) (v x : ℕ) → v ≤ v * radix_of kind + x
grows Length v x = omega arith
grows Decimal v x = omega arith
grows Seq36 v x = omega arith
grows Base62 v x = omega arith
grows Hex v x = omega arith
grows Digits v x = omega arith

-- more digits never make a number smaller
pub value_onto-le : (kind : NumberKind) (v : ℕ) (ds : List ℕ) → v ≤ value_onto kind v ds
value_onto-le kind v [] = omega arith
value_onto-le kind v (d ∷ ds) = omega (arith, grows kind v (digit_value kind d), value_onto-le kind (v * radix_of kind + digit_value kind d) ds)

-- one digit more
pub value_onto-next : (kind : NumberKind) (v i : ℕ) (ds : List ℕ) → i < length ds
    → value_onto kind (v * radix_of kind + digit_value kind (get_or ds i 0)) (drop (i + 1) ds) ≡ value_onto kind v (drop i ds)
value_onto-next kind v i ds h =
    let one : i + 1 ≡ suc i = omega arith in
    ap (λ k. value_onto kind (v * radix_of kind + digit_value kind (get_or ds i 0)) (drop k ds)) one
    ∙ ap (value_onto kind v) (sym (drop-cons ds i 0 h))

-- a front that is too large makes the number too large
pub too_large : (kind : NumberKind) (v i most : ℕ) (ds : List ℕ) → i < length ds → value_onto kind v (drop i ds) ≡ value_of kind ds
    → most ≤ v * radix_of kind + digit_value kind (get_or ds i 0) → most ≤ value_of kind ds
too_large kind v i most ds h same large =
    omega (arith, value_onto-next kind v i ds h, value_onto-le kind (v * radix_of kind + digit_value kind (get_or ds i 0)) (drop (i + 1) ds))

-- digits after others
value_onto-append : (kind : NumberKind) (v : ℕ) (xs ys : List ℕ) → value_onto kind v (xs ++ ys) ≡ value_onto kind (value_onto kind v xs) ys
value_onto-append kind v [] ys = refl
value_onto-append kind v (x ∷ xs) ys = value_onto-append kind (v * radix_of kind + digit_value kind x) xs ys

-- one more digit after those of a front
pub value_of-more : (kind : NumberKind) (ds : List ℕ) (i : ℕ) → i < length ds → value_of kind (take (i + 1) ds) ≡ value_of kind (take i ds) * radix_of kind + digit_value kind (get_or ds i 0)
value_of-more kind ds i lt = ap (value_of kind) (take_more ds i 0 lt) ∙ value_onto-append kind 0 (take i ds) (get_or ds i 0 ∷ [])

-- the value of the digits up to a place, with one digit more
pub value_of-next : (kind : NumberKind) (s : List ℕ) (at end : ℕ) → at ≤ end → end < length s → value_of kind (take (end + 1 - at) (drop at s)) ≡ value_of kind (take (end - at) (drop at s)) * radix_of kind + digit_value kind (get_or s end 0)
value_of-next kind s at end le lt =
    let one : end + 1 - at ≡ end - at + 1 = omega arith in
    let here : at + (end - at) ≡ end = omega arith in
    ap (λ n. value_of kind (take n (drop at s))) one
    ∙ value_of-more kind (drop at s) (end - at) (omega (arith, length-drop at s))
    ∙ ap (λ d. value_of kind (take (end - at) (drop at s)) * radix_of kind + digit_value kind d) (get_or-drop at s (end - at) 0 ∙ ap (λ n. get_or s n 0) here)

pub decimal_small : (b : ℕ) → is_decimal_digit b ≡ true → (48 ≤ b) × (b ≤ 57)
decimal_small b h = grind (arith, nat_tests)

-- one more decimal digit
pub ten_more : (v d n m : ℕ) → v < 10 ^ n → d ≤ 9 → m ≡ n + 1 → v * 10 + d < 10 ^ m
ten_more v d n m below small is =
    let one : 10 ^ m ≡ 10 ^ n * 10 = ap (λ k. 10 ^ k) (is ∙ omega arith) ∙ pow-suc 10 n in
    omega (arith, below, one)

pub digit_at : (kind : NumberKind) (ds : List ℕ) (i : ℕ) → AreDigits kind ds → i < length ds → is_digit_of kind (get_or ds i 0) ≡ true
digit_at kind ds i are h = All-from_recursion (λ b. is_digit_of kind b ≡ true) ds are i 0 h

hex-digit-small : (b : ℕ) → is_digit_of Hex b ≡ true → digit_value Hex b < 16
hex-digit-small b h = grind (arith, nat_tests)

-- the digits of a Hex number denote less than 16 to the power of their count
pub hex-below : (v : ℕ) (ds : List ℕ) → AreDigits Hex ds → value_onto Hex v ds < (v + 1) * 16 ^ length ds
hex-below v [] are = rw (pow-zero 16) (omega arith)
hex-below v (d ∷ ds) are =
    let small = hex-digit-small d are.0 in
    let later = hex-below (v * 16 + digit_value Hex d) ds are.1 in
    let one : (v * 16 + digit_value Hex d + 1) * 16 ^ length ds ≤ (v + 1) * 16 * 16 ^ length ds = mul-le-mul_right (16 ^ length ds) (omega (arith, small)) in
    let same : (v + 1) * 16 * 16 ^ length ds ≡ (v + 1) * 16 ^ suc (length ds) = mul_assoc (v + 1) 16 (16 ^ length ds) ∙ ap (λ p. (v + 1) * p) (mul_comm 16 (16 ^ length ds) ∙ sym (pow-suc 16 (length ds))) in
    omega (arith, later, one, same)

hundreds : (n : ℕ) → 16 ^ n ≤ 10 ^ (2 * n)
hundreds zero = omega arith
hundreds (suc n) =
    let before = hundreds n in
    let wide : 10 ^ (2 * suc n) ≡ 10 ^ (2 * n) * 10 * 10 = ap (λ k. 10 ^ k) (omega arith) ∙ pow-suc 10 (suc (2 * n)) ∙ ap (λ p. p * 10) (pow-suc 10 (2 * n)) in
    omega (arith, before, wide, pow-suc 16 n)

-- the decimal of a Hex number has at most two bytes for each digit, or the one byte of 0
pub hex-decimal-few : (ds : List ℕ) → AreDigits Hex ds → value_of Hex ds < 2 ^ 128 → length (decimal (value_of Hex ds)) ≤ 2 * length ds + 1
hex-decimal-few [] are wide = length-decimal-le 1 0 (omega arith) (omega arith) (omega arith)
hex-decimal-few (d ∷ ds) are wide =
    let below : value_of Hex (d ∷ ds) < 10 ^ (2 * length (d ∷ ds)) = omega (arith, hex-below 0 (d ∷ ds) are, hundreds (length (d ∷ ds))) in
    let few = length-decimal-le_wide (2 * length (d ∷ ds)) (value_of Hex (d ∷ ds)) (omega arith) below (omega (arith, wide)) in
    omega (arith, few)
