-- Numbers and names are pressed in no more bytes than the tokens that they are read from, except for a zero in base 16.
use Rattle.rust_press.proofs.Basics.{◌≡◌, ℕ, zero, suc, ◌+◌, ◌*◌, ◌/◌, ◌%◌, ◌<◌, ◌≤◌, length, List, [], ◌∷◌, ◌++◌, Bool, true, false, refl, ap, arith, sym, subst, length-append, ◌==◌, ◌||◌, if◌then◌else◌, digit_glyph, eqb-false, eqb-true, nat_tests, NumberKind, Base62, Hex, Length, Rust, AreDigits, AreDigitsOf, is_digit_of, is_decimal_digit, radix_of, digit_value, value_onto, value_of, Token, IsName, IsSeparator, bytes_of, hexadecimal, hexadecimal_before, value62, value16, digits_in, decimal_digit, digit62, most_of, Divides, digits-count, divides10, digits62, digits16, separator}
use Rattle.std.proofs.Math.Nat.{mul_assoc, mul-le-mul_right}
use Rattle.rust_press.proofs.PressNumbers.{divides62}
use Rattle.rust_press.proofs.PressReadTrees as read

-- n digits denote less than the base to the power of n
value-below : (kind : NumberKind) → ((d : ℕ) → is_digit_of kind d ≡ true → digit_value kind d < radix_of kind)
    → (v w : ℕ) (ds : List ℕ) → v < w → AreDigits kind ds → value_onto kind v ds < w * most_of (radix_of kind) (length ds)
value-below kind each v w [] low are = omega (arith, low)
value-below kind each v w (d ∷ ds) low are =
    let r : ℕ = radix_of kind in
    let next : v * r + digit_value kind d < w * r = omega (arith, each d are.0, mul-le-mul_right r low) in
    subst (λ m. value_onto kind (v * r + digit_value kind d) ds < m) (mul_assoc w r (most_of r (length ds))) (value-below kind each (v * r + digit_value kind d) (w * r) ds next are.1)

-- ## Numbers

pub number62-short : (ds : List ℕ) → AreDigitsOf Base62 ds → length (digits62 (value62 ds)) ≤ length ds
number62-short [] are = omega arith
number62-short (d ∷ ds) are =
    let m : ℕ = value_of Base62 (d ∷ ds) in
    let below : m < most_of 62 (suc (length ds)) = omega (arith, value-below Base62 (λ c is. omega (arith, read.digit62 c is)) 0 1 (d ∷ ds) (omega arith) are.0) in
    let next : m + 1 ≡ suc m = omega arith in
    subst (λ n. length (digits62 n) ≤ length (d ∷ ds)) (sym next) (digits-count 62 divides62 digit62 40 (length ds) m below)

divides16 : Divides 16
divides16 = record { joined = λ n. omega arith; rest = λ n. omega arith; fewer = λ n r less. omega (arith, less) }

before-short : (fuel n : ℕ) (later : List ℕ) (k : ℕ) → n < most_of 16 k → length (hexadecimal_before fuel n later) ≤ k + length later
unfolding hexadecimal_before
before-short zero n later k low = omega arith
before-short (suc fuel) n later zero low = go (n == 0) refl
  where
    go : (b : Bool) → (n == 0) ≡ b → length {A = ℕ} (elim b as (λ _. List ℕ) [ true ↦ later | false ↦ hexadecimal_before fuel (n / 16) (digit_glyph false (n % 16) ∷ later) ]) ≤ 0 + length later
    go true none = omega arith
    go false some = absurd (eqb-false n 0 some (omega (arith, low)))
before-short (suc fuel) n later (suc k) low =
    go (n == 0) (before-short fuel (n / 16) (digit_glyph false (n % 16) ∷ later) k (divides16.fewer n (most_of 16 k) low))
  where
    go : (b : Bool) → length (hexadecimal_before fuel (n / 16) (digit_glyph false (n % 16) ∷ later)) ≤ k + suc (length later)
        → length {A = ℕ} (elim b as (λ _. List ℕ) [ true ↦ later | false ↦ hexadecimal_before fuel (n / 16) (digit_glyph false (n % 16) ∷ later) ]) ≤ suc k + length later
    go true more = omega arith
    go false more = omega (arith, more)

digits16-short : (n k : ℕ) → n < most_of 16 k → length (digits16 n) ≤ k + 1
unfolding hexadecimal
digits16-short zero k low = omega arith
digits16-short (suc n) k low = omega (arith, before-short (suc n) (suc n) [] k low)

hex-digit : (d : ℕ) → is_digit_of Hex d ≡ true → digit_value Hex d < 16
hex-digit d h = grind (arith, nat_tests)

pub number16-short : (ds : List ℕ) → AreDigits Hex ds → length (digits16 (value16 ds)) ≤ length ds + 1
number16-short ds are = digits16-short (value16 ds) (length ds) (omega (arith, value-below Hex hex-digit 0 1 ds (omega arith) are))

-- ## Names

decimal-short : (ds : List ℕ) → AreDigitsOf Length ds → length (digits_in 10 decimal_digit 40 (value_of Length ds)) ≤ length ds
decimal-short [] are = absurd are.1
decimal-short (d ∷ ds) are =
    digits-count 10 divides10 decimal_digit 40 (length ds) (value_of Length (d ∷ ds))
    (omega (arith, value-below Length (λ c is. omega (arith, read.digit10 c is)) 0 1 (d ∷ ds) (omega arith) are.0))

separator-short : (between own : List ℕ) → IsSeparator Rust between own → length (separator own) ≤ length between
separator-short between [] is = omega arith
separator-short [] (b ∷ own) is = go (is_decimal_digit b) (b == 95) is.0 refl
  where
    go : (digit mark : Bool) → digit ≡ false → (b == 95) ≡ mark → length {A = ℕ} (if digit || mark then 95 ∷ [] else []) ≤ 0
    go true mark no-digit same = cc
    go false true no-digit same = absurd (is.1 (eqb-true b 95 same))
    go false false no-digit same = omega arith
separator-short (c ∷ between) (b ∷ own) is = go (is_decimal_digit b || (b == 95))
  where
    go : (t : Bool) → length {A = ℕ} (if t then 95 ∷ [] else []) ≤ suc (length between)
    go true = omega arith
    go false = omega arith

pub name-short : (t : Token) → IsName Rust t → length (digits_in 10 decimal_digit 40 (length t.own) ++ separator t.own ++ t.own) ≤ length (bytes_of t)
name-short t is =
    let count : length (digits_in 10 decimal_digit 40 (length t.own)) ≤ length is.digits =
    subst (λ n. length (digits_in 10 decimal_digit 40 n) ≤ length is.digits) (sym is.counted) (decimal-short is.digits is.length_is) in
    omega (
      arith,
      count,
      separator-short is.separator t.own is.separated,
      length-append (digits_in 10 decimal_digit 40 (length t.own) ++ separator t.own) t.own,
      length-append (digits_in 10 decimal_digit 40 (length t.own)) (separator t.own),
      length-append (t.before ++ t.own) t.behind,
      length-append t.before t.own,
      length-append is.digits is.separator,
      ap (λ l. length l) is.split,
    )
