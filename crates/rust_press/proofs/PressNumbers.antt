-- The spellings of numbers are those of the grammar, and have the values of the numbers.
use Rattle.rust_press.proofs.Basics.{◌≡◌, ℕ, zero, suc, ◌+◌, ◌/◌, ◌%◌, ◌<◌, ◌≤◌, length, List, [], ◌∷◌, ◌++◌, Bool, true, false, refl, ap, arith, sym, ◌∙◌, ◌==◌, ◌||◌, if◌then◌else◌, digit_glyph, eqb-false, nat_tests, Base62, Hex, Rust, AreDigits, AreDigitsOf, is_digit_of, is_decimal_digit, digit_value, value_of, IsName, IsSeparator, AreNameBytes, hexadecimal, hexadecimal_before, value62, value16, most62, digits_in, decimal_digit, digit62, Divides, digits-value, digits-all, digits-count, digits-some, length-form, length-digits, length-value, digits62, digits16, separator}
use Rattle.rust_tree.proofs.Numerals.{value-hexadecimal}

-- ## Base 62

pub divides62 : Divides 62
divides62 = record { joined = λ n. omega arith; rest = λ n. omega arith; fewer = λ n r less. omega (arith, less) }

back62 : (d : ℕ) → d < 62 → digit_value Base62 (digit62 d) ≡ d
back62 d less = grind (arith, nat_tests)

good62 : (d : ℕ) → d < 62 → is_digit_of Base62 (digit62 d) ≡ true
good62 d less = grind (arith, nat_tests)

counted-some : (ds : List ℕ) → 0 < length ds → value62 ds ≡ value_of Base62 ds + 1
counted-some [] some = absurd (omega (arith, some))
counted-some (c ∷ cs) some = refl

pub spells62 : (n : ℕ) → n ≤ most62 → AreDigitsOf Base62 (digits62 n) × (value62 (digits62 n) ≡ n)
spells62 zero small = ((tt, omega arith), refl)
spells62 (suc n) small =
    let ds : List ℕ = digits_in 62 digit62 40 n in (
      (digits-all 62 divides62 digit62 (λ c. is_digit_of Base62 c ≡ true) good62 40 n, digits-count 62 divides62 digit62 40 10 n (omega (arith, small))),
      counted-some ds (digits-some 62 digit62 39 n)
          ∙ ap (λ v. v + 1) (digits-value Base62 62 refl divides62 digit62 back62 40 n (omega (arith, small)))
          ∙ omega arith,
    )

-- ## Base 16

glyph-digit : (d : ℕ) → d < 16 → is_digit_of Hex (digit_glyph false d) ≡ true
glyph-digit d less = grind (arith, nat_tests)

hex-before : (k n : ℕ) (later : List ℕ) → AreDigits Hex later → AreDigits Hex (hexadecimal_before k n later)
unfolding hexadecimal_before
hex-before zero n later are = are
hex-before (suc k) n later are = go (n == 0) (hex-before k (n / 16) (digit_glyph false (n % 16) ∷ later) (glyph-digit (n % 16) (omega arith), are))
  where
    go : (b : Bool) → AreDigits Hex (hexadecimal_before k (n / 16) (digit_glyph false (n % 16) ∷ later)) → AreDigits Hex (elim b as (λ _. List ℕ) [ true ↦ later | false ↦ hexadecimal_before k (n / 16) (digit_glyph false (n % 16) ∷ later) ])
    go true more = are
    go false more = more

hex-digits : (n : ℕ) → AreDigits Hex (hexadecimal n)
unfolding hexadecimal
hex-digits n = hex-before n n [] tt

pub spells16 : (n : ℕ) → AreDigitsOf Hex (digits16 n) × (value16 (digits16 n) ≡ n)
spells16 zero = (((refl, tt), tt), refl)
spells16 (suc n) = ((hex-digits (suc n), tt), value-hexadecimal (suc n))

-- ## Names

is-separator : (own : List ℕ) → IsSeparator Rust (separator own) own
is-separator [] = tt
is-separator (c ∷ cs) = go (is_decimal_digit c) refl (c == 95) refl
  where
    go : (b : Bool) → is_decimal_digit c ≡ b → (d : Bool) → (c == 95) ≡ d → IsSeparator Rust (if b || d then 95 ∷ [] else []) (c ∷ cs)
    go true digit d same = refl
    go false digit true same = refl
    go false digit false same = (digit, eqb-false c 95 same)

pub spells-name : (own : List ℕ) → AreNameBytes Rust own → length own ≤ 999999999
    → IsName Rust (record { before = digits_in 10 decimal_digit 40 (length own) ++ separator own; own = own; behind = [] })
spells-name own are short = record {
  digits = digits_in 10 decimal_digit 40 (length own);
  separator = separator own;
  split = refl;
  length_is = (length-digits (length own), length-form (length own) short);
  separated = is-separator own;
  each = are;
  counted = sym (length-value (length own) short);
  ends = refl;
}
