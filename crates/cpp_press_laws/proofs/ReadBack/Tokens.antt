-- The spellings of names and numbers are tokens of the grammar, and have the values of the numbers.
use Rattle.cpp_press_laws.proofs.Basics.{◌≡◌, ℕ, zero, suc, ◌<◌, ◌≤◌, length, List, [], ◌∷◌, ◌++◌, true, refl, arith, sym, ◌∙◌, append-nil, nat_tests, Decimal, Seq36, Cpp, is_digit_of, digit_value, counted_value, Token, IsName, IsNumberToken, bytes_of, decimal_digit, digit36, Divides, divides10, digits-all, counted-digits, length-form, length-digits, length-value, decimal, counted, ordinal, seq_id, IsSpellableName, greatest}

-- ## Names

abbrev pub name_token : (name : List ℕ) → Token
name_token name = record { before = decimal (length name); own = name; behind = [] }

pub name-spelled : (name : List ℕ) → bytes_of (name_token name) ≡ counted name
unfolding counted
name-spelled name = append-nil (decimal (length name) ++ name)

pub name-is-token : (name : List ℕ) → IsSpellableName name → IsName Cpp (name_token name)
unfolding decimal
name-is-token name good = record {
  digits = decimal (length name);
  separator = [];
  split = sym (append-nil (decimal (length name)));
  length_is = (length-digits (length name), length-form (length name) good.short);
  separated = good.first;
  each = good.each;
  counted = sym (length-value (length name) good.short);
  ends = refl;
}

-- ## Ordinals

abbrev pub ordinal_digits : ℕ → List ℕ
ordinal_digits zero = []
ordinal_digits (suc n) = decimal n

abbrev pub ordinal_token : ℕ → Token
ordinal_token k = record { before = []; own = ordinal_digits k; behind = 95 ∷ [] }

pub ordinal-spelled : (k : ℕ) → bytes_of (ordinal_token k) ≡ ordinal k
unfolding ordinal
ordinal-spelled zero = refl
ordinal-spelled (suc n) = refl

back-decimal : (d : ℕ) → d < 10 → digit_value Decimal (decimal_digit d) ≡ d
back-decimal d less = omega arith

good-decimal : (d : ℕ) → d < 10 → is_digit_of Decimal (decimal_digit d) ≡ true
good-decimal d less = grind (arith, nat_tests)

pub ordinal-is-token : (k : ℕ) → IsNumberToken Decimal (ordinal_token k)
unfolding decimal
ordinal-is-token zero = record { bare = refl; digits = (tt, tt); ends = refl }
ordinal-is-token (suc n) = record {
  bare = refl;
  digits = (
    digits-all 10 divides10 decimal_digit (λ c. is_digit_of Decimal c ≡ true) good-decimal
        40 n,
    tt,
  );
  ends = refl;
}

pub ordinal-value : (k : ℕ) → k ≤ greatest → counted_value Decimal (ordinal_digits k) ≡ k
unfolding decimal
ordinal-value zero small = refl
ordinal-value (suc n) small = counted-digits Decimal 10 refl divides10 decimal_digit back-decimal 39 n (omega (arith, small)) ∙ omega arith

-- ## References

divides36 : Divides 36
divides36 = record { joined = λ n. omega arith; rest = λ n. omega arith; fewer = λ n r less. omega (arith, less) }

back36 : (d : ℕ) → d < 36 → digit_value Seq36 (digit36 d) ≡ d
back36 d less = grind (arith, nat_tests)

good36 : (d : ℕ) → d < 36 → is_digit_of Seq36 (digit36 d) ≡ true
good36 d less = grind (arith, nat_tests)

-- digits with nothing before and after them
abbrev pub digits_token : List ℕ → Token
digits_token digits = record { before = []; own = digits; behind = [] }

abbrev pub seq_token : ℕ → Token
seq_token k = record { before = []; own = seq_id k; behind = 95 ∷ [] }

pub seq-is-token : (k : ℕ) → IsNumberToken Seq36 (seq_token k)
unfolding seq_id
seq-is-token zero = record { bare = refl; digits = (tt, tt); ends = refl }
seq-is-token (suc n) = record {
  bare = refl;
  digits = (digits-all 36 divides36 digit36 (λ c. is_digit_of Seq36 c ≡ true) good36 40 n, tt);
  ends =
      refl;
}

pub seq-value : (k : ℕ) → k ≤ greatest → counted_value Seq36 (seq_id k) ≡ k
unfolding seq_id
seq-value zero small = refl
seq-value (suc n) small = counted-digits Seq36 36 refl divides36 digit36 back36 39 n (omega (arith, small)) ∙ omega arith
