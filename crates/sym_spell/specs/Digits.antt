-- The digits of numbers, and how they are written, the last one first.
use Rattle.std.specs.Prelude.{◌≡◌, ℕ, zero, suc, ◌+◌, ◌*◌, ◌/◌, ◌%◌, ◌<◌, ◌≤◌, ◌⊎◌, List, [], ◌∷◌, ◌++◌, length, drop, true, false, if◌then◌else◌, ◌==◌, nat_lt}

-- the digits of the number `n` in a base, `most` digits at most, without zeros in front
abbrev pub digits_in : (base : ℕ) → (digit : ℕ → ℕ) → (most n : ℕ) → List ℕ
digits_in base digit zero n = []
digits_in base digit (suc most) n =
    elim (nat_lt n base) [ true ↦ digit n ∷ [] | false ↦ digits_in base digit most (n / base) ++ digit (n % base) ∷ [] ]

abbrev pub decimal_digit : ℕ → ℕ
decimal_digit d = 48 + d

-- the digits 0 to 9, a to z, A to Z
abbrev pub digit62 : ℕ → ℕ
digit62 d = if nat_lt d 10 then 48 + d else (if nat_lt d 36 then 87 + d else 29 + d)

-- the digits 0 to 9, A to Z
abbrev pub digit36 : ℕ → ℕ
digit36 d = if nat_lt d 10 then 48 + d else 55 + d

-- the digit of a value: after 9 come capital letters in base 36, and small letters in other bases
abbrev pub digit_in : (base : ℕ) → ℕ → ℕ
digit_in base d = if base == 36 then digit36 d else digit62 d

-- how many numbers can be written with `count` digits
abbrev pub most_of : (base count : ℕ) → ℕ
most_of base zero = 1
most_of base (suc k) = base * most_of base k

-- the digits of a 64-bit number in a base
unfoldable pub digits_of : (base value : ℕ) → List ℕ
digits_of base value = digits_in base (digit_in base) 40 value

-- the bases in which symbols have numbers: 10, 16, 36 and 62
abbrev pub IsBase : ℕ → Type 0
IsBase base = (base ≡ 10) ⊎ ((base ≡ 16) ⊎ ((base ≡ 36) ⊎ (base ≡ 62)))

-- The digits of `rest`, which is still to be written, and the digits written so far, from `from` on, are those of `value`.
pub record AreWritten (base value rest from : ℕ) (digits : List ℕ) : Type 0 where
  pub long : length digits ≡ 20
  pub within : from ≤ 20
  pub some : 0 < from
  pub few : rest < most_of base from
  pub whole : digits_in base (digit_in base) (20 + from) rest ++ drop from digits ≡ digits_of base value
