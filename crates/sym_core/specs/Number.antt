-- How numbers are spelled.
use Rattle.std.specs.Prelude.{◌≡◌, ◌≢◌, ℕ, ◌+◌, ◌<◌, ◌≤◌, Bool, true, ◌&&◌, ◌||◌, nat_le, List, [], ◌∷◌, ◌++◌, length, take, drop, ◌-◌, ⊤}
use Rattle.std.specs.List.{AllByRecursion}
use Rattle.sym_core.specs.Fronts.{IsLongestFront}
use Rattle.sym_core.specs.declared.TheConstants.{MOST_BYTES}
use Rattle.sym_core.specs.declared.Span.{Span}
use Rattle.sym_core.specs.declared.NumberKind.{NumberKind}
use Rattle.sym_core.specs.declared.NumberKind.TheVariants.{Length, Decimal, Seq36, Base62, Hex, Digits}

abbrev pub is_decimal_digit : ℕ → Bool
is_decimal_digit b = nat_le 48 b && nat_le b 57

abbrev pub is_upper_letter : ℕ → Bool
is_upper_letter b = nat_le 65 b && nat_le b 90

abbrev pub is_lower_letter : ℕ → Bool
is_lower_letter b = nat_le 97 b && nat_le b 122

-- the bytes that are digits of the kind
abbrev pub is_digit_of : NumberKind → ℕ → Bool
is_digit_of Length b = is_decimal_digit b
is_digit_of Decimal b = is_decimal_digit b
is_digit_of Seq36 b = is_decimal_digit b || is_upper_letter b
is_digit_of Base62 b = is_decimal_digit b || is_lower_letter b || is_upper_letter b
is_digit_of Hex b = is_decimal_digit b || (nat_le 97 b && nat_le b 102)
is_digit_of Digits b = is_decimal_digit b

-- a Length has one to nine digits without a leading zero, or is just a 0
abbrev pub IsLengthForm : List ℕ → Type 0
IsLengthForm [] = ⊥
IsLengthForm (d ∷ []) = ⊤
IsLengthForm (d ∷ e ∷ ds) = (d ≢ 48) × (length ds ≤ 7)

-- the digits have the count and the form that the kind requires
abbrev pub IsFormOf : NumberKind → List ℕ → Type 0
IsFormOf Length ds = IsLengthForm ds
IsFormOf Base62 ds = length ds ≤ 11
IsFormOf Digits ds = 0 < length ds
IsFormOf Decimal ds = ⊤
IsFormOf Seq36 ds = ⊤
IsFormOf Hex ds = ⊤

-- each byte is a digit of the kind
abbrev pub AreDigits : NumberKind → List ℕ → Type 0
AreDigits kind ds = AllByRecursion (λ b. is_digit_of kind b ≡ true) ds

-- the digits of a number of the kind
abbrev pub AreDigitsOf : NumberKind → List ℕ → Type 0
AreDigitsOf kind ds = AreDigits kind ds × IsFormOf kind ds

-- what a number has after its digits: an '_' or nothing
abbrev pub ending_of : NumberKind → List ℕ
ending_of Length = []
ending_of Digits = []
ending_of Decimal = 95 ∷ []
ending_of Seq36 = 95 ∷ []
ending_of Base62 = 95 ∷ []
ending_of Hex = 95 ∷ []

-- the bytes spell a number of the kind
abbrev pub IsNumber : NumberKind → List ℕ → Type 0
IsNumber kind bytes = (ds : List ℕ) × AreDigitsOf kind ds × (bytes ≡ ds ++ ending_of kind)

-- few enough bytes to be read as a symbol
abbrev pub FitsSymbol : List ℕ → Type 0
FitsSymbol s = length s ≤ MOST_BYTES

-- the bytes begin some number of the kind
abbrev pub BeginsNumber : NumberKind → List ℕ → Type 0
BeginsNumber kind bytes = (more : List ℕ) × IsNumber kind (bytes ++ more)

-- the longest number at the front has this many digits
abbrev pub HasNumber : NumberKind → List ℕ → ℕ → Type 0
HasNumber kind s size = IsLongestFront (IsNumber kind) s (size + length (ending_of kind))

-- no number is at the front, and the longest front that begins one has this many bytes
abbrev pub HasNoNumber : NumberKind → List ℕ → ℕ → Type 0
HasNoNumber kind s size = ((n : ℕ) → n ≤ length s → ¬ (IsNumber kind (take n s))) × IsLongestFront (BeginsNumber kind) s size

-- the span has the digits of the longest number that begins at the place
abbrev pub IsNumberSpan : NumberKind → List ℕ → ℕ → Span → Type 0
IsNumberSpan kind s at span = (span.from ≡ at) × (at ≤ span.to) × HasNumber kind (drop at s) (span.to - at)

-- no number begins at the first place; the longest front from there that begins a number ends at the second place
abbrev pub IsNumberBreak : NumberKind → List ℕ → ℕ → ℕ → Type 0
IsNumberBreak kind s at bad = (at ≤ bad) × HasNoNumber kind (drop at s) (bad - at)
