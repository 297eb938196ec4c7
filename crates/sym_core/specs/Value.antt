-- What the digits of a number denote.
use Rattle.std.specs.Prelude.{ℕ, ◌+◌, ◌-◌, ◌*◌, List, [], ◌∷◌, if◌then◌else◌}
use Rattle.sym_core.specs.Number.{is_decimal_digit, is_lower_letter}
use Rattle.sym_core.specs.declared.NumberKind.{NumberKind}
use Rattle.sym_core.specs.declared.NumberKind.TheVariants.{Seq36, Base62, Hex}

-- the base of a kind of number
abbrev pub radix_of : NumberKind → ℕ
radix_of Seq36 = 36
radix_of Base62 = 62
radix_of Hex = 16
radix_of _ = 10

-- the value of a digit: 0 to 9, then the letters; in Base62 the lower-case ones first
abbrev pub digit_value : NumberKind → ℕ → ℕ
digit_value Seq36 byte = if is_decimal_digit byte then byte - 48 else byte - 55
digit_value Base62 byte = if is_decimal_digit byte then byte - 48 else (if is_lower_letter byte then byte - 87 else byte - 29)
digit_value Hex byte = if is_decimal_digit byte then byte - 48 else byte - 87
digit_value _ byte = byte - 48

-- the number that the digits denote, after digits that denote v
abbrev pub value_onto : NumberKind → ℕ → List ℕ → ℕ
value_onto kind v [] = v
value_onto kind v (digit ∷ rest) = value_onto kind (v * radix_of kind + digit_value kind digit) rest

-- the number that the digits denote
abbrev pub value_of : NumberKind → List ℕ → ℕ
value_of kind digits = value_onto kind 0 digits

-- the value of a number that is counted from its digits: 0 if it has none, else one more than the digits denote
abbrev pub counted_value : NumberKind → List ℕ → ℕ
counted_value kind [] = 0
counted_value kind (digit ∷ rest) = value_of kind (digit ∷ rest) + 1
