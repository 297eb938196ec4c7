-- What a text is split into: runs of bytes of names, and signs.
use Rattle.std.specs.Prelude.{ℕ, List, [], ◌∷◌, Bool, not, ◌==◌, ◌-◌, ◌||◌, ◌&&◌, nat_le, nat_eq, length, drop, get_or, codes, if◌then◌else◌}
use Rattle.std.specs.List.{starts_with, ends_with}
use Rattle.std.specs.Int.{w64, trailing_zeros}

abbrev pub is_between : ℕ → ℕ → ℕ → Bool
is_between low high byte = nat_le low byte && nat_le byte high

-- a byte of a name without `::`: an ASCII letter or digit, `_`, `$`, `.`, and each from 0x80
unfoldable pub is_letter : ℕ → Bool
is_letter byte = is_between 97 122 byte || is_between 65 90 byte || is_between 48 57 byte || byte == 95 || byte == 36 || byte == 46 || nat_le 128 byte

-- a byte of a name
unfoldable pub is_name_byte : ℕ → Bool
is_name_byte byte = byte == 58 || is_letter byte

-- the longest run of bytes of names with which a text begins
unfoldable pub run_of : List ℕ → List ℕ
run_of [] = []
run_of (byte ∷ text) = if is_name_byte byte then byte ∷ run_of text else []

-- a run ends with the word `operator`, and this isn't the end of a longer word
unfoldable pub ends_operator : List ℕ → Bool
ends_operator run =
    ends_with nat_eq run (codes "operator") && (length run == 8 || not (is_letter (get_or run (length run - 9) 0)))

-- the size of an operator's sign with `<` or `>`, or of an arrow, with which a text begins, or 0
unfoldable pub sign_size : List ℕ → ℕ
sign_size text =
    if starts_with nat_eq text (codes "<=>") then 3
    else (if starts_with nat_eq text (codes "<<") || starts_with nat_eq text (codes ">>") || starts_with nat_eq text (codes "->") then 2
    else (if starts_with nat_eq text (codes "<") || starts_with nat_eq text (codes ">") then 1 else 0))

-- how many bytes of an operator's sign come after a run
abbrev pub operator_size : (run rest : List ℕ) → ℕ
operator_size run rest = if ends_operator run then sign_size rest else 0

-- a text begins with `std::`
abbrev pub begins_std : List ℕ → Bool
begins_std text = starts_with nat_eq text (codes "std::")

-- a run begins with `std::` at a place of a text
abbrev pub is_std_at : List ℕ → ℕ → Bool
is_std_at text at = begins_std (drop at text) && (at == 0 || not (is_name_byte (get_or text (at - 1) 0)))

-- ## What masks of lanes say

-- the place of the lowest bit that is set, or the number of lanes
abbrev pub first_set : (mask : ℕ) → ℕ
first_set mask = if mask == 0 then 16 else trailing_zeros w64 mask
