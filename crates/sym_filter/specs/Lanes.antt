-- What a mask of lanes says, and a class of bytes.
use Rattle.std.specs.Prelude.{ℕ, Bool, not, ◌==◌, if◌then◌else◌}
use Rattle.std.specs.Int.{w64, trailing_zeros}
use Rattle.sym_filter.specs.Escapes.{is_lead}

-- the place of the lowest bit that is set, or the number of lanes if no bit is set
abbrev pub first_set : (mask : ℕ) → ℕ
first_set mask = if mask == 0 then 16 else trailing_zeros w64 mask

-- a byte that isn't '_', with which symbols begin
abbrev pub is_no_mark : (byte : ℕ) → Bool
is_no_mark byte = not (byte == 95)

-- a byte with which no escape begins
abbrev pub is_no_lead : (byte : ℕ) → Bool
is_no_lead byte = not (is_lead byte)
