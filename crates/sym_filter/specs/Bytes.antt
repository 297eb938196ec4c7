-- The bytes of runs.
use Rattle.std.specs.Prelude.{ℕ, Bool, not, ◌==◌, ◌||◌, ◌&&◌, nat_le}
use Rattle.sym_filter.specs.declared.kinds.Letters.{Letters}
use Rattle.sym_filter.specs.declared.kinds.Letters.TheVariants.{Any, Ascii, Within}

abbrev pub is_between : ℕ → ℕ → ℕ → Bool
is_between low high byte = nat_le low byte && nat_le byte high

-- the bytes of runs: ASCII letters, digits, '_', '.', '$', and all from 0x80
unfoldable pub is_run_byte : ℕ → Bool
is_run_byte byte =
    is_between 97 122 byte || is_between 65 90 byte || is_between 48 57 byte || byte == 95 || byte == 46 || byte == 36 || nat_le 128 byte

-- the bytes of runs whose words have these letters: any bytes of runs, or only those that are ASCII
abbrev pub is_byte_of : Letters → ℕ → Bool
is_byte_of Any byte = is_run_byte byte
is_byte_of Ascii byte = is_run_byte byte && not (nat_le 128 byte)
is_byte_of Within byte = is_run_byte byte

-- a byte that isn't ASCII
abbrev pub is_wide : ℕ → Bool
is_wide byte = nat_le 128 byte
