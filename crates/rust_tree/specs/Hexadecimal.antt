-- Hexadecimal digits.
use Rattle.std.specs.Prelude.{ℕ, zero, suc, ◌*◌, ◌/◌, ◌%◌, List, [], ◌∷◌, true, false, ◌==◌}
use Rattle.std.specs.Fmt.{digit_glyph}

-- how many numbers n hexadecimal digits can denote
abbrev pub reach : ℕ → ℕ
reach zero = 1
reach (suc more) = 16 * reach more

-- the digits of a number, at most n, with later digits after them
unfoldable pub hexadecimal_before : (most n : ℕ) → (later : List ℕ) → List ℕ
hexadecimal_before zero n later = later
hexadecimal_before (suc more) n later =
    elim (n == 0) [ true ↦ later | false ↦ hexadecimal_before more (n / 16) (digit_glyph false (n % 16) ∷ later) ]

-- the digits of a number without zeros in front, none for zero
unfoldable pub hexadecimal : ℕ → List ℕ
hexadecimal n = hexadecimal_before n n []
