-- Patterns of the table, and their holes.
use Rattle.std.specs.Prelude.{ℕ, List, [], ◌∷◌, ◌==◌, length, codes, if◌then◌else◌}
use Rattle.std.specs.List.{flat_map}

-- the type that counts ticks, by the `std::` of the name
abbrev pub ticks : List ℕ → List ℕ
ticks whole = if length whole == 5 then codes "long" else codes "long long"

-- what a byte of a pattern is: a hole for the first argument or the second, for `std::`, or for what counts ticks; or itself
abbrev pub bit : (first second whole : List ℕ) → ℕ → List ℕ
bit first second whole byte =
    if byte == 0 then first
    else (if byte == 1 then second
    else (if byte == 2 then whole
    else (if byte == 3 then ticks whole else byte ∷ [])))

-- a pattern with its holes filled
unfoldable pub filled : (first second whole : List ℕ) → List ℕ → List ℕ
filled first second whole pattern = flat_map (bit first second whole) pattern
