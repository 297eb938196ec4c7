-- The lengths of what the names of a path show, and where parts of it are.
use Rattle.std.specs.Prelude.{◌≡◌, ℕ, ◌+◌, ◌-◌, ◌<◌, ◌^◌, List, [], ◌∷◌, length, Some, nat_eq, if◌then◌else◌}
use Rattle.rust_legacy.specs.Path.{Path, legacy_of}
use Rattle.rust_legacy.specs.Text.{names_parts, shown_path}
use Rattle.sym_print.specs.Unshared.{text_of}
use Rattle.sym_parts.specs.declared.stretch.Stretch.{Stretch}
use Rattle.sym_parts.specs.Plain.{only}
use Rattle.sym_parts.specs.declared.role.Role.{Role}
use Rattle.sym_parts.specs.declared.role.Role.TheVariants as role
use Rattle.legacy_parts.specs.Roles.{last_of, shown}
use Rattle.legacy_parts.specs.declared.names.Names.{Names}

-- `shown` is the text of the symbol, if the symbol is a legacy name
abbrev pub IsTextOf : (symbol shown : List ℕ) → Type 0
IsTextOf symbol shown = (path : Path) → legacy_of symbol ≡ Some path → shown ≡ text_of (shown_path path)

-- how many bytes precede the last name: those of the others, with two colons after each
abbrev pub place_of : List (List ℕ) → ℕ
place_of [] = 0
place_of (name ∷ []) = 0
place_of (name ∷ next ∷ rest) = length (shown name) + 2 + place_of (next ∷ rest)

-- the first name
abbrev pub first_of : List (List ℕ) → List ℕ
first_of [] = []
first_of (name ∷ rest) = name

-- the names show fewer than 2^32 bytes
abbrev pub AreFitting : List (List ℕ) → Type 0
AreFitting names = length (text_of (names_parts [] names)) < 2 ^ 32

-- the lengths and the place that were measured are those of the names
pub record AreMeasured (names : List (List ℕ)) (found : Names) : Type 0 where
  pub first : found.first ≡ length (shown (first_of names))
  pub last : found.last ≡ length (shown (last_of names))
  pub place : found.place ≡ place_of names

-- the parts of names that were measured, by the role of the first one
unfoldable pub parts_by : Role → Names → List Stretch
parts_by root found =
    let base : Stretch = record { role = role.Base; ordinal = only; start = found.place; length = found.last } in
    if nat_eq found.place 0 then base ∷ []
    else record { role = role.Scope; ordinal = only; start = 0; length = found.place - 2 } ∷ record { role = root; ordinal = only; start = 0; length = found.first } ∷ base ∷ []

-- the part for a suffix of `count` bytes; a blank and a bracket come between the place and this part
unfoldable pub suffix_part : (place count : ℕ) → List Stretch
suffix_part place count = if nat_eq count 0 then [] else record { role = role.Suffix; ordinal = only; start = place + 2; length = count } ∷ []
