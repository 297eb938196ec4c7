-- Names: how much of their length is read, and where their own bytes are.
use Rattle.std.specs.Prelude.{◌≡◌, ℕ, ◌+◌, ◌-◌, ◌≤◌, ◌<◌, List, length, take, drop, Bool, ◌||◌, ◌==◌}
use Rattle.sym_core.specs.declared.NumberKind.TheVariants.{Length}
use Rattle.sym_core.specs.declared.tokens.TokenPlace.{TokenPlace}
use Rattle.sym_core.specs.declared.Span.{Span}
use Rattle.sym_core.specs.Number.{AreDigitsOf, is_decimal_digit}
use Rattle.sym_core.specs.Value.{value_of}
use Rattle.sym_direct.specs.Holes.{StandsAt}
use Rattle.rust_direct.specs.Holes.{IsNameAt}

-- Digits are at the place. If they are the length of a name, the name's own bytes begin at `from`, and there are `size`
-- of them.
pub record IsLengthRead (s : List ℕ) (at from size : ℕ) : Type 0 where
  pub digits : List ℕ
  pub are_digits : AreDigitsOf Length digits
  pub stands : StandsAt s at digits
  pub from_is : from ≡ at + length digits
  pub size_is : size ≡ value_of Length digits
  pub some : 0 < size

-- the byte belongs to a length, or separates it from the name
abbrev pub goes_on : ℕ → Bool
goes_on b = is_decimal_digit b || b == 95

-- a name is at the place, and its own bytes are between these places
abbrev pub IsNamePlace : (s : List ℕ) → (at : ℕ) → TokenPlace → Type 0
IsNamePlace s at place =
    (place.from ≤ place.to) × (place.to ≤ length s) × IsNameAt s at (take (place.to - place.from) (drop place.from s)) place.end

-- a name is at the place; it ends with its own bytes, which are those of the span
abbrev pub IsNameSpan : (s : List ℕ) → (at : ℕ) → Span → Type 0
IsNameSpan s at own = IsNamePlace s at (record { from = own.from; to = own.to; end = own.to })
