-- Constants, and arrays that have one.
use Rattle.std.specs.Prelude.{◌≡◌, ℕ, ◌+◌, ◌≤◌, List, [], ◌∷◌, length, Bool, true, false, ◌&&◌, nat_lt, if◌then◌else◌, ◌==◌}
use Rattle.sym_core.specs.declared.NumberKind.TheVariants.{Hex}
use Rattle.sym_core.specs.Token.{Token, bytes_of, IsNumberToken}
use Rattle.sym_core.specs.Value.{value_of}
use Rattle.sym_direct.specs.Holes.{StandsAt}
use Rattle.rust_tree.specs.Symbol as tree
use Rattle.rust_tree.specs.Shown.{constant_parts}
use Rattle.rust_grammar.specs.declared.production.Production.{Production}
use Rattle.rust_grammar.specs.declared.kind.TheConstants.{TYPE, CONSTANT}
use Rattle.rust_grammar.specs.BasicLetters.{signed_letters, unsigned_letters}
use Rattle.rust_grammar.specs.Value.{Value, State, a_type, a_constant}
use Rattle.rust_grammar.specs.Unfold.{greatest_u64}
use Rattle.rust_direct.specs.declared.direct.Direct.{Direct}
use Rattle.rust_direct.specs.Holes.{Opened, Comes, Expects, Ends, IsType, within, with_ended}
use Rattle.rust_direct.specs.Prints.{Spells}
use Rattle.rust_direct.specs.Written.{Writes}

-- a letter is one of these
abbrev pub one_of : List ℕ → ℕ → Bool
one_of [] letter = false
one_of (l ∷ ls) letter = if l == letter then true else one_of ls letter

-- the letters of integer types with a sign, and of those without one
unfoldable pub is_signed : ℕ → Bool
is_signed letter = one_of signed_letters letter

unfoldable pub is_unsigned : ℕ → Bool
is_unsigned letter = one_of unsigned_letters letter

-- a minus, or nothing
abbrev pub sign_text : (minus : Bool) → List ℕ
sign_text minus = if minus then 45 ∷ [] else []

-- a number in base 16 is at the place, its value is `n`, of at most 64 bits, and `end` is the place after it
pub record IsHexAt (s : List ℕ) (at : ℕ) (n : ℕ) (end : ℕ) : Type 0 where
  pub token : Token
  pub is_number : IsNumberToken Hex token
  pub counts : value_of Hex token.own ≡ n
  pub small : n ≤ greatest_u64
  pub stands : StandsAt s at (bytes_of token)
  pub ends : end ≡ at + length (bytes_of token)

-- A constant that is expected at the place is this one, and `end` is the place after it.
abbrev pub IsConstantAt : (s : List ℕ) → (at : ℕ) → tree.Constant → (end : ℕ) → Type 0
IsConstantAt s at c end =
    (os : List Opened) (st : State) → Expects s CONSTANT os at st → Comes s os (a_constant c) end (with_ended at (a_constant c) st)

-- The type of an integer and its sign are read, and its digits are expected. Zero has no minus.
abbrev pub BeginsInteger : (s : List ℕ) → (at digits : ℕ) → (minus : Bool) → Type 0
BeginsInteger s at digits minus =
    (letter : ℕ) × ((n end : ℕ) → IsHexAt s digits n end → IsConstantAt s at (tree.integer letter (minus && nat_lt 0 n) n) end)

-- a constant at the place was written, and nothing else changed
pub record WritesConstant (s : List ℕ) (old new : Direct) (at end : ℕ) : Type 0 where
  pub c : tree.Constant
  pub own : List ℕ
  pub shows : Spells (constant_parts c) own
  pub writes : Writes old new own
  pub comes : IsConstantAt s at c end

-- The size of an array is expected; the type of its elements is read.
pub record SizeGoesOn (s : List ℕ) (outer : List Opened) (place : ℕ) (t : tree.Ty) (at : ℕ) (st : State) : Type 0 where
  pub inner : List Opened
  pub production : Production
  pub awaits : Expects s CONSTANT inner at (within production st)
  pub passes : (c : tree.Constant) (at : ℕ) (st : State) → Comes s inner (a_constant c) at st → Ends s outer place (a_type (tree.array t c)) at st

-- The type of an array's elements is expected, and after it the size.
pub record ArrayGoesOn (s : List ℕ) (outer : List Opened) (place : ℕ) (at : ℕ) (st : State) : Type 0 where
  pub inner : List Opened
  pub production : Production
  pub awaits : Expects s TYPE inner at (within production st)
  pub onward : (v : Value) (t : tree.Ty) (at : ℕ) (st : State) → IsType v t → Comes s inner v at st → SizeGoesOn s outer place t at st
