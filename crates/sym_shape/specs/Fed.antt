-- A reader that is fed, as its users see it.
use Rattle.std.specs.Prelude.{◌≡◌, ℕ, List, [], ◌∷◌, ◌++◌, length, Bool, true, false, Option, Some, None, Result, Ok, Err, ⊤}
use Rattle.sym_core.specs.declared.refusal.Refusal.{Refusal}
use Rattle.sym_core.specs.declared.refusal.Refusal.TheVariants.{Malformed, BadReference, BadValue, TooLong, Memory}
use Rattle.sym_core.specs.Number.{FitsSymbol}
use Rattle.sym_shape.specs.declared.parse.Parse.{Parse}
use Rattle.sym_shape.specs.declared.rule.Sym.{Sym}
use Rattle.sym_shape.specs.Table.{Table}
use Rattle.sym_shape.specs.Tree.{IsMalformed}
use Rattle.sym_shape.specs.Reader.{IsParsing, AreFew, to_do}
use Rattle.sym_shape.specs.Room.{Room}

-- what was fed: the bytes so far, whether the end was given, whether an answer was given since then, and the refusal if
-- there was one; what reading took: the steps, how many rows they made, how many rules are being read around another one,
-- and how many bytes, rows and rules there is room for
pub record Fed : Type 0 where
  pub bytes : List ℕ
  pub ended : Bool
  pub ready : Bool
  pub refused : Option Refusal
  pub steps : ℕ
  pub rows : ℕ
  pub rules : ℕ
  pub byte_room : ℕ
  pub room : Room

-- nothing is fed and nothing is read
abbrev pub unfed : (byte_room : ℕ) → Room → Fed
unfed byte_room room = record { bytes = []; ended = false; ready = false; refused = None; steps = 0; rows = 0; rules = 0; byte_room = byte_room; room = room }

-- the reader with room for n bytes
abbrev pub with_room : Fed → (bytes : ℕ) → Fed
with_room fed bytes = record fed { byte_room = bytes }

-- the reader with a refusal
abbrev pub refusing : Fed → Refusal → Fed
refusing fed refusal = record fed { refused = Some refusal }

-- a piece without bytes is the end
abbrev pub tells_end : List ℕ → Bool
tells_end [] = true
tells_end (b ∷ piece) = false

-- the reader with one more piece
abbrev pub with_piece : Fed → List ℕ → Fed
with_piece fed piece = record fed { bytes = fed.bytes ++ piece; ended = tells_end piece }

-- the step is the last one, since it answered true or a refusal
abbrev pub is_answer : Result Bool Refusal → Bool
is_answer (Ok more) = more
is_answer (Err refusal) = true

-- once the end is given, this is the first bad byte of these bytes; before that, it is the first bad byte whatever
-- follows these bytes
abbrev pub IsMalformedSoFar : Table → Bool → List ℕ → ℕ → Type 0
IsMalformedSoFar g true bytes at = IsMalformed g bytes at
IsMalformedSoFar g false bytes at = (more : List ℕ) → IsMalformed g (bytes ++ more) at

-- why a reader refuses
abbrev pub IsReason : Table → Bool → List ℕ → Refusal → Type 0
IsReason g ended bytes (Malformed at) = IsMalformedSoFar g ended bytes at
IsReason g ended bytes Memory = ⊤
IsReason g ended bytes (BadReference at) = ⊥
IsReason g ended bytes (BadValue at) = ⊥
IsReason g ended bytes TooLong = ⊥

-- the steps and rows of a reader are few for the bytes fed so far
abbrev pub IsWithinBounds : Fed → Type 0
IsWithinBounds fed = AreFew fed.steps fed.rows (length fed.bytes)

-- a refusal has its reason; a reader without one may continue, and has read all once it is ready
abbrev pub IsOver : (ℕ → List Sym) → Table → List ℕ → Bool → Bool → Option Refusal → Parse → Type 0
IsOver listed g bytes ended ready None parse =
    IsParsing listed g ended bytes parse × (ready ≡ true → (ended ≡ true) × (to_do listed parse ≡ []) × (parse.at ≡ length bytes))
IsOver listed g bytes ended ready (Some refusal) parse = IsReason g ended bytes refusal × (ready ≡ ended)

pub record IsFed (listed : ℕ → List Sym) (g : Table) (bytes : List ℕ) (ended ready : Bool) (refused : Option Refusal) (parse : Parse) : Type 0 where
  pub fits : FitsSymbol bytes
  pub over : IsOver listed g bytes ended ready refused parse
  pub few : AreFew parse.steps (length parse.rows.items) (length bytes)
