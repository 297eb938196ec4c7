-- What is expected in the name of a local entity, and what the rules around it accept then.
use Rattle.std.specs.Prelude.{◌≡◌, ◌≢◌, ℕ, ◌+◌, ◌≤◌, List, [], ◌∷◌, ◌++◌, length, Bool, true, false, cond, Option, Some, None}
use Rattle.cpp_grammar.specs.declared.kind.Kind.{Kind}
use Rattle.cpp_grammar.specs.Term.{Qualifiers, RefQualifier, explicit_object, Term, any_value, of_name, local, within, source}
use Rattle.cpp_grammar.specs.Values.{State, Around, Value, local_number, normal, nothing_there, text, tree, named, unqualified, tree_of, qualifiers_of, ref_of}
use Rattle.cpp_grammar.specs.Between.{after, in_name}
use Rattle.cpp_grammar.specs.Meaning.{discriminator_of, parameters}
use Rattle.cpp_short_reading.specs.Reading.{lambda_by}
use Rattle.cpp_direct.specs.Symbol.{Symbol}
use Rattle.cpp_direct.specs.Holes.{Awaits, Comes, Expects, IsNameAt, Named, NestGoesOn, Opened, StandsAt}
use Rattle.cpp_direct.specs.HolesOfLists.{IsDigitsAt, nest_marks}

-- What follows the name of an entity: nothing, a digit after a _, or digits between __ and _.
pub data Discriminator : Type 0 where
  unnumbered : Discriminator
  by_digit : ℕ → Discriminator
  by_digits : List ℕ → Discriminator

-- the value of a discriminator
abbrev pub discriminator_value : Discriminator → Value
discriminator_value unnumbered = nothing_there
discriminator_value (by_digit digit) = text (digit ∷ [])
discriminator_value (by_digits digits) = text (normal digits)

-- a discriminator is at the place, and `end` is the place after it
abbrev pub IsDiscriminatorAt : (s : List ℕ) → (at : ℕ) → Discriminator → (end : ℕ) → Type 0
IsDiscriminatorAt s at unnumbered end = end ≡ at
IsDiscriminatorAt s at (by_digit digit) end = (48 ≤ digit) × (digit ≤ 57) × StandsAt s at (95 ∷ digit ∷ []) × (end ≡ at + 2)
IsDiscriminatorAt s at (by_digits digits) end =
    (middle : ℕ) × StandsAt s at (95 ∷ 95 ∷ []) × IsDigitsAt s (at + 2) digits middle × StandsAt s middle (95 ∷ []) × (end ≡ middle + 1)

-- an E and an entity with this name and this discriminator are at the place, and `end` is the place after them
pub record IsEntityAt (s : List ℕ) (at : ℕ) (internal : Bool) (name : List ℕ) (digit : Discriminator) (end : ℕ) : Type 0 where
  pub first : StandsAt s at (69 ∷ [])
  pub letter : internal ≡ true → StandsAt s (at + 1) (76 ∷ [])
  pub middle : ℕ
  pub is_name : IsNameAt s (at + 1 + cond internal 1 0) name middle
  pub filled : name ≢ []
  pub discriminator : IsDiscriminatorAt s middle digit end

-- the local entity of an encoding with this piece as its name
abbrev pub local_in : (e : Term) → (piece : Term) → (digit : Discriminator) → Term
local_in e p digit = local e (within e p) (discriminator_of (discriminator_value digit))

-- the local entity of an encoding with this source name
abbrev pub entity_in : (e : Term) → (internal : Bool) → (name : List ℕ) → (digit : Discriminator) → Term
entity_in e internal name digit = local_in e (source internal name) digit

-- Expects the first piece of a nested name in this encoding; `becomes` says what the name becomes.
pub record FirstOpened (s : Symbol) (becomes : Term → (at : ℕ) → State → Type 0) (e : Term) (at : ℕ) (st : State) : Type 0 where
  pub around : Around
  pub inner : List Opened
  pub awaits : Expects s Kind.Nest (after e true around) inner at st
  pub onward : (t : Term) (listed : Bool) (at : ℕ) (st : State) → Comes s inner (tree t listed) at st → becomes t at st

-- the value of a member function's name, which is a nested name in an encoding
abbrev pub member_in : (e : Term) → (name : Term) → Qualifiers → RefQualifier → Value
member_in e t q on = named (local e t (discriminator_of nothing_there)) q on

-- After an encoding, expects an E and a nested name with any qualifiers; `becomes` says what the name becomes.
abbrev pub MemberOpened : (s : Symbol) (becomes : Value → (at : ℕ) → State → Type 0) (e : Term) (at : ℕ) (st : State) → Type 0
MemberOpened s becomes e at st =
    (const : Bool) (on : RefQualifier) → on ≢ explicit_object → StandsAt s.bytes at (69 ∷ []) → StandsAt s.bytes (at + 1) (nest_marks const on)
    → FirstOpened s (λ t there now. becomes (member_in e t (record { restrict = false; volatile = false; const = const }) on) there now) e
    (at + 1 + length (nest_marks const on)) st

-- Expects the encoding that contains an entity; then the name of the entity, or of a member function of it, is accepted.
abbrev pub LocalOpened : (s : Symbol) (outer : List Opened) (around : Around) (at : ℕ) (st : State) → Type 0
LocalOpened s outer around at st = Awaits s Kind.Encoding around at st (λ inner.
    (e : Term) (at : ℕ) (st : State) → Comes s inner (tree e true) at st → ((internal : Bool) (name : List ℕ) (digit : Discriminator) (end : ℕ)
    → IsEntityAt s.bytes at internal name digit end → Comes s outer (named (entity_in e internal name digit) unqualified any_value) end st)
    × MemberOpened s (λ v there now. Comes s outer v there now) e at st)

-- a piece is at the place, as the name of a type in an encoding or as the first piece of a nested name; `end` is the place after
-- it
pub record IsPieceAt (s : Symbol) (at : ℕ) (piece : Term) (end : ℕ) : Type 0 where
  pub as_type : (os : List Opened) (around : Around) (e : Term) (st : State) → Expects s Kind.TypeEntity (after e true around) os at st
      → Comes s os (tree (within e piece) false) end st
  pub as_first : (os : List Opened) (around : Around) (e : Term) (st : State) → Expects s Kind.Nest (after e true around) os at st
      → NestGoesOn s Kind.NestRestAlone os around (within e piece) false end st

-- a piece is at the place as a component of a nested name, and `end` is the place after it
abbrev pub IsComponentAt : (s : Symbol) → (at : ℕ) → (piece : Term) → (end : ℕ) → Type 0
IsComponentAt s at p end =
    (os : List Opened) (around : Around) (t : Term) (listed : Bool) (st : State) → Expects s Kind.Component (after t listed around) os at st
    → Named s os around (within t p) end st

-- Expects the name of a type in this encoding, and its discriminator; `becomes` says what the type becomes.
pub record EntityOpened (s : Symbol) (becomes : Term → (at : ℕ) → State → Type 0) (e : Term) (at : ℕ) (st : State) : Type 0 where
  pub around : Around
  pub inner : List Opened
  pub awaits : Expects s Kind.TypeEntity (after e true around) inner at st
  pub onward : (p : Term) (at : ℕ) (st : State) → Comes s inner (tree (within e p) false) at st → (digit : Discriminator) (end : ℕ)
      → IsDiscriminatorAt s.bytes at digit end → becomes (local_in e p digit) end st

-- Expects the encoding that contains a type, and then the type.
abbrev pub LocalTypeOpened : (s : Symbol) (outer : List Opened) (around : Around) (at : ℕ) (st : State) → Type 0
LocalTypeOpened s outer around at st = Awaits s Kind.Encoding around at st (λ inner.
    (e : Term) (at : ℕ) (st : State) → Comes s inner (tree e true) at st → StandsAt s.bytes at (69 ∷ [])
    → EntityOpened s (λ t end now. Comes s outer (tree t false) end now) e (at + 1) st)

-- the digit after the E of a lambda; the first lambda of a function has none
abbrev pub lambda_digits : Option ℕ → List ℕ
lambda_digits None = []
lambda_digits (Some digit) = digit ∷ []

-- a lambda's number as it is written
abbrev pub lambda_number : Option ℕ → List ℕ
lambda_number None = 49 ∷ []
lambda_number (Some digit) = (digit + 2) ∷ []

-- the digit is at most 7, so the lambda's number is written as one digit, too
abbrev pub IsLambdaDigit : Option ℕ → Type 0
IsLambdaDigit None = Unit {0}
IsLambdaDigit (Some digit) = (48 ≤ digit) × (digit ≤ 55)

-- a lambda with these parameters, and with the number that this digit denotes
abbrev pub lambda_with : (is_wide : Bool) → (items : Term) → (number : Option ℕ) → Term
lambda_with is_wide items number = lambda_by is_wide (parameters items) (local_number (lambda_digits number))

-- the bytes after a lambda's parameters
abbrev pub lambda_ending : Option ℕ → List ℕ
lambda_ending number = 69 ∷ (lambda_digits number ++ 95 ∷ [])

-- The parameters of a lambda are read, up to the E after them; `becomes` says what the lambda becomes.
abbrev pub LambdaEnds : (s : Symbol) → (becomes : Term → (at : ℕ) → State → Type 0) → (items : Term) → (at : ℕ) → State → Type 0
LambdaEnds s becomes items at st =
    (number : Option ℕ) (end : ℕ) → IsLambdaDigit number → StandsAt s.bytes at (lambda_ending number) → end ≡ at + length (lambda_ending number)
    → becomes (lambda_with s.is_wide items number) end st

-- Expects the name of the variable that a guard variable guards, in an encoding that begins at a place.
abbrev pub GuardOpened : (s : Symbol) (outer : List Opened) (encoding : ℕ) (at : ℕ) (st : State) → Type 0
GuardOpened s outer encoding at st = Awaits s Kind.CompleteName (in_name encoding) at st (λ inner.
    (v : Value) (at : ℕ) (st : State) → Comes s inner v at st
    → Comes s outer (tree (of_name 86 (tree_of v) (qualifiers_of v) (ref_of v)) true) at st)
