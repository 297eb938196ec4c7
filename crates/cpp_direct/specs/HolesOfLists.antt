-- What is expected in lists, in encodings and in whole symbols, and what the surrounding rules accept once that is
-- read.
use Rattle.std.specs.Prelude.{◌≡◌, ℕ, ◌+◌, List, [], ◌∷◌, ◌++◌, length, Bool, true, false, Ok}
use Rattle.std.specs.List.{AllByRecursion}
use Rattle.sym_core.specs.declared.NumberKind.TheVariants.{Digits}
use Rattle.sym_demangle.specs.Mangled.{StandsFor}
use Rattle.cpp_grammar.specs.declared.kind.Kind.{Kind}
use Rattle.cpp_grammar.specs.Term.{RefQualifier, any_value, lvalue_only, rvalue_only, explicit_object, Term, symbol, special, construction, integer, address_of, pack}
use Rattle.cpp_grammar.specs.Values.{State, Around, Value, normal, tree, named, tree_of, signed_digits}
use Rattle.cpp_grammar.specs.Between.{in_name, in_types, inside, no_items}
use Rattle.cpp_grammar.specs.Meaning.{encoding_of}
use Rattle.cpp_grammar.specs.Unfolding.{first_around, first_state}
use Rattle.cpp_direct.specs.Symbol.{Symbol, mangled_of}
use Rattle.cpp_direct.specs.Holes.{Awaits, Comes, Expects, IsNumberAt, ListGoesOn, Opened, StandsAt}
use Rattle.cpp_direct.specs.HolesOfTypes.{TreeOpens}
use Rattle.cpp_direct.specs.ItemBytes.{is_suffix_byte}

-- ## Lists

-- Expects arguments after an I. At their E, they become the arguments of what precedes the I.
abbrev pub ArgumentsOpened : (s : Symbol) (outer : List Opened) (around : Around) (at : ℕ) (st : State) → Type 0
ArgumentsOpened s outer around at st = Awaits s Kind.ArgumentList (inside around) at st (λ inner.
    (l : Value) (at : ℕ) (st : State) → Comes s inner l at st → StandsAt s.bytes at (69 ∷ [])
    → Comes s outer (tree (no_items l) true) (at + 1) st)

-- template arguments are read as one of these kinds
abbrev pub IsArgumentKind : Kind → Type 0
IsArgumentKind Kind.ArgumentList = Unit {0}
IsArgumentKind Kind.PackList = Unit {0}
IsArgumentKind _ = ⊥

-- Expects a literal after an L; the literal ends at an E.
abbrev pub LiteralOpened : (s : Symbol) (kind : Kind) (outer : List Opened) (around : Around) (at : ℕ) (st : State) → Type 0
LiteralOpened s kind outer around at st = Awaits s Kind.Literal around at st (λ inner.
    (t : Term) (at : ℕ) (st : State) → Comes s inner (tree t true) at st → StandsAt s.bytes at (69 ∷ [])
    → ListGoesOn s kind outer around t (at + 1) st)

-- Expects the elements of a pack after a J; the pack ends at an E.
abbrev pub PackOpened : (s : Symbol) (outer : List Opened) (around : Around) (at : ℕ) (st : State) → Type 0
PackOpened s outer around at st = Awaits s Kind.PackList around at st (λ inner.
    (l : Value) (at : ℕ) (st : State) → Comes s inner l at st → StandsAt s.bytes at (69 ∷ [])
    → ListGoesOn s Kind.ArgumentList outer around (pack (no_items l)) (at + 1) st)

-- the digits of an integer are at the place, and `end` is the place after them
abbrev pub IsDigitsAt : (s : List ℕ) → (at : ℕ) → (digits : List ℕ) → (end : ℕ) → Type 0
IsDigitsAt s at digits end = IsNumberAt Digits s at digits end

-- what precedes the digits of an integer: an n if it is negative
abbrev pub minus_sign : Bool → List ℕ
minus_sign true = 110 ∷ []
minus_sign false = []

-- Expects the type of an enumerator after an L, then its number and an E.
pub record EnumeratorOpened (s : Symbol) (kind : Kind) (outer : List Opened) (around : Around) (at : ℕ) (st : State) : Type 0 where
  pub inner : List Opened
  pub opens : TreeOpens s Kind.LiteralType inner around at st
  pub onward : (t : Term) (at : ℕ) (st : State) → Comes s inner (tree t true) at st → (negative : Bool) (digits : List ℕ) (end : ℕ)
      → StandsAt s.bytes at (minus_sign negative) → IsDigitsAt s.bytes (at + length (minus_sign negative)) digits end → StandsAt s.bytes end (69 ∷ [])
      → ListGoesOn s kind outer around (integer t (signed_digits negative digits)) (end + 1) st

-- Expects an encoding after XadL_Z, and then two E; the argument is the encoding's address.
abbrev pub AddressOpened : (s : Symbol) (outer : List Opened) (around : Around) (at : ℕ) (st : State) → Type 0
AddressOpened s outer around at st = Awaits s Kind.Encoding around at st (λ inner.
    (e : Term) (at : ℕ) (st : State) → Comes s inner (tree e true) at st → StandsAt s.bytes at (69 ∷ 69 ∷ [])
    → Comes s outer (tree (address_of e) true) (at + 2) st)

-- ## Encodings

-- Expects the items of an encoding with this name; there may be none.
abbrev pub ItemsOpened : (s : Symbol) (outer : List Opened) (encoding : ℕ) (name : Value) (at : ℕ) (st : State) → Type 0
ItemsOpened s outer encoding name at st = Awaits s Kind.Items (in_types encoding (tree_of name)) at st (λ inner.
    (l : Value) (at : ℕ) (st : State) → Comes s inner l at st → Comes s outer (tree (encoding_of name (no_items l)) true) at st)

-- Expects the name of an encoding that begins here.
abbrev pub EncodingOpened : (s : Symbol) (outer : List Opened) (at : ℕ) (st : State) → Type 0
EncodingOpened s outer at st = Awaits s Kind.CompleteName (in_name at) at st (λ inner.
    (v : Value) (here : ℕ) (st : State) → Comes s inner v here st → ItemsOpened s outer at v here st)

-- Expects the type that a special object belongs to, in an encoding that begins at a place.
abbrev pub SpecialOpened : (s : Symbol) (outer : List Opened) (encoding letter : ℕ) (at : ℕ) (st : State) → Type 0
SpecialOpened s outer encoding letter at st = Awaits s Kind.Type (in_name encoding) at st (λ inner.
    (t : Term) (at : ℕ) (st : State) → Comes s inner (tree t true) at st → Comes s outer (tree (special letter t) true) at st)

-- Expects the base class of a construction table, after its derived class, an offset and a _; `becomes` says what the table
-- becomes.
abbrev pub BaseClassOpened : (s : Symbol) (becomes : Term → (at : ℕ) → State → Type 0) (encoding : ℕ) (derived : Term) (at : ℕ) (st : State) → Type 0
BaseClassOpened s becomes encoding derived at st =
    (digits : List ℕ) (end : ℕ) → IsDigitsAt s.bytes at digits end → StandsAt s.bytes end (95 ∷ [])
    → Awaits s Kind.Type (in_name encoding) (end + 1) st (λ inner.
    (t : Term) (at : ℕ) (st : State) → Comes s inner (tree t true) at st → becomes (construction derived (normal digits) t) at st)

-- Expects the derived class of a construction table, in an encoding that begins at a place.
abbrev pub TableOpened : (s : Symbol) (outer : List Opened) (encoding : ℕ) (at : ℕ) (st : State) → Type 0
TableOpened s outer encoding at st = Awaits s Kind.Type (in_name encoding) at st (λ inner.
    (t : Term) (at : ℕ) (st : State) → Comes s inner (tree t true) at st
    → BaseClassOpened s (λ e end now. Comes s outer (tree e true) end now) encoding t at st)

-- an offset of a thunk is at the place, and `end` is the place after its _
pub record IsOffsetAt (s : List ℕ) (at : ℕ) (end : ℕ) : Type 0 where
  pub negative : Bool
  pub digits : List ℕ
  pub behind : ℕ
  pub minus : StandsAt s at (minus_sign negative)
  pub number : IsDigitsAt s (at + length (minus_sign negative)) digits behind
  pub line : StandsAt s behind (95 ∷ [])
  pub ends : end ≡ behind + 1

-- Expects the base encoding of a thunk or a clone that begins at a place; `made` makes the thunk or the clone of it.
abbrev pub BaseOpened : (s : Symbol) (outer : List Opened) (encoding : ℕ) (made : Term → Term) (at : ℕ) (st : State) → Type 0
BaseOpened s outer encoding made at st = Awaits s Kind.Encoding (in_name encoding) at st (λ inner.
    (e : Term) (at : ℕ) (st : State) → Comes s inner (tree e true) at st → Comes s outer (tree (made e) true) at st)

-- the letter of a const function, or none
abbrev pub const_letter : (const : Bool) → List ℕ
const_letter true = 75 ∷ []
const_letter false = []

-- the letters of a function's qualifiers: const, and the ref-qualifier
abbrev pub mark_letters : (const : Bool) → RefQualifier → List ℕ
mark_letters const any_value = const_letter const
mark_letters const lvalue_only = const_letter const ++ 82 ∷ []
mark_letters const rvalue_only = const_letter const ++ 79 ∷ []
mark_letters const explicit_object = const_letter const ++ 72 ∷ []

-- how a nested name with these qualifiers begins
abbrev pub nest_marks : (const : Bool) → RefQualifier → List ℕ
nest_marks const on = 78 ∷ mark_letters const on

-- Expects the parts of a nested name that has these qualifiers.
abbrev pub NestOpened : (s : Symbol) (outer : List Opened) (around : Around) (const : Bool) (on : RefQualifier) (at : ℕ) (st : State) → Type 0
NestOpened s outer around const on at st = Awaits s Kind.Nest around at st (λ inner.
    (t : Term) (listed : Bool) (at : ℕ) (st : State) → Comes s inner (tree t listed) at st
    → Comes s outer (named t (record { restrict = false; volatile = false; const = const }) on) at st)

-- ## Symbols

-- a dot, and one or more bytes after it
abbrev pub IsSuffix : List ℕ → Type 0
IsSuffix [] = ⊥
IsSuffix (d ∷ []) = ⊥
IsSuffix (d ∷ b ∷ bs) = (d ≡ 46) × AllByRecursion (λ c. is_suffix_byte c ≡ true) (b ∷ bs)

-- Expects the encoding of a symbol; the encoding ends the symbol, or a suffix follows it.
pub record SymbolOpened (s : Symbol) : Type 0 where
  pub inner : List Opened
  pub awaits : Expects s Kind.Encoding first_around inner 2 first_state
  pub ends : (e : Term) (st : State) → Comes s inner (tree e true) (length s.bytes) st → StandsFor (mangled_of s) s.bytes (Ok (symbol e []))
  pub ends_in : (e : Term) (at : ℕ) (suffix : List ℕ) (st : State) → Comes s inner (tree e true) at st → StandsAt s.bytes at suffix
      → at + length suffix ≡ length s.bytes → IsSuffix suffix → StandsFor (mangled_of s) s.bytes (Ok (symbol e suffix))
