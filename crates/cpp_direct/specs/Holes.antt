-- What the open rules of a symbol still need while the symbol is read from left to right, and nothing is known of the bytes that
-- follow. Once the rules have what they need, the whole symbol is read.
use Rattle.std.specs.Prelude.{◌≡◌, ℕ, ◌+◌, List, [], ◌∷◌, ◌++◌, length, Bool, true, false}
use Rattle.sym_core.specs.declared.NameClass.TheVariants.{Cpp}
use Rattle.sym_core.specs.declared.NumberKind.{NumberKind}
use Rattle.sym_core.specs.declared.NumberKind.TheVariants.{Seq36}
use Rattle.sym_core.specs.Token.{Token, bytes_of, IsName, IsNumberToken}
use Rattle.sym_shape.specs.declared.rule.Sym.{Sym}
use Rattle.sym_shape.specs.declared.rule.Sym.TheVariants.{Kind as OfKind}
use Rattle.sym_link.specs.Reading.{Open}
use Rattle.sym_direct.specs.Holes as direct
use Rattle.sym_direct.specs.Holes.{Language}
use Rattle.cpp_grammar.specs.declared.kind.Kind.{Kind}
use Rattle.cpp_grammar.specs.Grammar.{number_of_kind}
use Rattle.cpp_grammar.specs.Term.{Term, any_value, instance, list}
use Rattle.cpp_grammar.specs.Values.{by_all, Candidate, State, Around, Value, nothing_there, tree, named, unqualified}
use Rattle.cpp_grammar.specs.References.{is_function_type}
use Rattle.cpp_grammar.specs.Between.{after, no_items}
use Rattle.cpp_grammar.specs.Unfolding.{first_around, first_state}
use Rattle.cpp_short_reading.specs.Reading.{cpp_by}
use Rattle.cpp_direct.specs.Symbol.{Symbol, table_by}

-- C++ as a language for this reader
abbrev pub cpp_language : Symbol → Language Value State Around
cpp_language s = record { table = table_by s.is_wide; reading = λ bytes. cpp_by s.is_wide; first_context = first_around; first_state = first_state }

abbrev pub Opened : Type 0
Opened = direct.Opened Value State Around

abbrev pub opened : Open State Around → (known : List Value) → (todo : List Sym) → Opened
opened rule known todo = direct.opened rule known todo

-- the remaining parts of a rule are read
abbrev pub ReadsRest : (s : Symbol) (rule : Open State Around) (known : List Value) (todo : List Sym) (at : ℕ) (bytes : List ℕ) (before : State)
    (vs : List Value) (after : State) → Type 0
ReadsRest s rule known todo at bytes before vs after = direct.ReadsRest (cpp_language s) s.bytes rule known todo at bytes before vs after

abbrev pub StandsAt : (s : List ℕ) → (at : ℕ) → (bytes : List ℕ) → Type 0
StandsAt s at bytes = direct.StandsAt s at bytes

-- The innermost open rule gets its next value; in C++ each part has one value.
abbrev pub Comes : (s : Symbol) → List Opened → Value → (at : ℕ) → State → Type 0
Comes s os v at state = direct.Comes (cpp_language s) s.bytes os (v ∷ []) at state

abbrev pub Needs : (s : Symbol) → List Opened → Open State Around → (known : List Value) → (todo : List Sym) → (at : ℕ) → State → Type 0
Needs s os rule known todo at state = direct.Needs (cpp_language s) s.bytes os rule known todo at state

abbrev pub ExpectsSym : (s : Symbol) → Sym → Around → List Opened → (at : ℕ) → State → Type 0
ExpectsSym s x around os at state = direct.Expects (cpp_language s) s.bytes x around os at state

abbrev pub Expects : (s : Symbol) → Kind → Around → List Opened → (at : ℕ) → State → Type 0
Expects s kind around os at state = ExpectsSym s (OfKind (number_of_kind kind)) around os at state

-- Expects a part of this kind; `Onward` says how the reader continues after the part.
pub record Awaits (s : Symbol) (kind : Kind) (around : Around) (at : ℕ) (st : State) (Onward : List Opened → Type 0) : Type 0 where
  pub inner : List Opened
  pub awaits : Expects s kind around inner at st
  pub onward : Onward inner

-- ## States

-- a tree as a candidate that is made here
abbrev pub candidate : Around → Term → Candidate
candidate around t = record { tree = t; encoding = around.encoding; in_lambda = around.in_lambda; counted = by_all }

-- the state with one more candidate, made here
abbrev pub with_candidate : Around → Term → State → State
with_candidate around t state = record state { candidates = state.candidates ++ candidate around t ∷ [] }

-- the state with one more candidate, unless the tree is a candidate already or never becomes one
abbrev pub unless_listed : (listed : Bool) → Around → Term → State → State
unless_listed true around t state = state
unless_listed false around t state = with_candidate around t state

-- ## What is read

-- a name is at the place, with these bytes, and `end` is the place after it
pub record IsNameAt (s : List ℕ) (at : ℕ) (name : List ℕ) (end : ℕ) : Type 0 where
  pub token : Token
  pub is_name : IsName Cpp token
  pub own : token.own ≡ name
  pub stands : StandsAt s at (bytes_of token)
  pub ends : end ≡ at + length (bytes_of token)

-- a tag is at the place, and `end` is the place after it
abbrev pub IsTagAt : (s : List ℕ) → (at : ℕ) → (tag : List ℕ) → (end : ℕ) → Type 0
IsTagAt s at tag end = StandsAt s at (66 ∷ []) × IsNameAt s (at + 1) tag end

-- a number of this kind is at the place, with these digits or none, and `end` is the place after it
pub record IsNumberAt (kind : NumberKind) (s : List ℕ) (at : ℕ) (digits : List ℕ) (end : ℕ) : Type 0 where
  pub token : Token
  pub is_number : IsNumberToken kind token
  pub own : token.own ≡ digits
  pub stands : StandsAt s at (bytes_of token)
  pub ends : end ≡ at + length (bytes_of token)

-- the number of a substitution is at the place, with these digits, and `end` is the place after it
abbrev pub IsSeqAt : (s : List ℕ) → (at : ℕ) → (digits : List ℕ) → (end : ℕ) → Type 0
IsSeqAt s at digits end = IsNumberAt Seq36 s at digits end

-- a type may be expected as one of these kinds
abbrev pub IsTyped : Kind → Type 0
IsTyped Kind.Type = Unit {0}
IsTyped Kind.Item = Unit {0}
IsTyped Kind.Plain = Unit {0}
IsTyped Kind.ItemButRef = Unit {0}
IsTyped _ = ⊥

-- a reference may be expected as one of these kinds
abbrev pub IsReferable : Kind → Type 0
IsReferable Kind.Type = Unit {0}
IsReferable Kind.Item = Unit {0}
IsReferable Kind.Plain = Unit {0}
IsReferable _ = ⊥

-- a list of items may be expected as one of these kinds
abbrev pub IsListKind : Kind → Type 0
IsListKind Kind.ArgumentList = Unit {0}
IsListKind Kind.PackList = Unit {0}
IsListKind Kind.Items = Unit {0}
IsListKind _ = ⊥

-- the outer rules accept what the inner rules accept
abbrev pub SamePasses : (s : Symbol) → (inner outer : List Opened) → Type 0
SamePasses s inner outer = (v : Value) (at : ℕ) (st : State) → Comes s inner v at st → Comes s outer v at st

-- if the inner rules accept a type, the outer ones accept the type made of it, which becomes a candidate
abbrev pub TypePasses : (s : Symbol) → (inner outer : List Opened) → Around → (made : Term → Term) → Type 0
TypePasses s inner outer around made =
    (t : Term) (at : ℕ) (st : State) → Comes s inner (tree t true) at st → Comes s outer (tree (made t) true) at (with_candidate around (made t) st)

-- The name of a type was read; arguments may follow it.
pub record TypeNamed (s : Symbol) (outer : List Opened) (around : Around) (t : Term) (listed : Bool) (at : ℕ) (st : State) : Type 0 where
  pub inner : List Opened
  pub awaits : Expects s Kind.ArgumentsAlone (after t listed around) inner at st
  pub bare : (at : ℕ) (st : State) → is_function_type t ≡ false → Comes s inner nothing_there at st
      → Comes s outer (tree t true) at (unless_listed listed around t st)
  pub argued : (a : Term) (at : ℕ) (st : State) → Comes s inner (tree a true) at st
      → Comes s outer (tree (instance t a) true) at (with_candidate around (instance t a) st)

-- a name with its tags
abbrev pub bare_name : Term → Value
bare_name u = named u unqualified any_value

-- The name of an encoding or of a component was read; arguments or tags may follow it.
pub record Named (s : Symbol) (outer : List Opened) (around : Around) (t : Term) (at : ℕ) (st : State) : Type 0 where
  pub inner : List Opened
  pub awaits : Expects s Kind.MaybeArguments (after t false around) inner at st
  pub bare : (at : ℕ) (st : State) → Comes s inner nothing_there at st → Comes s outer (tree t false) at st
  pub argued : (a : Term) (at : ℕ) (st : State) → Comes s inner (tree a true) at st → Comes s outer (tree (instance t a) false) at st
  pub renamed : (u : Term) (at : ℕ) (st : State) → Comes s inner (bare_name u) at st → Comes s outer (tree u false) at st

-- A nested name is read as far as this tree, and its rest is expected as this kind; the outer rules accept the whole.
pub record NestGoesOn (s : Symbol) (kind : Kind) (outer : List Opened) (around : Around) (t : Term) (listed : Bool) (at : ℕ) (st : State) : Type 0 where
  pub inner : List Opened
  pub awaits : Expects s kind (after t listed around) inner at st
  pub passes : SamePasses s inner outer

-- A component of a nested name is expected next. The name so far has become a candidate, unless it was one before.
pub record AwaitsComponent (s : Symbol) (outer : List Opened) (around : Around) (t : Term) (at : ℕ) (st : State) : Type 0 where
  pub listed : Bool
  pub inner : List Opened
  pub awaits : Expects s Kind.Component (after t listed around) inner at st
  pub onward : (u : Term) (at : ℕ) (st : State) → Comes s inner (tree u false) at st → NestGoesOn s Kind.NestTail outer around u false at st

-- A component, or a name in std at the front of a nested name, was read; arguments or tags may follow it.
pub record NestNamed (s : Symbol) (outer : List Opened) (around : Around) (t : Term) (at : ℕ) (st : State) : Type 0 where
  pub inner : List Opened
  pub awaits : Expects s Kind.MaybeArguments (after t false around) inner at st
  pub bare : (at : ℕ) (st : State) → Comes s inner nothing_there at st → NestGoesOn s Kind.NestTail outer around t false at st
  pub argued : (a : Term) (at : ℕ) (st : State) → Comes s inner (tree a true) at st → NestGoesOn s Kind.NestTail outer around (instance t a) false at st
  pub renamed : (u : Term) (at : ℕ) (st : State) → Comes s inner (bare_name u) at st → NestGoesOn s Kind.NestTail outer around u false at st

-- A list continues after an element.
abbrev pub ListGoesOn : (s : Symbol) (kind : Kind) (outer : List Opened) (around : Around) (t : Term) (at : ℕ) (st : State) → Type 0
ListGoesOn s kind outer around t at st = Awaits s kind around at st (λ inner.
    (l : Value) (at : ℕ) (st : State) → Comes s inner l at st → Comes s outer (tree (list t (no_items l)) true) at st)

-- Expects an element of a list, read as a part of the kind `as_kind`.
abbrev pub AwaitsElementAs : (s : Symbol) (as_kind kind : Kind) (outer : List Opened) (around : Around) (at : ℕ) (st : State) → Type 0
AwaitsElementAs s as_kind kind outer around at st = Awaits s as_kind around at st (λ inner.
    (t : Term) (at : ℕ) (st : State) → Comes s inner (tree t true) at st → ListGoesOn s kind outer around t at st)

-- expects an element that is a type
abbrev pub AwaitsElement : (s : Symbol) (kind : Kind) (outer : List Opened) (around : Around) (at : ℕ) (st : State) → Type 0
AwaitsElement s kind outer around at st = AwaitsElementAs s Kind.Item kind outer around at st
