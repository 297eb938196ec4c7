-- What is expected within a function type, and what the rules around it accept then.
use Rattle.std.specs.Prelude.{◌≡◌, ℕ, ◌+◌, List, Bool, true, false}
use Rattle.cpp_grammar.specs.declared.kind.Kind.{Kind}
use Rattle.cpp_grammar.specs.Term.{Term, any_value, function_type, pointer, lvalue, rvalue, list}
use Rattle.cpp_grammar.specs.Meaning.{parameters}
use Rattle.cpp_grammar.specs.Values.{State, Around, outermost, tree, signature}
use Rattle.cpp_direct.specs.Symbol.{Symbol}
use Rattle.cpp_direct.specs.Holes.{Awaits, Comes, Expects, Opened, TypePasses, with_candidate}

-- a plain function type with this return type and these parameters
abbrev pub plain_function : (returned : Term) → (items : Term) → Term
plain_function returned items = function_type false false any_value returned (parameters items)

-- the function type, or a pointer to it
abbrev pub pointed : (is_pointer : Bool) → Term → Term
pointed true t = pointer t
pointed false t = t

-- the state once the function type is a candidate, and so is the pointer to it if there is one
abbrev pub with_pointed : (is_pointer : Bool) → Around → Term → State → State
with_pointed true around t st = with_candidate around (pointer t) (with_candidate around t st)
with_pointed false around t st = with_candidate around t st

-- A function type, or a pointer to one, is read up to a place among its parameters, and expects the rest of them.
pub record SignatureGoesOn (s : Symbol) (outer : List Opened) (made_in : Around) (is_pointer : Bool) (made : Term → Term) (at : ℕ) (st : State) : Type 0 where
  pub around : Around
  pub outside : around.prefix ≡ outermost
  pub inner : List Opened
  pub awaits : Expects s Kind.FunctionRest around inner at st
  pub passes : (l : Term) (at : ℕ) (st : State) → Comes s inner (signature l any_value) at st
      → Comes s outer (tree (pointed is_pointer (made l)) true) at (with_pointed is_pointer made_in (made l) st)

-- After an F the return type is expected.
abbrev pub FunctionOpened : (s : Symbol) (outer : List Opened) (around : Around) (is_pointer : Bool) (at : ℕ) (st : State) → Type 0
FunctionOpened s outer around is_pointer at st = Awaits s Kind.Type around at st (λ inner.
    (r : Term) (at : ℕ) (st : State) → Comes s inner (tree r true) at st
    → SignatureGoesOn s outer around is_pointer (λ l. plain_function r l) at st)

-- Expects a parameter that isn't a reference.
pub record ParameterOpened (s : Symbol) (outer : List Opened) (made_in : Around) (is_pointer : Bool) (made : Term → Term) (at : ℕ) (st : State) : Type 0 where
  pub around : Around
  pub outside : around.prefix ≡ outermost
  pub inner : List Opened
  pub awaits : Expects s Kind.ItemButRef around inner at st
  pub onward : (t : Term) (at : ℕ) (st : State) → Comes s inner (tree t true) at st
      → SignatureGoesOn s outer made_in is_pointer (λ l. made (list t l)) at st

-- an lvalue reference or an rvalue reference to a type
abbrev pub reference : (is_lvalue : Bool) → Term → Term
reference true t = lvalue t
reference false t = rvalue t

-- the letter of a reference
abbrev pub reference_letter : (is_lvalue : Bool) → ℕ
reference_letter true = 82
reference_letter false = 79

-- Expects a parameter that is a reference, after its letter: the referenced type comes first.
pub record ReferenceOpened (s : Symbol) (outer : List Opened) (made_in : Around) (is_pointer is_lvalue : Bool) (made : Term → Term) (at : ℕ) (st : State) : Type 0 where
  pub around : Around
  pub outside : around.prefix ≡ outermost
  pub whole : List Opened
  pub inner : List Opened
  pub awaits : Expects s Kind.Type around inner (at + 1) st
  pub passes : TypePasses s inner whole around (reference is_lvalue)
  pub onward : (t : Term) (at : ℕ) (st : State) → Comes s whole (tree t true) at st
      → SignatureGoesOn s outer made_in is_pointer (λ l. made (list t l)) at st
