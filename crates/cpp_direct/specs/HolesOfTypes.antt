-- What is expected within a type, and what the rules around it accept then.
use Rattle.std.specs.Prelude.{◌≡◌, ℕ, List, [], ◌∷◌, Bool, true, false}
use Rattle.cpp_grammar.specs.declared.kind.Kind.{Kind}
use Rattle.cpp_grammar.specs.Term.{Term, qualified}
use Rattle.cpp_grammar.specs.Values.{State, Around, tree}
use Rattle.cpp_grammar.specs.References.{is_function_type}
use Rattle.cpp_direct.specs.Symbol.{Symbol}
use Rattle.cpp_direct.specs.Holes.{Awaits, Comes, Opened, StandsAt, TypeNamed, TypePasses, unless_listed}

-- a type with const as its only qualifier
abbrev pub as_const : Term → Term
as_const t = qualified (record { restrict = false; volatile = false; const = true }) t

-- a type with a qualifier may be expected as one of these kinds
abbrev pub IsQualifiable : Kind → Type 0
IsQualifiable Kind.Type = Unit {0}
IsQualifiable Kind.Item = Unit {0}
IsQualifiable Kind.ItemButRef = Unit {0}
IsQualifiable _ = ⊥

-- no reference is at the place
abbrev pub NoReference : (s : List ℕ) → (at : ℕ) → Type 0
NoReference s at = (StandsAt s at (82 ∷ []) → ⊥) × (StandsAt s at (79 ∷ []) → ⊥)

-- a type that is a name may be expected as one of these kinds
abbrev pub IsNamedKind : Kind → Type 0
IsNamedKind Kind.Solid = Unit {0}
IsNamedKind Kind.LiteralType = Unit {0}
IsNamedKind _ = ⊥

-- Expects a type of this kind; the outer rules accept the type that is made of it.
abbrev pub TypeOpens : (s : Symbol) (kind : Kind) (outer : List Opened) (around : Around) (made : Term → Term) (at : ℕ) (st : State) → Type 0
TypeOpens s kind outer around made at st = Awaits s kind around at st (λ inner.
    TypePasses s inner outer around made)

-- the outer rules accept each tree that the inner ones accept, except for function types; the tree becomes a candidate unless it
-- is one already or never becomes one
abbrev pub TreePasses : (s : Symbol) → (inner outer : List Opened) → Around → Type 0
TreePasses s inner outer around =
    (t : Term) (listed : Bool) (at : ℕ) (st : State) → is_function_type t ≡ false → Comes s inner (tree t listed) at st
    → Comes s outer (tree t true) at (unless_listed listed around t st)

-- Expects a part of this kind, which is the whole type.
abbrev pub TreeOpens : (s : Symbol) (kind : Kind) (outer : List Opened) (around : Around) (at : ℕ) (st : State) → Type 0
TreeOpens s kind outer around at st = Awaits s kind around at st (λ inner.
    TreePasses s inner outer around)

-- Expects a name of a type after an S.
abbrev pub NameOpens : (s : Symbol) (kind : Kind) (outer : List Opened) (around : Around) (at : ℕ) (st : State) → Type 0
NameOpens s kind outer around at st = Awaits s kind around at st (λ inner.
    (t : Term) (listed : Bool) (at : ℕ) (st : State) → Comes s inner (tree t listed) at st → TypeNamed s outer around t listed at st)
