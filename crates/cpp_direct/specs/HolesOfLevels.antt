-- What is expected within an argument that names a member of a template's instance, by names that aren't looked up.
use Rattle.std.specs.Prelude.{ℕ, ◌+◌, List, [], ◌∷◌, true, false}
use Rattle.cpp_grammar.specs.declared.kind.Kind.{Kind}
use Rattle.cpp_grammar.specs.Term.{Term, alone, instance, operation, source}
use Rattle.cpp_grammar.specs.Values.{State, Around, Value, tree}
use Rattle.cpp_grammar.specs.Between.{inside, no_items}
use Rattle.cpp_direct.specs.Symbol.{Symbol}
use Rattle.cpp_direct.specs.Holes.{Awaits, Comes, IsNameAt, Opened, StandsAt}

-- the template with this name, where the name isn't looked up
abbrev pub template_named : (name : List ℕ) → Term
template_named name = alone (source false name)

-- the member of an instance with this name, as an operation: sr has the letters 115 and 114
abbrev pub member_of : (instance : Term) → (name : List ℕ) → Term
member_of u name = operation 115 114 u (alone (source false name))

-- Expects an E, the name of a member of the instance, and another E; then the open rules accept the member.
abbrev pub MemberComes : (s : Symbol) → List Opened → (instance : Term) → (at : ℕ) → State → Type 0
MemberComes s os u at st =
    (name : List ℕ) (end : ℕ) → StandsAt s.bytes at (69 ∷ []) → IsNameAt s.bytes (at + 1) name end → StandsAt s.bytes end (69 ∷ [])
    → Comes s os (tree (member_of u name) true) (end + 1) st

-- Expects arguments, after the name of a template and an I; after their E, expects a member of the instance.
abbrev pub LevelOpened : (s : Symbol) (outer : List Opened) (around : Around) (name : List ℕ) (at : ℕ) (st : State) → Type 0
LevelOpened s outer around name at st = Awaits s Kind.ArgumentList (inside around) at st (λ inner.
    (l : Value) (at : ℕ) (st : State) → Comes s inner l at st → StandsAt s.bytes at (69 ∷ [])
    → MemberComes s outer (instance (template_named name) (no_items l)) (at + 1) st)
