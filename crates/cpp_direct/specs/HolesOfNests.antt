-- What is expected inside a nested name.
use Rattle.std.specs.Prelude.{ℕ, ◌+◌, List, [], ◌∷◌, Bool, false}
use Rattle.cpp_grammar.specs.declared.kind.Kind.{Kind}
use Rattle.cpp_grammar.specs.Term.{Term, instance}
use Rattle.cpp_grammar.specs.Values.{State, Around, Value}
use Rattle.cpp_grammar.specs.Between.{inside, no_items}
use Rattle.cpp_direct.specs.Symbol.{Symbol}
use Rattle.cpp_direct.specs.Holes.{Awaits, AwaitsComponent, Comes, NestGoesOn, Opened, StandsAt, unless_listed, with_candidate}

-- a nested name may continue as one of these kinds
abbrev pub IsRest : Kind → Type 0
IsRest Kind.NestRestAlone = Unit {0}
IsRest Kind.NestRestOrEnd = Unit {0}
IsRest Kind.NestMoreOrEnd = Unit {0}
IsRest Kind.NestTail = Unit {0}
IsRest _ = ⊥

-- a nested name may continue after its first piece as one of these kinds
abbrev pub IsFirstRest : Kind → Type 0
IsFirstRest Kind.NestRestAlone = Unit {0}
IsFirstRest Kind.NestRestOrEnd = Unit {0}
IsFirstRest _ = ⊥

-- After an I, expects arguments of the name so far; after their E, expects a component.
abbrev pub AwaitsArguments : (s : Symbol) (outer : List Opened) (around : Around) (t : Term) (listed : Bool) (at : ℕ) (st : State) → Type 0
AwaitsArguments s outer around t listed at st = Awaits s Kind.ArgumentList (inside around) (at + 1) (unless_listed listed around t st) (λ inner.
    (l : Value) (at : ℕ) (st : State) → Comes s inner l at st → StandsAt s.bytes at (69 ∷ [])
    → AwaitsComponent s outer around (instance t (no_items l)) (at + 1) (with_candidate around (instance t (no_items l)) st))

-- Likewise for a substituted name: after the E a component follows, or in the wide grammar the name ends.
abbrev pub AwaitsInstance : (s : Symbol) (outer : List Opened) (around : Around) (t : Term) (listed : Bool) (at : ℕ) (st : State) → Type 0
AwaitsInstance s outer around t listed at st = Awaits s Kind.ArgumentList (inside around) (at + 1) (unless_listed listed around t st) (λ inner.
    (l : Value) (at : ℕ) (st : State) → Comes s inner l at st → StandsAt s.bytes at (69 ∷ [])
    → NestGoesOn s Kind.NestMoreOrEnd outer around (instance t (no_items l)) false (at + 1) st)
