-- Components that say whether they were compared. Pressing compares a tree with the components before it wherever a
-- reference to one of them may occur. Where no reference may occur, the tree is spelled out and becomes a component,
-- whatever comes before.
use Rattle.std.specs.Prelude.{ℕ, List, [], ◌∷◌, ◌++◌, Bool, true, false, codes, Some, None}
use Rattle.sym_spell.specs.Pressing as spell
use Rattle.sym_spell.specs.Pressing.{◌and◌, text}
use Rattle.cpp_grammar.specs.Term.{Term}
use Rattle.cpp_press_laws.specs.Components.{Component, first_equal, seq_id}

pub record Marked : Type 0 where
  pub component : Component
  pub was_compared : Bool

-- the components without their marks
abbrev pub unmarked : List Marked → List Component
unmarked [] = []
unmarked (c ∷ cs) = c.component ∷ unmarked cs

abbrev pub Spelling : Type 0
Spelling = spell.Pressing Marked

-- the tree is a component from here on
unfoldable pub ended : (was_compared : Bool) → (encoding : ℕ) → Term → Spelling
ended was_compared encoding own place components = record {
  bytes = [];
  components = components ++ record { component = record { tree = own; encoding = encoding }; was_compared = was_compared } ∷ [];
}

-- a component that was compared with those before it, and is equal to none of them; then a component that wasn't compared
abbrev pub compared : (encoding : ℕ) → Term → Spelling
compared = ended true

abbrev pub not_compared : (encoding : ℕ) → Term → Spelling
not_compared = ended false

unfoldable pub reference : (number : ℕ) → Spelling
reference number = text (codes "S" ++ seq_id number ++ codes "_")

-- if an equal component comes before, a reference to it and the spelling `behind`; otherwise the spelling `other`
unfoldable pub referred : (encoding : ℕ) → Term → (behind other : Spelling) → Spelling
referred encoding own behind other place components =
    elim (first_equal encoding own 0 (unmarked components)) [
      | Some number ↦ (reference number and behind) place components
      | None ↦ other place components
    ]

-- a reference to the first component that is equal to the tree; if there is none, the tree's spelling
unfoldable pub component : (encoding : ℕ) → Term → Spelling → Spelling
component encoding own spelling place components =
    elim (first_equal encoding own 0 (unmarked components)) [
      | Some number ↦ reference number place components
      | None ↦ (spelling and compared encoding own) place components
    ]
