-- Components and the references to them (ABI 5.1.10). A component is what a substitution may name; components are numbered from 0
-- in the order in which their spellings end.
use Rattle.std.specs.Prelude.{ℕ, zero, suc, ◌+◌, List, [], ◌∷◌, ◌++◌, Bool, true, false, not, ◌&&◌, ◌||◌, nat_eq, codes, Option, Some, None}
use Rattle.sym_spell.specs.Pressing as spell
use Rattle.sym_spell.specs.Pressing.{◌and◌, text}
use Rattle.sym_spell.specs.Digits.{digits_in, digit36}
use Rattle.cpp_grammar.specs.Term.{Term}
use Rattle.cpp_grammar.specs.Scope.{is_open}
use Rattle.cpp_grammar.specs.Values.{Candidate}
use Rattle.cpp_press_laws.specs.Same.{same_tree}

-- a tree, with the encoding that it was spelled in: the place where that encoding begins
pub record Component : Type 0 where
  pub tree : Term
  pub encoding : ℕ

-- the candidates of a reader, as components
unfoldable pub components_of : List Candidate → List Component
components_of [] = []
components_of (c ∷ cs) = record { tree = c.tree; encoding = c.encoding } ∷ components_of cs

-- spellings; their components are in the order of their numbers
abbrev pub Spelling : Type 0
Spelling = spell.Pressing Component

-- A free parameter denotes an argument of its encoding, so a tree with free parameters is equal only to trees of its own
-- encoding.
unfoldable pub is_same : (encoding : ℕ) → Term → Component → Bool
is_same encoding own c = same_tree own c.tree && (not (is_open own) || nat_eq c.encoding encoding)

-- the number of the first component that is equal to a tree; the first of the list has the number `from`
unfoldable pub first_equal : (encoding : ℕ) → Term → (from : ℕ) → List Component → Option ℕ
first_equal encoding own from [] = None
first_equal encoding own from (c ∷ cs) = elim (is_same encoding own c) [ true ↦ Some from | false ↦ first_equal encoding own (from + 1) cs ]

-- The number in a reference (ABI 5.1, `<seq-id>`): the first one has no digits, and digits of value v in base 36 denote
-- v + 1.
unfoldable pub seq_id : ℕ → List ℕ
seq_id zero = []
seq_id (suc n) = digits_in 36 digit36 40 n

unfoldable pub reference : (number : ℕ) → Spelling
reference number = text (codes "S" ++ seq_id number ++ codes "_")

-- the tree is a component from here on
unfoldable pub ended : (encoding : ℕ) → Term → Spelling
ended encoding own place components = record { bytes = []; components = components ++ record { tree = own; encoding = encoding } ∷ [] }

unfoldable pub spelled_out : (encoding : ℕ) → Term → Spelling → Spelling
spelled_out encoding own spelling = spelling and ended encoding own

-- if an equal component comes before, a reference to it and the spelling `behind`; otherwise the spelling `other`
unfoldable pub referred : (encoding : ℕ) → Term → (behind other : Spelling) → Spelling
referred encoding own behind other place components =
    elim (first_equal encoding own 0 components) [ Some number ↦ (reference number and behind) place components | None ↦ other place components ]

-- a reference to the first component that is equal to the tree; if there is none, the tree's spelling
unfoldable pub component : (encoding : ℕ) → Term → Spelling → Spelling
component encoding own spelling place components =
    elim (first_equal encoding own 0 components) [ Some number ↦ reference number place components | None ↦ spelled_out encoding own spelling place components ]
