-- The pressed spelling of a part of a symbol is read as this part, after whatever was spelled before it.
use Rattle.std.specs.Prelude.{◌≡◌, ℕ, ◌≤◌, ◌⊎◌, List, [], ◌∷◌, length, true, Option, Some, None, Ok}
use Rattle.sym_shape.specs.declared.rule.Sym.{Sym}
use Rattle.sym_shape.specs.declared.rule.Sym.TheVariants.{Kind as OfKind}
use Rattle.sym_shape.specs.Tree.{Tree as Shape, spell, IsTree}
use Rattle.sym_link.specs.Unfold.{unfold_tree, found}
use Rattle.sym_spell.specs.Pressing as spell
use Rattle.cpp_grammar.specs.declared.kind.Kind.{Kind}
use Rattle.cpp_grammar.specs.Grammar.{number_of_kind}
use Rattle.cpp_grammar.specs.Table.{abi}
use Rattle.cpp_grammar.specs.Term.{Term}
use Rattle.cpp_grammar.specs.Scope.{count}
use Rattle.cpp_grammar.specs.Values.{State, Around, Value, tree}
use Rattle.cpp_grammar.specs.Unfolding.{cpp}
use Rattle.cpp_press_laws.specs.Pressing.{ways_of}
use Rattle.cpp_press_laws.specs.PressLaws.{IsReadFrom}
use Rattle.cpp_press_laws.specs.Fits.{Fitting, any_type, SymbolFits, fits_of}
use Rattle.cpp_press_laws.specs.Components.{Component, components_of, Spelling}

-- ## What it means that a spelling is read

-- what was written, and the components after it
abbrev pub Written : Type 0
Written = spell.Pressed Component

abbrev pub written : (bytes : List ℕ) → (components : List Component) → Written
written bytes components = record { bytes = bytes; components = components }

-- the packs that the innermost expansion has named so far, if any, have the allowed length
abbrev pub IsAllowed : Option ℕ → Option ℕ → Type 0
IsAllowed allowed packs = (packs ≡ None) ⊎ (packs ≡ allowed)

-- The bytes written at a place spell a shape for a symbol of the grammar. The shape is read there as a value for which Q
-- holds, and the candidates after it are the components.
pub record Reads (around : Around) (allowed : Option ℕ) (symbol : Sym) (Q : Value → Type 0) (place : ℕ) (start : State) (w : Written) : Type 0 where
  pub shape : Shape
  pub spelled : spell shape ≡ w.bytes
  pub shaped : IsTree abi symbol shape
  pub value : Value
  pub good : Q value
  pub state : State
  pub unfolds : unfold_tree cpp around place shape start ≡ Ok (found (value ∷ []) state)
  pub candidates : components_of state.candidates ≡ w.components
  pub packs : IsAllowed allowed state.packs

-- what is written at a place is read as a value for which Q holds, in any state whose candidates are these components
abbrev pub ReadsAt : Around → Option ℕ → Sym → (Value → Type 0) → (place : ℕ) → List Component → Written → Type 0
ReadsAt around allowed symbol Q place components w =
    (s : State) → components_of s.candidates ≡ components → IsAllowed allowed s.packs → Reads around allowed symbol Q place s w

-- the value is the given one
abbrev pub Is : Value → Value → Type 0
Is v w = w ≡ v

-- ## Room

-- the greatest number of 64 bits
abbrev pub greatest : ℕ
greatest = 18446744073709551615

-- what is written has a length of 64 bits, and so has the list of components
pub record HasRoom (w : Written) : Type 0 where
  pub short : length w.bytes ≤ greatest
  pub few : length w.components ≤ greatest

-- the list of the arguments that parameters name has a length of 64 bits, too
abbrev pub IsSmall : Around → Type 0
IsSmall around = (arguments : Term) → around.scope ≡ Some arguments → count arguments ≤ greatest

-- ## The laws

-- Each part is read as its tree where it is pressed, if the tree fits there and lengths have 64 bits: at any place, after any
-- components, and in any state whose candidates are these components.
abbrev pub IsReadBehind : Kind → Term → (ℕ → Spelling) → Fitting → Type 0
IsReadBehind kind t spelled fits =
    (around : Around) (allowed : Option ℕ) (place : ℕ) (cs : List Component) → IsSmall around → HasRoom (spelled around.encoding place cs)
    → fits around allowed place cs
    → ReadsAt around allowed (OfKind (number_of_kind kind)) (Is (tree t true)) place cs (spelled around.encoding place cs)

abbrev pub TypesAreRead : Type 0
TypesAreRead = (t : Term) → IsReadBehind Kind.Type t (λ n. (ways_of n t).as_type) ((fits_of t).as_type any_type)

abbrev pub EncodingsAreRead : Type 0
EncodingsAreRead = (t : Term) → IsReadBehind Kind.Encoding t (λ n. (ways_of n t).as_encoding) (λ around. (fits_of t).as_encoding)

-- the tree that a symbol is read as fits from the symbol's first byte on, and each of its parts fits where it is
abbrev pub SymbolsFit : Type 0
SymbolsFit = (shape : Shape) (t : Term) → IsReadFrom shape t → SymbolFits t
