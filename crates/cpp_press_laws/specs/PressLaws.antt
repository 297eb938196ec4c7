-- What pressing keeps: pressed bytes are spelled by a shape of the grammar, and this shape is read as the pressed tree.
use Rattle.std.specs.Prelude.{◌≡◌, ℕ, ◌≤◌, List, length, Ok}
use Rattle.sym_shape.specs.declared.rule.Sym.TheVariants.{Kind}
use Rattle.sym_shape.specs.Tree.{Tree as Shape, spell, IsTree}
use Rattle.cpp_grammar.specs.Table.{abi}
use Rattle.cpp_grammar.specs.Term.{Term}
use Rattle.cpp_grammar.specs.Unfolding.{unfold_cpp}
use Rattle.cpp_press_laws.specs.Pressing.{pressed}

-- a shape of the grammar is read as the tree
abbrev pub IsReadFrom : Shape → Term → Type 0
IsReadFrom shape t = IsTree abi (Kind 0) shape × (unfold_cpp shape ≡ Ok t)

-- The bytes are well shaped, and every shape of the grammar that spells them is read as the tree.
pub record AreReadAs (bytes : List ℕ) (t : Term) : Type 0 where
  pub shape : Shape
  pub shaped : IsTree abi (Kind 0) shape
  pub spelled : spell shape ≡ bytes
  pub each : (other : Shape) → IsTree abi (Kind 0) other → spell other ≡ bytes → unfold_cpp other ≡ Ok t

-- If some symbol is read as a tree, the tree's pressed bytes are read as the same tree. There may be at most 2^64 - 1 of
-- these bytes, as in any list.
abbrev pub PressedIsRead : Type 0
PressedIsRead = (shape : Shape) (t : Term) → IsReadFrom shape t → length (pressed t) ≤ 18446744073709551615 → AreReadAs (pressed t) t

-- pressed bytes are read as a tree that is pressed to the same bytes
abbrev pub PressedOnce : Type 0
PressedOnce =
    (shape : Shape) (t : Term) → IsReadFrom shape t → length (pressed t) ≤ 18446744073709551615
    → (other : Shape) (again : Term) → IsReadFrom other again → spell other ≡ pressed t → pressed again ≡ pressed t

-- Pressed bytes tell trees apart: if two trees are read from symbols and have the same pressed bytes, they are the same
-- tree.
abbrev pub PressedTellsApart : Type 0
PressedTellsApart =
    (shape other : Shape) (t u : Term) → IsReadFrom shape t → IsReadFrom other u → length (pressed t) ≤ 18446744073709551615
    → pressed t ≡ pressed u → t ≡ u
