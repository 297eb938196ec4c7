-- Pressing a symbol's tree spells out at most as many components as the symbol has candidates.
use Rattle.std.specs.Prelude.{◌≡◌, ◌≤◌, List, length, Ok}
use Rattle.sym_shape.specs.Tree.{Tree as Shape}
use Rattle.sym_link.specs.Reading.{Found}
use Rattle.sym_link.specs.Unfold.{unfold_tree}
use Rattle.cpp_grammar.specs.Term.{Term}
use Rattle.cpp_grammar.specs.Values.{State, Value}
use Rattle.cpp_grammar.specs.Unfolding.{cpp, first_around, first_state}
use Rattle.cpp_press_laws.specs.Apart.{spelled_components}
use Rattle.cpp_press_laws.specs.PressLaws.{IsReadFrom}

-- at most as many components are spelled out as the symbol has candidates
abbrev pub ComponentsAreFew : Type 0
ComponentsAreFew =
    (shape : Shape) (t : Term) → IsReadFrom shape t → (read : Found (List Value) State)
    → unfold_tree cpp first_around 0 shape first_state ≡ Ok read → length (spelled_components t) ≤ length read.state.candidates
