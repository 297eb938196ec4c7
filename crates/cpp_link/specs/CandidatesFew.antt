-- A symbol has fewer candidates than nodes.
use Rattle.std.specs.Prelude.{◌≡◌, ◌+◌, ◌≤◌, List, length, Ok}
use Rattle.sym_shape.specs.declared.rule.Sym.TheVariants.{Kind}
use Rattle.sym_shape.specs.Tree.{Tree, IsTree}
use Rattle.sym_link.specs.Reading.{Found}
use Rattle.sym_link.specs.Unfold.{unfold_tree}
use Rattle.cpp_grammar.specs.Table.{wide}
use Rattle.cpp_grammar.specs.Values.{State, Value}
use Rattle.cpp_grammar.specs.Unfolding.{cpp, first_around, first_state}
use Rattle.cpp_link.specs.NodeCount.{nodes_of_shape}

-- Each candidate of a symbol that is read was made as a node, in addition to the four nodes at the front of each table.
abbrev pub CandidatesAreFew : Type 0
CandidatesAreFew =
    (shape : Tree) → IsTree wide (Kind 0) shape → (read : Found (List Value) State)
    → unfold_tree cpp first_around 0 shape first_state ≡ Ok read
    → 4 + length read.state.candidates ≤ nodes_of_shape shape
