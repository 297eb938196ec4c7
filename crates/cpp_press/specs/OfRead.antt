-- The pressed spelling of a symbol that was read.
use Rattle.std.specs.Prelude.{ℕ, ◌+◌, ◌≤◌, List, length, Ok}
use Rattle.sym_demangle.specs.Standing.{AreNodesOf}
use Rattle.cpp_grammar.specs.Mangled.{IsReading}
use Rattle.cpp_grammar.specs.Table.{abi}
use Rattle.cpp_layout.specs.Layout.{ReadSymbol, whole_of}
use Rattle.cpp_press_laws.specs.Apart.{spelled_components}
use Rattle.cpp_press_laws.specs.Repeated.{repeated_components}
use Rattle.cpp_link.specs.NodeCount.{are_nodes}

-- How many components are spelled out.
pub record HasFewComponents (y : ReadSymbol) : Type 0 where
  -- Apart from components whose trees were spelled out before, there are at most as many components as nodes.
  pub apart : length (spelled_components (whole_of y)) ≤ length y.table.nodes + length (repeated_components (whole_of y))
  -- If some bytes are read as the symbol's tree, and their shape has as many nodes as the symbol, each component has a
  -- node of its own, apart from the four nodes with which a table begins.
  pub of_read : (s : List ℕ) → IsReading s (Ok (whole_of y)) → AreNodesOf abi are_nodes s (length y.table.nodes)
      → 4 + length (spelled_components (whole_of y)) ≤ length y.table.nodes
