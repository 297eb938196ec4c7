-- What holds of each symbol that was read.
use Rattle.sym_core.specs.declared.TheConstants.{MOST_BYTES}
use Rattle.std.specs.Prelude.{◌+◌, ◌*◌, ◌≤◌, length}
use Rattle.rust_tree.specs.Symbol as tree
use Rattle.rust_tree.specs.Nodes.{IsTable, IsSymbol}
use Rattle.rust_tree.specs.Layout.{ReadSymbol, trees_of}

-- The nodes are a table of the symbol, and the root is the node of a whole symbol. Each count is within its bound.
pub record IsRead (y : ReadSymbol) : Type 0 where
  pub table : IsTable y.bytes y.table
  pub root : (whole : tree.Symbol) × IsSymbol (trees_of y) y.root whole
  pub fits : length y.bytes ≤ MOST_BYTES
  pub rows : y.rows ≤ 4 * length y.bytes + 4
  pub nodes : length y.table.nodes ≤ 4 * length y.bytes + 8
  pub text : length y.table.text ≤ 4 * length y.bytes + 20
  pub steps : y.steps ≤ 32 * length y.bytes + 48
  pub counted : y.rows ≤ y.steps
