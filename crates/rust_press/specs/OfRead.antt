-- The pressed spelling of a symbol that was read.
use Rattle.std.specs.Prelude.{ℕ, ◌≤◌, List, length}
use Rattle.rust_tree.specs.Layout.{ReadSymbol}
use Rattle.rust_v0.specs.Whole.{whole_of}
use Rattle.rust_press.specs.Pressing.{pressed}
use Rattle.rust_press.specs.Apart.{spelled_components}

-- the pressed spelling of the symbol's tree
unfoldable pub pressed_symbol : ReadSymbol → List ℕ
pressed_symbol y = pressed (whole_of y)

-- At most as many components are spelled out as there are nodes.
abbrev pub HasFewComponents : ReadSymbol → Type 0
HasFewComponents y = length (spelled_components (whole_of y)) ≤ length y.table.nodes
