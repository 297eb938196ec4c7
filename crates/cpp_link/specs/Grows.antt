-- Tables that get more nodes.
use Rattle.std.specs.Prelude.{◌≡◌, ℕ, ◌+◌, ◌<◌, ◌≤◌, ◌^◌, List, length}
use Rattle.cpp_tree.specs.Nodes.{Stored, over, tree_at, IsTable}
use Rattle.cpp_link.specs.Parts.{trees_in}

-- the new table is the old one and at most n nodes more: existing nodes keep their meaning
pub record Grows (s : List ℕ) (old new : Stored) (more : ℕ) : Type 0 where
  pub table : IsTable (over s new)
  pub stays : (i : ℕ) → i < length old.nodes → tree_at (trees_in s new) i ≡ tree_at (trees_in s old) i
  pub least : length old.nodes ≤ length new.nodes
  pub few : length new.nodes ≤ length old.nodes + more
  pub thunks : length old.thunks ≤ length new.thunks
  pub few_thunks : length new.thunks ≤ length old.thunks + 1

-- what is stored is a table, with room for n more nodes
pub record HasPlace (s : List ℕ) (y : Stored) (more : ℕ) : Type 0 where
  pub table : IsTable (over s y)
  pub nodes : length y.nodes + more < 2 ^ 32
  pub thunks : length y.thunks + 1 < 2 ^ 32
