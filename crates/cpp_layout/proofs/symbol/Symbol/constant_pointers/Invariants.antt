-- The type is `levels` pointers to constant types around `inner`, which is a pointer to the next type.
use Rattle.cpp_layout.proofs.Basics.{◌≡◌, ◌≤◌, ◌-◌, length, pointer, IsPlacedBelow, tree_under, trees, table_of, constant_pointers}
use Rattle.cpp_layout.proofs.symbol.Symbol.constant_pointers.Given as goal

abbrev pub invariant-levels : goal.invariant-levels
invariant-levels l =
    (tree_under (trees (table_of l.self)) l.fn.ty ≡ constant_pointers l.levels (tree_under (trees (table_of l.self)) l.inner))
    × (tree_under (trees (table_of l.self)) l.inner ≡ pointer (tree_under (trees (table_of l.self)) l.to))
    × IsPlacedBelow (length l.self.table.nodes) l.inner
    × IsPlacedBelow (length l.self.table.nodes) l.to
    × (l.levels ≤ l.most)

abbrev pub decreases-levels : goal.decreases-levels
decreases-levels l = l.most - l.levels
