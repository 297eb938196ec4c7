-- The requested element is the one at the remaining place of the remaining list.
use Rattle.cpp_tree.proofs.Basics.{◌≡◌, ◌<◌, length, element, over, trees, tree_under, IsAliasBelow}
use Rattle.cpp_tree.proofs.nodes.Nodes.element.Given as goal

abbrev pub invariant-runs : goal.invariant-runs
invariant-runs l =
    let ts = trees (over l.symbol l.self) in
    (l.cell < length l.self.nodes) × IsAliasBelow (length l.self.nodes) l.under
    × (element (tree_under ts (record { node = l.cell; under = l.under })) l.left
    ≡ element (tree_under ts (record { node = l.initial.cell; under = l.initial.under })) l.k)

abbrev pub decreases-runs : goal.decreases-runs
decreases-runs l = l.left
