use Rattle.cpp_parts.proofs.Basics.{◌≡◌, ◌<◌, length, table_of, plain_tree, own_name}
use Rattle.cpp_parts.proofs.kinds.own_node.Given as goal

abbrev pub invariant-names : goal.invariant-names
invariant-names l =
    (own_name (plain_tree (table_of l.y) l.at) ≡ own_name (plain_tree (table_of l.y) l.fn.node))
    × (l.at < length l.y.table.nodes)

abbrev pub decreases-names : goal.decreases-names
decreases-names l = l.at
