use Rattle.rust_parts.proofs.Basics.{◌≡◌, ◌<◌, length, kind_of_path, kind_of_symbol, whole_of, path_at}
use Rattle.rust_parts.proofs.kinds.kind_of.Given as goal

abbrev pub invariant-paths : goal.invariant-paths
invariant-paths l = (l.node < length l.y.table.nodes) × (kind_of_path (path_at l.y l.node) ≡ kind_of_symbol (whole_of l.y))

abbrev pub decreases-paths : goal.decreases-paths
decreases-paths l = l.node
