-- The paths so far and those from the next one on are together all paths of the name.
use Rattle.std.proofs.Common.{◌≡◌, ◌<◌, ◌++◌, length}
use Rattle.std.specs.List.{All}
use Rattle.rust_spelled.specs.Paths.{paths_from, paths_of}
use Rattle.rust_spelled.proofs.paths.paths_of.Given as goal

abbrev pub invariant-paths : goal.invariant-paths
invariant-paths l = record {
  goes : l.paths.items ++ paths_from l.left l.rows l.next ≡ paths_of l.rows;
  within : All (λ path. path < length l.rows) l.paths.items;
}

abbrev pub decreases-paths : goal.decreases-paths
decreases-paths l = l.left
