-- None of the paths before the next one adds a name.
use Rattle.std.proofs.Common.{◌≡◌, drop}
use Rattle.rust_spelled.specs.Paths.{first_named}
use Rattle.rust_spelled.proofs.paths.first_named.Given as goal

abbrev pub invariant-loop-path : goal.invariant-loop-path
invariant-loop-path l = first_named l.symbol l.rows (drop l.path-index l.paths) ≡ first_named l.symbol l.rows l.paths
