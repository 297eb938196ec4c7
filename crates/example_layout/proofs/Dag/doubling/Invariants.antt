use Rattle.std.proofs.Common.{◌≡◌, ◌-◌, ◌≤◌}
use Rattle.example_layout.specs.Dag.{doubled}
use Rattle.example_layout.proofs.Dag.doubling.Given as goal

abbrev pub invariant-loop-below : goal.invariant-loop-below
invariant-loop-below l = (l.nodes.items ≡ doubled l.below) × (l.below ≤ l.levels)

abbrev pub decreases-loop-below : goal.decreases-loop-below
decreases-loop-below l = l.levels - l.below
