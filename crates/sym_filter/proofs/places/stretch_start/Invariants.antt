use Rattle.std.proofs.Common.{◌≤◌}
use Rattle.sym_filter.proofs.places.stretch_start.Given as goal

abbrev pub invariant-bytes : goal.invariant-bytes
invariant-bytes l = l.start ≤ l.at

abbrev pub decreases-bytes : goal.decreases-bytes
decreases-bytes l = l.start
