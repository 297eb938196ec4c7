use Rattle.std.proofs.Common.{◌+◌, ◌-◌, ◌≤◌}
use Rattle.sym_recent.proofs.marks.mixed_long.Given as goal

abbrev pub invariant-steps : goal.invariant-steps
invariant-steps l = l.at ≤ l.last + 31

abbrev pub decreases-steps : goal.decreases-steps
decreases-steps l = l.last - l.at
