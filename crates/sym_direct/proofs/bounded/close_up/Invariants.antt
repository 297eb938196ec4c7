-- The bytes before the place are closed up.
use Rattle.std.proofs.Common.{length, ◌-◌}
use Rattle.sym_direct.proofs.Marking.{AreClosedUp}
use Rattle.sym_direct.proofs.bounded.close_up.Given as goal

abbrev pub invariant-runs : goal.invariant-runs
invariant-runs l = AreClosedUp l.fn.bytes l.bytes l.kept l.depth l.at

abbrev pub decreases-runs : goal.decreases-runs
decreases-runs l = length l.bytes - l.at
