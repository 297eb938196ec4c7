-- The bytes from the first place to the one that is reached are neither marks nor 0.
use Rattle.std.proofs.Common.{length, ◌-◌}
use Rattle.sym_direct.proofs.Marking.{IsRun}
use Rattle.sym_direct.proofs.bounded.run_end.Given as goal

abbrev pub invariant-lanes : goal.invariant-lanes
invariant-lanes l = IsRun l.fn.bytes l.fn.from l.at

abbrev pub decreases-lanes : goal.decreases-lanes
decreases-lanes l = length l.fn.bytes - l.at
