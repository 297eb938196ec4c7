-- The bytes from the first place to the place that is reached are neither marks nor 0.
use Rattle.std.proofs.Common.{length, ◌-◌}
use Rattle.sym_direct.proofs.Marking.{IsRun}
use Rattle.sym_direct.proofs.bounded.few_end.Given as goal

abbrev pub invariant-bytes : goal.invariant-bytes
invariant-bytes l = IsRun l.fn.bytes l.fn.from l.at

abbrev pub decreases-bytes : goal.decreases-bytes
decreases-bytes l = length l.fn.bytes - l.at
