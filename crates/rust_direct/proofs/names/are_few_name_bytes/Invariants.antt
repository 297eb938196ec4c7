-- the bytes so far may be in a name
use Rattle.rust_direct.proofs.Basics.{◌≤◌, ◌-◌, length, ReachesNameBytes, Rust}
use Rattle.rust_direct.proofs.names.are_few_name_bytes.Given as goal

abbrev pub invariant-ones : goal.invariant-ones
invariant-ones l =
    record {
      high : l.end ≤ length l.bytes;
      each : ReachesNameBytes Rust l.bytes l.end;
    }

abbrev pub decreases-ones : goal.decreases-ones
decreases-ones l = length l.bytes - l.end
