-- the bytes so far may be in a name
use Rattle.rust_direct.proofs.Basics.{◌≤◌, ◌-◌, length, ReachesNameBytes, Rust}
use Rattle.rust_direct.proofs.names.named_fours.Given as goal

abbrev pub invariant-fours : goal.invariant-fours
invariant-fours l =
    record {
      high : l.end ≤ length l.bytes;
      each : ReachesNameBytes Rust l.bytes l.end;
    }

abbrev pub decreases-fours : goal.decreases-fours
decreases-fours l = length l.bytes - l.end
