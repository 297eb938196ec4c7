-- the bytes so far may be in a name
use Rattle.rust_direct.proofs.Basics.{◌≤◌, ◌-◌, Rust, is_name_byte, EachPasses}
use Rattle.rust_direct.proofs.names.are_any_name_bytes.Given as goal

abbrev pub invariant-lanes : goal.invariant-lanes
invariant-lanes l =
    record {
      low : l.from ≤ l.at;
      high : l.at ≤ l.to;
      each : EachPasses (is_name_byte Rust) l.s l.from (l.at - l.from);
    }

abbrev pub decreases-lanes : goal.decreases-lanes
decreases-lanes l = l.to - l.at
