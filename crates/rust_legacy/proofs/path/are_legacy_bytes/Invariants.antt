use Rattle.rust_legacy.proofs.Basics.{◌≡◌, ◌≤◌, ◌-◌, ◌&&◌, length, drop, list_all, is_legacy_byte}
use Rattle.rust_legacy.proofs.path.are_legacy_bytes.Given as goal

abbrev pub invariant-loop-at : goal.invariant-loop-at
invariant-loop-at l = (l.at ≤ length l.bytes) × ((l.are && list_all is_legacy_byte (drop l.at l.bytes)) ≡ list_all is_legacy_byte l.bytes)

abbrev pub decreases-loop-at : goal.decreases-loop-at
decreases-loop-at l = length l.bytes - l.at
