use Rattle.rust_legacy.proofs.Basics.{◌≡◌, ◌≤◌, ◌-◌, ◌+◌, length, drop, prefix_len, is_digit_of, Hex}
use Rattle.rust_legacy.proofs.escapes.digits_in.Given as goal

abbrev pub invariant-loop-at : goal.invariant-loop-at
invariant-loop-at l = (l.at ≤ length l.bytes) × (l.at + prefix_len (is_digit_of Hex) (drop l.at l.bytes) ≡ prefix_len (is_digit_of Hex) l.bytes)

abbrev pub decreases-loop-at : goal.decreases-loop-at
decreases-loop-at l = length l.bytes - l.at
