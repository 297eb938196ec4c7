use Rattle.rust_v0.proofs.Basics.{◌≡◌, ◌-◌, ◌≤◌, length, drop, value16}
use Rattle.rust_v0.proofs.tokens.without_zeros.Given as goal

abbrev pub invariant-loop-zeros : goal.invariant-loop-zeros
invariant-loop-zeros l = (l.zeros ≤ length l.digits) × (value16 (drop l.zeros l.digits) ≡ value16 l.digits)

abbrev pub decreases-loop-zeros : goal.decreases-loop-zeros
decreases-loop-zeros l = length l.digits - l.zeros
