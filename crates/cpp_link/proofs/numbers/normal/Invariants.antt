-- Skipping the zeros so far doesn't change the digits without leading zeros.
use Rattle.cpp_link.proofs.Basics.{◌≡◌, ◌≤◌, ◌-◌, slice_range, normal}
use Rattle.cpp_link.proofs.numbers.normal.Given as goal

abbrev pub invariant-zeros : goal.invariant-zeros
invariant-zeros l =
    (l.text.from ≤ l.from) × (l.from ≤ l.text.to) × (normal (slice_range l.symbol l.from l.text.to) ≡ normal (slice_range l.symbol l.text.from l.text.to))

abbrev pub decreases-zeros : goal.decreases-zeros
decreases-zeros l = l.text.to - l.from
