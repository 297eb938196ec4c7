-- None of the operators before the next one has this code.
use Rattle.cpp_layout.proofs.Basics.{◌≡◌, ℕ, ◌<◌, ◌≤◌, ◌+◌, ◌*◌, ◌-◌, operator_code, OPERATORS}
use Rattle.cpp_layout.proofs.codes.operator.Given as goal

abbrev pub invariant-codes : goal.invariant-codes
invariant-codes l = (l.number ≤ OPERATORS) × (l.code ≡ l.first * 256 + l.second) × ((k : ℕ) → k < l.number → operator_code k ≡ l.code → ⊥)

abbrev pub decreases-codes : goal.decreases-codes
decreases-codes l = OPERATORS - l.number
