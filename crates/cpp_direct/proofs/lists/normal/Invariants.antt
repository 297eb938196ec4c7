-- The digits from the place on are equal to all the digits, up to leading zeros.
use Rattle.cpp_direct.proofs.ForAnswers.{◌≡◌, ◌≤◌, ◌-◌, length, drop}
use Rattle.cpp_grammar.specs.Values as values
use Rattle.cpp_direct.proofs.lists.normal.Given as goal

abbrev pub invariant-zeros : goal.invariant-zeros
invariant-zeros l = (l.at ≤ length l.digits) × (values.normal (drop l.at l.digits) ≡ values.normal l.digits)

abbrev pub decreases-zeros : goal.decreases-zeros
decreases-zeros l = length l.digits - l.at
