-- The candidates up to a place were visited.
use Rattle.cpp_direct.proofs.ForAnswers.{◌-◌, length, AreGoneOver}
use Rattle.cpp_direct.proofs.writing.hide.Given as goal

abbrev pub invariant-candidates : goal.invariant-candidates
invariant-candidates l = record { gone : AreGoneOver l.hiding l.at l.fn.candidates.list.items l.candidates.list.items }

abbrev pub decreases-candidates : goal.decreases-candidates
decreases-candidates l = length l.candidates.list.items - l.at
