use Rattle.std.proofs.Common.{◌≡◌, ◌+◌, length}
use Rattle.cpp_spelled.specs.Spelled.{elements_ahead}
use Rattle.cpp_spelled.proofs.lists.elements_ahead.Given as goal

abbrev pub invariant-rows : goal.invariant-rows
invariant-rows l = l.count + elements_ahead l.left ≡ elements_ahead l.fn.outline

abbrev pub decreases-rows : goal.decreases-rows
decreases-rows l = length l.left
