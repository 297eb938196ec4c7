use Rattle.std.proofs.Common.{◌≡◌, length}
use Rattle.cpp_spelled.specs.Outline.{from_first}
use Rattle.cpp_spelled.proofs.outline.from_first.Given as goal

abbrev pub invariant-rows : goal.invariant-rows
invariant-rows l = from_first l.sought l.left ≡ from_first l.fn.sought l.fn.outline

abbrev pub decreases-rows : goal.decreases-rows
decreases-rows l = length l.left
