use Rattle.std.proofs.Common.{◌≡◌, ◌++◌, length}
use Rattle.cpp_spelled.specs.Spelled.{arguments_in}
use Rattle.cpp_spelled.proofs.lists.arguments_in.Given as goal

abbrev pub invariant-rows : goal.invariant-rows
invariant-rows l = l.found.items ++ arguments_in l.before l.left ≡ arguments_in 0 l.fn.outline

abbrev pub decreases-rows : goal.decreases-rows
decreases-rows l = length l.left
