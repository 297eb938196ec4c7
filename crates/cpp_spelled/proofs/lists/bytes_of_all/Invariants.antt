use Rattle.std.proofs.Common.{◌≡◌, ◌++◌, length}
use Rattle.cpp_spelled.specs.Outline.{bytes_of_all}
use Rattle.cpp_spelled.proofs.lists.bytes_of_all.Given as goal

abbrev pub invariant-rows : goal.invariant-rows
invariant-rows l = l.found.items ++ bytes_of_all l.sought l.left ≡ bytes_of_all l.fn.sought l.fn.outline

abbrev pub decreases-rows : goal.decreases-rows
decreases-rows l = length l.left
