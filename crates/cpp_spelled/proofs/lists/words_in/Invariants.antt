use Rattle.std.proofs.Common.{◌≡◌, ◌++◌, length}
use Rattle.cpp_spelled.specs.Spelled.{words_in}
use Rattle.cpp_spelled.proofs.lists.words_in.Given as goal

abbrev pub invariant-rows : goal.invariant-rows
invariant-rows l = l.found.items ++ words_in l.object l.left ≡ words_in l.fn.object l.fn.outline

abbrev pub decreases-rows : goal.decreases-rows
decreases-rows l = length l.left
