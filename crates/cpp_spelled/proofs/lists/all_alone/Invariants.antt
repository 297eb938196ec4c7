use Rattle.std.proofs.Common.{◌≡◌, ◌++◌, map, length}
use Rattle.cpp_spelled.specs.Spelled.{alone}
use Rattle.cpp_spelled.proofs.lists.all_alone.Given as goal

abbrev pub invariant-spans : goal.invariant-spans
invariant-spans l = l.found.items ++ map alone l.left ≡ map alone l.fn.spans

abbrev pub decreases-spans : goal.decreases-spans
decreases-spans l = length l.left
