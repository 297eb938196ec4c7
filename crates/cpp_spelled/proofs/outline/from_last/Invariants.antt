use Rattle.std.proofs.Common.{◌≡◌, length}
use Rattle.cpp_spelled.specs.Outline.{from_last, or_else}
use Rattle.cpp_spelled.proofs.outline.from_last.Given as goal

abbrev pub invariant-rows : goal.invariant-rows
invariant-rows l = or_else (from_last l.sought l.left) l.found ≡ from_last l.fn.sought l.fn.outline

abbrev pub decreases-rows : goal.decreases-rows
decreases-rows l = length l.left
