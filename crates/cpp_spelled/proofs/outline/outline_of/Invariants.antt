use Rattle.std.proofs.Common.{◌≡◌, ◌++◌, ◌-◌, drop, length}
use Rattle.cpp_spelled.specs.Outline.{outline_from, outline_of}
use Rattle.cpp_spelled.proofs.outline.outline_of.Given as goal

abbrev pub invariant-rows : goal.invariant-rows
invariant-rows l = l.outline.items ++ outline_from l.rows l.number l.number (drop l.number l.rows) ≡ outline_of l.fn.rows

abbrev pub decreases-rows : goal.decreases-rows
decreases-rows l = length l.rows - l.number
