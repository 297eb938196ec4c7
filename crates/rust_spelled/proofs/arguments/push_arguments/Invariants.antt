-- The arguments so far and those from the next one on are together all arguments of the list.
use Rattle.std.proofs.Common.{◌≡◌, ◌++◌}
use Rattle.rust_spelled.specs.Arguments.{arguments_from, arguments_of}
use Rattle.rust_spelled.proofs.arguments.push_arguments.Given as goal

abbrev pub invariant-arguments : goal.invariant-arguments
invariant-arguments l = l.elements.items ++ arguments_from l.left l.rows l.argument l.end ≡ l.fn.elements.items ++ arguments_of l.rows l.path

abbrev pub decreases-arguments : goal.decreases-arguments
decreases-arguments l = l.left
