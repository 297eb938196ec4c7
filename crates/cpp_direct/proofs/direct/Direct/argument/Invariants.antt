-- The entries that are yet to be visited let types name the same arguments as all open entries do.
use Rattle.cpp_direct.proofs.ForAnswers.{◌≡◌, reverse, argument_of}
use Rattle.cpp_direct.proofs.direct.Direct.argument.Given as goal

abbrev pub invariant-levels : goal.invariant-levels
invariant-levels l = argument_of (reverse l.open) ≡ argument_of (reverse l.self.waiting.list.items)

abbrev pub decreases-levels : goal.decreases-levels
decreases-levels l = l.left
