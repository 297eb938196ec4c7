-- If the entries that are yet to be tested have written nothing, none has written anything.
use Rattle.rust_direct.proofs.Basics.{length, reverse, IsUnbegun}
use Rattle.rust_direct.proofs.direct.Direct.is_unbegun.Given as goal

abbrev pub invariant-paths : goal.invariant-paths
invariant-paths l = IsUnbegun (reverse l.waiting) → IsUnbegun (reverse l.self.waiting.list.items)

abbrev pub decreases-paths : goal.decreases-paths
decreases-paths l = length l.waiting
