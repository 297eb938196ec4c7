use Rattle.sym_parts.proofs.Basics.{◌≡◌, length, once}
use Rattle.sym_parts.proofs.bytes.once.Given as goal

abbrev pub invariant-spans : goal.invariant-spans
invariant-spans l = once l.others l.role l.spans ≡ once l.others l.role l.left

abbrev pub decreases-spans : goal.decreases-spans
decreases-spans l = length l.left
