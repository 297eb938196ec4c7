use Rattle.sym_parts.proofs.Basics.{◌≡◌, ◌++◌, length, unprinted}
use Rattle.sym_parts.proofs.bytes.push_unprinted.Given as goal

abbrev pub invariant-spans : goal.invariant-spans
invariant-spans l = l.parts.items ++ unprinted l.end l.left ≡ l.fn.parts.items ++ unprinted l.end l.fn.spans

abbrev pub decreases-spans : goal.decreases-spans
decreases-spans l = length l.left
