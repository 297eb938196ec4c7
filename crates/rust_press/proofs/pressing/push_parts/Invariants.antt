use Rattle.rust_press.proofs.Basics.{◌≤◌, length, drop, fields_at, ArePushed}
use Rattle.rust_press.proofs.pressing.push_parts.Given as goal

abbrev pub invariant-loop-left : goal.invariant-loop-left
invariant-loop-left l = ArePushed l.symbol (drop l.left (fields_at l.symbol l.node).parts) l.fn.tasks.items l.tasks.items × (l.left ≤ length (fields_at l.symbol l.node).parts)

abbrev pub decreases-loop-left : goal.decreases-loop-left
decreases-loop-left l = l.left
