use Rattle.std.proofs.Common.{◌≡◌, ◌+◌, ◌≤◌, ◌++◌, length, drop, reverse, vec_len, vec_capacity}
use Rattle.sym_print.proofs.part_list.push_reversed.Given as goal

abbrev pub invariant-loop-left : goal.invariant-loop-left
invariant-loop-left g l =
    (l.stack.items ≡ l.fn.stack.items ++ reverse (drop l.left l.parts))
    × (vec_len l.stack + l.left ≡ vec_len l.fn.stack + length l.parts)
    × (vec_capacity l.stack ≡ vec_capacity l.fn.stack)
    × (l.left ≤ length l.parts)

abbrev pub decreases-loop-left : goal.decreases-loop-left
decreases-loop-left g l = l.left
