use Rattle.sym_parts.proofs.Basics.{◌≡◌, ◌++◌, length, map, part_of}
use Rattle.sym_parts.proofs.bytes.push_parts.Given as goal

abbrev pub invariant-stretches : goal.invariant-stretches
invariant-stretches l = l.parts.items ++ map (part_of l.spelling) l.left ≡ l.fn.parts.items ++ map (part_of l.spelling) l.fn.stretches

abbrev pub decreases-stretches : goal.decreases-stretches
decreases-stretches l = length l.left
