use Rattle.cpp_parts.proofs.Basics.{◌≡◌, ◌+◌, ◌≤◌, length, text_of, cost_of_parts, steps_of_parts, ArePayable, printed_by}
use Rattle.cpp_parts.proofs.lengths.length_of_all.Given as goal

abbrev pub invariant-parts : goal.invariant-parts
invariant-parts l =
    (l.length + length (text_of (printed_by l.y l.left)) ≡ length (text_of (printed_by l.y l.fn.parts)))
    × ArePayable l.y l.most l.left
    × (l.length + cost_of_parts (printed_by l.y l.left) ≤ l.most)

abbrev pub decreases-parts : goal.decreases-parts
decreases-parts l = steps_of_parts (printed_by l.y l.left)
