use Rattle.sym_parts.proofs.Basics.{◌≡◌, ◌+◌, ◌≤◌, length, joined, ArePayable}
use Rattle.sym_print.specs.Unshared.{text_of, cost_of_parts, steps_of_parts}
use Rattle.sym_parts.proofs.lengths.length_of_all.Given as goal

abbrev pub invariant-parts : goal.invariant-parts
invariant-parts g l =
    (l.length + length (text_of (joined (g.Y.Layout.unshared l.y) (g.Y.Layout.bytes_of l.y) l.left)) ≡ length (text_of (joined (g.Y.Layout.unshared l.y) (g.Y.Layout.bytes_of l.y) l.fn.parts)))
    × ArePayable (g.Y.Layout.unshared l.y) (g.Y.Layout.bytes_of l.y) (g.Y.Layout.may_come l.y) l.most l.left
    × (l.length + cost_of_parts (joined (g.Y.Layout.unshared l.y) (g.Y.Layout.bytes_of l.y) l.left) ≤ l.most)

abbrev pub decreases-parts : goal.decreases-parts
decreases-parts g l = steps_of_parts (joined (g.Y.Layout.unshared l.y) (g.Y.Layout.bytes_of l.y) l.left)
