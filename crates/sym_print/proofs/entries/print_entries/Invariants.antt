use Rattle.sym_print.proofs.Basics.{◌≡◌, ◌+◌, ◌-◌, ◌*◌, ◌≤◌, ◌++◌, max, vec_len, vec_capacity, All, AreNoted, peak_of_stack, spare_of_stack, text_of_stack, cost_of_stack, steps_of_stack}
use Rattle.sym_room.specs.Room.{most_for}
use Rattle.sym_print.proofs.entries.print_entries.Given as goal

abbrev pub invariant-loop-next : goal.invariant-loop-next
invariant-loop-next g l =
    All (g.Y.Layout.may_come l.y) l.stack.items
    × (l.text.items ++ text_of_stack (g.Y.Layout.unshared l.y) (g.Y.Layout.bytes_of l.y) l.stack.items ≡ l.fn.text.items ++ text_of_stack (g.Y.Layout.unshared l.y) (g.Y.Layout.bytes_of l.y) l.fn.stack.items)
    × (l.meter.spent + cost_of_stack (g.Y.Layout.unshared l.y) (g.Y.Layout.bytes_of l.y) l.stack.items ≡ l.fn.meter.spent + cost_of_stack (g.Y.Layout.unshared l.y) (g.Y.Layout.bytes_of l.y) l.fn.stack.items)
    × (l.meter.steps + steps_of_stack (g.Y.Layout.unshared l.y) (g.Y.Layout.bytes_of l.y) l.stack.items ≡ l.fn.meter.steps + steps_of_stack (g.Y.Layout.unshared l.y) (g.Y.Layout.bytes_of l.y) l.fn.stack.items)
    × (vec_len l.text ≤ l.meter.spent)
    × (vec_len l.stack ≤ 7 * l.meter.spent + 1)
    × (l.meter.limit ≡ l.fn.meter.limit)
    × (vec_capacity l.fn.stack ≤ vec_capacity l.stack)
    × (vec_capacity l.fn.text ≤ vec_capacity l.text)
    × AreNoted (g.Y.Layout.unshared l.y) (g.Y.Layout.bytes_of l.y) l.notes l.stack.items l.text.items l.meter.spent l.meter.steps
    × (peak_of_stack (g.Y.Layout.unshared l.y) l.stack.items ≤ peak_of_stack (g.Y.Layout.unshared l.y) l.fn.stack.items)
    × (vec_capacity l.stack ≤ max (vec_capacity l.fn.stack) (most_for (peak_of_stack (g.Y.Layout.unshared l.y) l.fn.stack.items + 8)))
    × (l.meter.steps ≤ l.meter.spent + spare_of_stack (g.Y.Layout.bytes_of l.y) l.stack.items)

abbrev pub decreases-loop-next : goal.decreases-loop-next
decreases-loop-next g l = 2 * (l.meter.limit - l.meter.spent) + vec_len l.notes.begun
