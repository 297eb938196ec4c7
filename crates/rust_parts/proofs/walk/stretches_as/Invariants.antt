use Rattle.rust_parts.proofs.Basics.{◌≡◌, ◌+◌, ◌≤◌, ◌++◌, All, shown_symbol, stretches_of, stretches_at, skipped, IsTask, marks_of_tasks, weight_of_tasks, symbol_marked, whole_of, IsApart, marked_of, weight_of}
use Rattle.rust_parts.proofs.walk.stretches_as.Given as goal

abbrev pub invariant-tasks : goal.invariant-tasks
invariant-tasks l =
    All (IsTask (IsApart l.y l.limit)) l.tasks
    × (l.found.stretches ++ stretches_at l.found.place (marks_of_tasks (marked_of l.y) l.tasks) ≡ stretches_of (symbol_marked (whole_of l.y) (shown_symbol l.fn.detail l.y)))
    × (l.found.place + skipped (marks_of_tasks (marked_of l.y) l.tasks) ≤ l.limit)

abbrev pub decreases-tasks : goal.decreases-tasks
decreases-tasks l = weight_of_tasks (weight_of l.y) l.tasks
