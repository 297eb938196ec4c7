use Rattle.rust_press.proofs.Basics.{trees_of, AreFirst, Goes, weight_of_tasks, press_root}
use Rattle.rust_press.proofs.pressing.press_tasks.Given as goal

abbrev pub invariant-tasks : goal.invariant-tasks
invariant-tasks l = Goes l.symbol l.firsts (press_root l.symbol) l.tasks.items l.places.items l.out.items × AreFirst (trees_of l.symbol) l.firsts

abbrev pub decreases-tasks : goal.decreases-tasks
decreases-tasks l = weight_of_tasks l.symbol l.tasks.items
