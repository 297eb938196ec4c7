use Rattle.cpp_press.proofs.Basics.{whole_of, tasks_weight, known_in, AreFirst, Goes}
use Rattle.cpp_press.proofs.pressing.press_tasks.Given as goal

abbrev pub invariant-tasks : goal.invariant-tasks
invariant-tasks l = Goes l.symbol l.firsts (whole_of l.symbol) (known_in l.components) l.components.count l.tasks.items l.out.items × AreFirst l.symbol l.firsts

abbrev pub decreases-tasks : goal.decreases-tasks
decreases-tasks l = tasks_weight l.symbol l.tasks.items
