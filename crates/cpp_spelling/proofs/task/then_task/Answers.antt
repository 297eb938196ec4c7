use Rattle.cpp_spelling.proofs.Basics.{ap, sym, subst, ◌∙◌, press_tasks, tasks_weight, AreTasks}
use Rattle.cpp_spelling.proofs.Pushed.{tasks-push, weight-push, tasks-more}
use Rattle.cpp_spelling.proofs.task.then_task.Goals as goal

pub returns-clause-presses : goal.returns-clause-presses
returns-clause-presses c =
    ap (press_tasks c.args.symbol.now) c.push_reserved.ensures.items ∙ tasks-push c.args.symbol.now c.args.tasks.now.items c.args.task

pub returns-clause-weight : goal.returns-clause-weight
returns-clause-weight c =
    ap (tasks_weight c.args.symbol.now) c.push_reserved.ensures.items ∙ weight-push c.args.symbol.now c.args.tasks.now.items c.args.task

pub returns-clause-tasks : goal.returns-clause-tasks
returns-clause-tasks c =
    subst (AreTasks c.args.symbol.now) (sym c.push_reserved.ensures.items) (tasks-more c.args.symbol.now c.args.tasks.now.items c.args.task c.requires.tasks c.requires.task)
