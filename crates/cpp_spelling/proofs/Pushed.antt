-- A list of tasks with one more task.
use Rattle.cpp_spelling.proofs.Basics.{◌≡◌, ◌+◌, List, [], ◌∷◌, ◌++◌, sym, ap, arith, ◌∙◌, ◌and◌, and-assoc, and-nothing, nothing-and, ReadSymbol, Spelling, ◌onto◌, press_task, press_tasks, IsTask, AreTasks, task_weight, tasks_weight}
use Rattle.cpp_spelling.specs.declared.task.Task.{Task}

pub tasks-push : (y : ReadSymbol) (xs : List Task) (t : Task) → press_tasks y (xs ++ t ∷ []) ≡ press_task y t onto press_tasks y xs
unfolding press_tasks ◌onto◌
tasks-push y [] t = nothing-and (press_task y t) ∙ sym (and-nothing (press_task y t))
tasks-push y (x ∷ xs) t =
    ap {B = Spelling} (λ (f : Spelling). f and press_task y x) (tasks-push y xs t) ∙ and-assoc (press_task y t) (press_tasks y xs) (press_task y x)

pub weight-push : (y : ReadSymbol) (xs : List Task) (t : Task) → tasks_weight y (xs ++ t ∷ []) ≡ task_weight y t + tasks_weight y xs
unfolding tasks_weight
weight-push y [] t = omega arith
weight-push y (x ∷ xs) t = omega (arith, weight-push y xs t)

pub tasks-more : (y : ReadSymbol) (xs : List Task) (t : Task) → AreTasks y xs → IsTask y t → AreTasks y (xs ++ t ∷ [])
unfolding AreTasks
tasks-more y [] t are is = (is, tt)
tasks-more y (x ∷ xs) t are is = (are.0, tasks-more y xs t are.1 is)

pub tasks-less : (y : ReadSymbol) (xs : List Task) (t : Task) → AreTasks y (xs ++ t ∷ []) → IsTask y t × AreTasks y xs
unfolding AreTasks
tasks-less y [] t are = (are.0, tt)
tasks-less y (x ∷ xs) t are = let more = tasks-less y xs t are.1 in (more.0, (are.0, more.1))
