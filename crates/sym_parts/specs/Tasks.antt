-- What is still to be done: bytes to advance by, stretches to begin, and what is to be taken apart later.
use Rattle.std.specs.Prelude.{◌≡◌, ℕ, ◌+◌, ◌≤◌, List, [], ◌∷◌, ◌++◌}
use Rattle.std.specs.List.{All}
use Rattle.sym_parts.specs.Found.{Found}
use Rattle.sym_parts.specs.Marked.{Marked, ◌before◌}
use Rattle.sym_parts.specs.Marks.{Mark, skip, begin, marks_of, stretches_at, skipped}
use Rattle.sym_parts.specs.declared.task.Task.{Task}
use Rattle.sym_parts.specs.declared.task.Task.TheVariants as task

module _ {T : Type 0} (marked_of : T → Marked) where
  -- the marks that a task leads to
  unfoldable pub marks_of_task : Task T → List Mark
  marks_of_task (task.Skip n) = skip n ∷ []
  marks_of_task (task.Begin role ordinal n) = begin role ordinal n ∷ []
  marks_of_task (task.Later t) = marks_of (marked_of t)

  -- the marks that tasks lead to in turn
  unfoldable pub marks_of_tasks : List (Task T) → List Mark
  marks_of_tasks [] = []
  marks_of_tasks (first ∷ rest) = marks_of_task first ++ marks_of_tasks rest

module _ {T : Type 0} (IsLater : T → Type 0) where
  -- a task may be done if what it takes apart may be
  unfoldable pub IsTask : Task T → Type 0
  IsTask (task.Later t) = IsLater t
  IsTask _ = Unit {0}

module _ {T : Type 0} (weight_of : T → ℕ) where
  -- how many steps a task takes at most
  unfoldable pub weight_of_task : Task T → ℕ
  weight_of_task (task.Later t) = weight_of t
  weight_of_task _ = 1

  unfoldable pub weight_of_tasks : List (Task T) → ℕ
  weight_of_tasks [] = 0
  weight_of_tasks (first ∷ rest) = weight_of_task first + weight_of_tasks rest

-- Tasks were added before others: they lead to these marks first, may be done if the others may, and take at most this many steps.
pub record Adds {T : Type 0} (marked_of : T → Marked) (IsLater : T → Type 0) (weight_of : T → ℕ) (others tasks : List (Task T)) (m : Marked) (steps : ℕ) : Type 0 where
  pub marks : marks_of_tasks marked_of tasks ≡ marks_of m ++ marks_of_tasks marked_of others
  pub all : All (IsTask IsLater) others → All (IsTask IsLater) tasks
  pub weight : weight_of_tasks weight_of tasks ≤ weight_of_tasks weight_of others + steps

-- The tasks that were added before others have grown: they lead to these marks first, and take at most this many steps more.
pub record Grows {T : Type 0} (marked_of : T → Marked) (IsLater : T → Type 0) (weight_of : T → ℕ) (old new : List (Task T)) (m : Marked) (steps : ℕ) : Type 0 where
  pub adds : (others : List (Task T)) (behind : Marked) (taken : ℕ) → Adds marked_of IsLater weight_of others old behind taken → Adds marked_of IsLater weight_of others new (m before behind) (taken + steps)

-- With the marks `these`, what was found before gives the same stretches and place as what is found now gives with the marks
-- `those`.
pub record Lists (old new : Found) (these those : List Mark) : Type 0 where
  pub stretches : old.stretches ++ stretches_at old.place these ≡ new.stretches ++ stretches_at new.place those
  pub place : old.place + skipped these ≡ new.place + skipped those
