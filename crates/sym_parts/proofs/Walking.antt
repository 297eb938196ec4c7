-- The walk over tasks: what was found, and what the tasks that are left lead to.
use Rattle.sym_parts.proofs.Basics.{◌≡◌, ℕ, ◌+◌, ◌<◌, ◌≤◌, List, [], ◌∷◌, ◌++◌, length, refl, sym, ap, ◌∙◌, arith, append_assoc, append-nil, All, All-same, All-nil, All-head, All-tail, Marked, ◌before◌, text_of, stretches_of, Mark, marks_of, stretches_at, skipped, Role, Ordinal, Stretch, marks_of_task, marks_of_tasks, IsTask, weight_of_task, weight_of_tasks, Adds, Grows, Lists, Task}
use Rattle.sym_parts.specs.Found.{Found}
use Rattle.sym_parts.specs.Marked as marks
use Rattle.sym_parts.specs.declared.task.Task.TheVariants as task
use Rattle.sym_parts.proofs.Growing.{before-done}
use Rattle.sym_parts.proofs.Turns.{stretches_at-marks_of, skipped-marks_of, skipped-append}

pub lists-same : (old new : Found) (these those : List Mark) → new ≡ old → those ≡ these → Lists old new these those
lists-same old new these those same marks = record {
  stretches = ap (λ ms. old.stretches ++ stretches_at old.place ms) (sym marks) ∙ ap (λ (f : Found). f.stretches ++ stretches_at f.place those) (sym same);
  place = ap (λ ms. old.place + skipped ms) (sym marks) ∙ ap (λ (f : Found). f.place + skipped those) (sym same);
}

module _ {T : Type 0} (marked_of : T → Marked) (IsLater : T → Type 0) (weight_of : T → ℕ) where
  -- tasks that have grown lead to the new marks first, and then to those of the old tasks
  pub grown : (old new : List (Task T)) (m : Marked) (s : ℕ) → Grows marked_of IsLater weight_of old new m s
      → (marks_of_tasks marked_of new ≡ marks_of m ++ marks_of_tasks marked_of old) × (All (IsTask IsLater) old → All (IsTask IsLater) new)
      × (weight_of_tasks weight_of new ≤ weight_of_tasks weight_of old + s)
  unfolding marks_of
  grown old new m s grows =
      let same : Adds marked_of IsLater weight_of old old marks.done 0 = record { marks = refl; all = λ h. h; weight = omega arith } in
      let one = grows.adds old marks.done 0 same in
      (one.marks ∙ ap (λ x. marks_of x ++ marks_of_tasks marked_of old) (before-done m), one.all, omega (arith, one.weight))

  pub lists-skip : (old new : Found) (n : ℕ) (rest : List Mark) → new.stretches ≡ old.stretches → new.place ≡ old.place + n → Lists old new (marks_of_task marked_of (task.Skip n) ++ rest) rest
  unfolding marks_of_task stretches_at skipped
  lists-skip old new n rest stretches place = record {
    stretches = ap (λ p. old.stretches ++ stretches_at p rest) (sym place) ∙ ap (λ ps. ps ++ stretches_at new.place rest) (sym stretches);
    place = omega (arith, place);
  }

  pub lists-begin : (old new : Found) (role : Role) (ordinal : Ordinal) (n : ℕ) (rest : List Mark) → new.stretches ≡ old.stretches ++ record { role = role; ordinal = ordinal; start = old.place; length = n } ∷ [] → new.place ≡ old.place
      → Lists old new (marks_of_task marked_of (task.Begin role ordinal n) ++ rest) rest
  unfolding marks_of_task stretches_at skipped
  lists-begin old new role ordinal n rest stretches place = record {
    stretches =
        sym (append_assoc old.stretches (record { role = role; ordinal = ordinal; start = old.place; length = n } ∷ []) (stretches_at old.place rest))
        ∙ ap (λ p. (old.stretches ++ record { role = role; ordinal = ordinal; start = old.place; length = n } ∷ []) ++ stretches_at p rest) (sym place)
        ∙ ap (λ ps. ps ++ stretches_at new.place rest) (sym stretches);
    place = omega (arith, place);
  }

  -- ## The loop

  -- the loop begins with the tasks of a marked text, at the text's beginning
  pub begins : (old new : List (Task T)) (found : Found) (m : Marked) (s most : ℕ) → old ≡ [] → found ≡ record { stretches = []; place = 0 }
      → Grows marked_of IsLater weight_of old new m s → length (text_of m) ≤ most
      → All (IsTask IsLater) new × (found.stretches ++ stretches_at found.place (marks_of_tasks marked_of new) ≡ stretches_of m) × (found.place + skipped (marks_of_tasks marked_of new) ≤ most)
  unfolding marks_of_tasks
  begins old new found m s most none start grows paid =
      let g = grown old new m s grows in
      let all : marks_of_tasks marked_of new ≡ marks_of m = g.0 ∙ ap (λ o. marks_of m ++ marks_of_tasks marked_of o) none ∙ append-nil (marks_of m) in (
        g.1 (All-same (IsTask IsLater) old [] none (All-nil (IsTask IsLater))),
        ap (λ (f : Found). f.stretches ++ stretches_at f.place (marks_of_tasks marked_of new)) start ∙ ap (stretches_at 0) all ∙ stretches_at-marks_of 0 m,
        omega (arith, ap (λ (f : Found). f.place) start, ap skipped all, skipped-marks_of m, paid),
      )

  pub first-task : (tasks rest : List (Task T)) (next : Task T) → tasks ≡ next ∷ rest → All (IsTask IsLater) tasks → IsTask IsLater next
  first-task tasks rest next is all = All-head (IsTask IsLater) next rest (All-same (IsTask IsLater) (next ∷ rest) tasks (sym is) all)

  pub other-tasks : (tasks rest : List (Task T)) (next : Task T) → tasks ≡ next ∷ rest → All (IsTask IsLater) tasks → All (IsTask IsLater) rest
  other-tasks tasks rest next is all = All-tail (IsTask IsLater) next rest (All-same (IsTask IsLater) (next ∷ rest) tasks (sym is) all)

  pub fits-next : (tasks rest : List (Task T)) (next : Task T) (place most : ℕ) → tasks ≡ next ∷ rest → place + skipped (marks_of_tasks marked_of tasks) ≤ most → place + skipped (marks_of_task marked_of next) ≤ most
  unfolding marks_of_tasks
  fits-next tasks rest next place most is fits =
      omega (arith, fits, ap (λ ts. skipped (marks_of_tasks marked_of ts)) is, skipped-append (marks_of_task marked_of next) (marks_of_tasks marked_of rest))

  pub smaller : (tasks rest new : List (Task T)) (next : Task T) → tasks ≡ next ∷ rest → weight_of_tasks weight_of new < weight_of_task weight_of next + weight_of_tasks weight_of rest → weight_of_tasks weight_of new < weight_of_tasks weight_of tasks
  unfolding weight_of_tasks
  smaller tasks rest new next is less = omega (arith, less, ap (weight_of_tasks weight_of) is)

  pub goes-on : (tasks rest new : List (Task T)) (next : Task T) (old found : Found) (all : List Stretch) (most : ℕ) → tasks ≡ next ∷ rest
      → Lists old found (marks_of_task marked_of next ++ marks_of_tasks marked_of rest) (marks_of_tasks marked_of new) → old.stretches ++ stretches_at old.place (marks_of_tasks marked_of tasks) ≡ all → old.place + skipped (marks_of_tasks marked_of tasks) ≤ most
      → (found.stretches ++ stretches_at found.place (marks_of_tasks marked_of new) ≡ all) × (found.place + skipped (marks_of_tasks marked_of new) ≤ most)
  unfolding marks_of_tasks
  goes-on tasks rest new next old found all most is lists stretches fits =
      (sym lists.stretches ∙ ap (λ ts. old.stretches ++ stretches_at old.place (marks_of_tasks marked_of ts)) (sym is) ∙ stretches, omega (arith, lists.place, fits, ap (λ ts. skipped (marks_of_tasks marked_of ts)) is))

  pub ended : (tasks : List (Task T)) (found : Found) (all : List Stretch) → tasks ≡ [] → found.stretches ++ stretches_at found.place (marks_of_tasks marked_of tasks) ≡ all → found.stretches ≡ all
  unfolding marks_of_tasks stretches_at
  ended tasks found all none stretches = sym (append-nil found.stretches) ∙ ap (λ ts. found.stretches ++ stretches_at found.place (marks_of_tasks marked_of ts)) (sym none) ∙ stretches
