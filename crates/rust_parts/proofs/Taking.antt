-- The walk: how one task of a Rust symbol changes the tasks that are left, and how the walk begins.
use Rattle.rust_parts.proofs.Basics.{◌≡◌, ℕ, ◌+◌, ◌*◌, ◌-◌, ◌<◌, ◌≤◌, List, [], ◌++◌, length, sym, ap, ◌∙◌, arith, subst, All, Context, ReadSymbol, MayCome, unshared_of, Item, Unshared, cost_of, steps_of_parts, length_of_text, stretches_of, stretches_at, skipped, IsTask, marks_of_task, marks_of_tasks, weight_of_task, weight_of_tasks, Task, begins, grown, elements, name, scope, symbol_marked, whole_of, path_at, ArePayable, Grows, IsApart, IsPayable, marked_of, printed_by, weight_of, Apart}
use Rattle.sym_print.specs.declared.layout.Part.{Part}
use Rattle.sym_parts.specs.Found.{Found}
use Rattle.sym_parts.specs.declared.task.Task.TheVariants as task
use Rattle.rust_parts.specs.declared.apart.Apart.TheVariants as apart
use Rattle.rust_parts.proofs.Growing.{grow-same}
use Rattle.rust_parts.proofs.Texts.{text-symbol}

-- taking something apart takes at least one step
positive : (y : ReadSymbol) (next : Apart) → 0 < weight_of y next
unfolding weight_of
positive y (apart.Name lists node i) = omega arith
positive y (apart.Scope lists node i) = omega arith
positive y (apart.Elements list number i) = omega arith

module _ (y : ReadSymbol) (most : ℕ) where
  -- the parts of an item cost less than the item
  pub parts-payable : (i : Item Context) (parts : List (Part Context)) → IsPayable y most i → unshared_of y i ≡ printed_by y parts → All (MayCome y) parts → ArePayable y most parts
  parts-payable i parts payable is may = (may, omega (arith, payable.1, ap cost_of is))

  pub took-name : (old new : List (Task Apart)) (next : Apart) (lists node : ℕ) (i : Item Context) → next ≡ apart.Name lists node i
      → Grows y most old new (name lists (path_at y node) (unshared_of y i)) (4 * steps_of_parts (unshared_of y i) + 3) → Grows y most old new (marked_of y next) (weight_of y next - 1)
  unfolding marked_of weight_of
  took-name old new next lists node i e grows = grow-same y most old new _ _ _ _ grows (sym (ap (marked_of y) e)) (omega (arith, ap (weight_of y) e))

  pub took-scope : (old new : List (Task Apart)) (next : Apart) (lists node : ℕ) (i : Item Context) → next ≡ apart.Scope lists node i
      → Grows y most old new (scope lists (path_at y node) (unshared_of y i)) (4 * steps_of_parts (unshared_of y i) + 3) → Grows y most old new (marked_of y next) (weight_of y next - 1)
  unfolding marked_of weight_of
  took-scope old new next lists node i e grows = grow-same y most old new _ _ _ _ grows (sym (ap (marked_of y) e)) (omega (arith, ap (weight_of y) e))

  pub took-elements : (old new : List (Task Apart)) (next : Apart) (list number : ℕ) (i : Item Context) → next ≡ apart.Elements list number i
      → Grows y most old new (elements list number (unshared_of y i)) (4 * steps_of_parts (unshared_of y i) + 3) → Grows y most old new (marked_of y next) (weight_of y next - 1)
  unfolding marked_of weight_of
  took-elements old new next list number i e grows = grow-same y most old new _ _ _ _ grows (sym (ap (marked_of y) e)) (omega (arith, ap (weight_of y) e))

  -- the item of arguments that are to be taken apart may be asked for, and their count has room
  pub elements-payable : (next : Apart) (list number : ℕ) (i : Item Context) → next ≡ apart.Elements list number i → IsApart y most next → IsPayable y most i × (number + cost_of (unshared_of y i) ≤ most)
  unfolding IsApart
  elements-payable next list number i e is = subst (IsApart y most) e is

  pub took-later : (old new : List (Task Apart)) (next : Apart) (t : Task Apart) → t ≡ task.Later next → Grows y most old new (marked_of y next) (weight_of y next - 1)
      → (marks_of_tasks (marked_of y) new ≡ marks_of_task (marked_of y) t ++ marks_of_tasks (marked_of y) old)
      × (All (IsTask (IsApart y most)) old → All (IsTask (IsApart y most)) new)
      × (weight_of_tasks (weight_of y) new < weight_of_task (weight_of y) t + weight_of_tasks (weight_of y) old)
  unfolding marks_of_task weight_of_task
  took-later old new next t e grows =
      let g = grown (marked_of y) (IsApart y most) (weight_of y) old new (marked_of y next) (weight_of y next - 1) grows in
      (g.0 ∙ ap (λ x. marks_of_task (marked_of y) x ++ marks_of_tasks (marked_of y) old) (sym e), g.1, omega (arith, g.2, ap (weight_of_task (weight_of y)) e, positive y next))

  pub begins-symbol : (old new : List (Task Apart)) (found : Found) (u all : Unshared) (s : ℕ) → old ≡ [] → found ≡ record { stretches = []; place = 0 }
      → Grows y most old new (symbol_marked (whole_of y) u) s → u ≡ all → cost_of all ≤ most
      → All (IsTask (IsApart y most)) new × (found.stretches ++ stretches_at found.place (marks_of_tasks (marked_of y) new) ≡ stretches_of (symbol_marked (whole_of y) all)) × (found.place + skipped (marks_of_tasks (marked_of y) new) ≤ most)
  begins-symbol old new found u all s none start grows is paid =
      begins (marked_of y) (IsApart y most) (weight_of y) old new found (symbol_marked (whole_of y) all) s most none start
      (grow-same y most old new _ _ _ _ grows (ap (symbol_marked (whole_of y)) is) (omega arith))
      (omega (arith, ap length (text-symbol (whole_of y) all), length_of_text all, paid))
