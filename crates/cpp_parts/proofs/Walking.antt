-- The walk: what was found, and what the tasks that are left lead to.
use Rattle.cpp_parts.proofs.Basics.{◌≡◌, ℕ, ◌+◌, ◌*◌, ◌<◌, ◌≤◌, List, [], ◌∷◌, ◌++◌, length, refl, sym, ap, ◌∙◌, arith, append_assoc, append-nil, All, All-same, All-nil, All-head, All-tail, Context, ReadSymbol, table_of, whole_of, unshared_of, MayBeAsked, plain_tree, Item, Part, Unshared, steps_of, steps_of_parts, cost_of, Marked, ◌before◌, stretches_of, Mark, marks_of, stretches_at, skipped, Role, Ordinal, Numbering, encoding, name, elements, symbol_marked, length_of_text, stretches_at-marks_of, skipped-marks_of, skipped-append, Stretch, marks_of_task, marks_of_tasks, IsTask, IsPayable, ArePayable, printed_by, weight_of_task, weight_of_tasks, Adds, Grows, Lists, Task}
use Rattle.sym_parts.specs.Found.{Found}
use Rattle.sym_parts.specs.Marked as marks
use Rattle.cpp_parts.proofs.Texts.{text-symbol}
use Rattle.cpp_parts.specs.declared.task.Task.TheVariants as task
use Rattle.cpp_parts.proofs.Growing.{before-done}

-- tasks that have grown lead to the new marks first, and then to those of the old tasks
pub grown : (y : ReadSymbol) (most : ℕ) (old new : List Task) (m : Marked) (s : ℕ) → Grows y most old new m s
    → (marks_of_tasks y new ≡ marks_of m ++ marks_of_tasks y old) × (All (IsTask y most) old → All (IsTask y most) new) × (weight_of_tasks y new ≤ weight_of_tasks y old + s)
unfolding marks_of
grown y most old new m s grows =
    let same : Adds y most old old marks.done 0 = record { marks = refl; all = λ h. h; weight = omega arith } in
    let one = grows.adds old marks.done 0 same in
    (one.marks ∙ ap (λ x. marks_of x ++ marks_of_tasks y old) (before-done m), one.all, omega (arith, one.weight))

pub lists-skip : (y : ReadSymbol) (old new : Found) (n : ℕ) (rest : List Mark) → new.stretches ≡ old.stretches → new.place ≡ old.place + n → Lists old new (marks_of_task y (task.Skip n) ++ rest) rest
unfolding marks_of_task stretches_at skipped
lists-skip y old new n rest parts place = record {
  stretches = ap (λ p. old.stretches ++ stretches_at p rest) (sym place) ∙ ap (λ ps. ps ++ stretches_at new.place rest) (sym parts);
  place = omega (arith, place);
}

pub lists-begin : (y : ReadSymbol) (old new : Found) (role : Role) (ordinal : Ordinal) (n : ℕ) (rest : List Mark) → new.stretches ≡ old.stretches ++ record { role = role; ordinal = ordinal; start = old.place; length = n } ∷ [] → new.place ≡ old.place
    → Lists old new (marks_of_task y (task.Begin role ordinal n) ++ rest) rest
unfolding marks_of_task stretches_at skipped
lists-begin y old new role ordinal n rest parts place = record {
  stretches =
      sym (append_assoc old.stretches (record { role = role; ordinal = ordinal; start = old.place; length = n } ∷ []) (stretches_at old.place rest))
      ∙ ap (λ p. (old.stretches ++ record { role = role; ordinal = ordinal; start = old.place; length = n } ∷ []) ++ stretches_at p rest) (sym place)
      ∙ ap (λ ps. ps ++ stretches_at new.place rest) (sym parts);
  place = omega (arith, place);
}

pub lists-same : (old new : Found) (these those : List Mark) → new ≡ old → those ≡ these → Lists old new these those
lists-same old new these those same marks = record {
  stretches = ap (λ ms. old.stretches ++ stretches_at old.place ms) (sym marks) ∙ ap (λ (f : Found). f.stretches ++ stretches_at f.place those) (sym same);
  place = ap (λ ms. old.place + skipped ms) (sym marks) ∙ ap (λ (f : Found). f.place + skipped those) (sym same);
}

-- the parts of an item cost less than the item
pub parts-payable : (y : ReadSymbol) (most : ℕ) (i : Item Context) (parts : List (Part Context)) → IsPayable y most i → unshared_of y i ≡ printed_by y parts → All (MayBeAsked y) parts → ArePayable y most parts
parts-payable y most i parts payable is may = (may, omega (arith, payable.1, ap cost_of is))

module _ (y : ReadSymbol) (most : ℕ) (old new : List Task) (node : ℕ) (i : Item Context) (u : Unshared) (is : unshared_of y i ≡ u) where
  pub took-encoding : (specials : ℕ) → Grows y most old new (encoding specials (plain_tree (table_of y) node) u) (4 * steps_of_parts u + 3)
      → (marks_of_tasks y new ≡ marks_of_task y (task.Encoding specials node i) ++ marks_of_tasks y old) × (All (IsTask y most) old → All (IsTask y most) new)
      × (weight_of_tasks y new < weight_of_task y (task.Encoding specials node i) + weight_of_tasks y old)
  unfolding marks_of_task weight_of_task
  took-encoding specials grows =
      let g = grown y most old new _ _ grows in
      (g.0 ∙ ap (λ x. marks_of (encoding specials (plain_tree (table_of y) node) x) ++ marks_of_tasks y old) (sym is), g.1, omega (arith, g.2, ap steps_of is))

  pub took-name : (tags : ℕ) → Grows y most old new (name tags (plain_tree (table_of y) node) u) (4 * steps_of_parts u + 3)
      → (marks_of_tasks y new ≡ marks_of_task y (task.Name tags node i) ++ marks_of_tasks y old) × (All (IsTask y most) old → All (IsTask y most) new)
      × (weight_of_tasks y new < weight_of_task y (task.Name tags node i) + weight_of_tasks y old)
  unfolding marks_of_task weight_of_task
  took-name tags grows =
      let g = grown y most old new _ _ grows in
      (g.0 ∙ ap (λ x. marks_of (name tags (plain_tree (table_of y) node) x) ++ marks_of_tasks y old) (sym is), g.1, omega (arith, g.2, ap steps_of is))

  pub took-elements : (role : Role) (numbers : Numbering) → Grows y most old new (elements role numbers (plain_tree (table_of y) node) u) (4 * steps_of_parts u + 3)
      → (marks_of_tasks y new ≡ marks_of_task y (task.Elements role numbers node i) ++ marks_of_tasks y old) × (All (IsTask y most) old → All (IsTask y most) new)
      × (weight_of_tasks y new < weight_of_task y (task.Elements role numbers node i) + weight_of_tasks y old)
  unfolding marks_of_task weight_of_task
  took-elements role numbers grows =
      let g = grown y most old new _ _ grows in
      (g.0 ∙ ap (λ x. marks_of (elements role numbers (plain_tree (table_of y) node) x) ++ marks_of_tasks y old) (sym is), g.1, omega (arith, g.2, ap steps_of is))

-- ## The loop

pub begins : (y : ReadSymbol) (most : ℕ) (old new : List Task) (found : Found) (node : ℕ) (u whole : Unshared) (s : ℕ) → old ≡ [] → found ≡ record { stretches = []; place = 0 }
    → Grows y most old new (symbol_marked (plain_tree (table_of y) node) u) s → node ≡ y.root → u ≡ whole → cost_of whole ≤ most
    → All (IsTask y most) new × (found.stretches ++ stretches_at found.place (marks_of_tasks y new) ≡ stretches_of (symbol_marked (whole_of y) whole)) × (found.place + skipped (marks_of_tasks y new) ≤ most)
unfolding marks_of_tasks
begins y most old new found node u whole s none start grows root is paid =
    let g = grown y most old new (symbol_marked (plain_tree (table_of y) node) u) s grows in
    let all : marks_of_tasks y new ≡ marks_of (symbol_marked (whole_of y) whole) =
    g.0
    ∙ ap (λ o. marks_of (symbol_marked (plain_tree (table_of y) node) u) ++ marks_of_tasks y o) none
    ∙ append-nil (marks_of (symbol_marked (plain_tree (table_of y) node) u))
    ∙ ap (λ n. marks_of (symbol_marked (plain_tree (table_of y) n) u)) root
    ∙ ap (λ v. marks_of (symbol_marked (whole_of y) v)) is in (
      g.1 (All-same (IsTask y most) old [] none (All-nil (IsTask y most))),
      ap (λ (f : Found). f.stretches ++ stretches_at f.place (marks_of_tasks y new)) start ∙ ap (stretches_at 0) all ∙ stretches_at-marks_of 0 (symbol_marked (whole_of y) whole),
      omega (
        arith,
        ap (λ (f : Found). f.place) start,
        ap skipped all,
        skipped-marks_of (symbol_marked (whole_of y) whole),
        ap length (text-symbol (whole_of y) whole),
        length_of_text whole,
        paid,
      ),
    )

pub first-task : (y : ReadSymbol) (most : ℕ) (tasks rest : List Task) (next : Task) → tasks ≡ next ∷ rest → All (IsTask y most) tasks → IsTask y most next
first-task y most tasks rest next is all = All-head (IsTask y most) next rest (All-same (IsTask y most) (next ∷ rest) tasks (sym is) all)

pub other-tasks : (y : ReadSymbol) (most : ℕ) (tasks rest : List Task) (next : Task) → tasks ≡ next ∷ rest → All (IsTask y most) tasks → All (IsTask y most) rest
other-tasks y most tasks rest next is all = All-tail (IsTask y most) next rest (All-same (IsTask y most) (next ∷ rest) tasks (sym is) all)

pub fits-next : (y : ReadSymbol) (tasks rest : List Task) (next : Task) (place most : ℕ) → tasks ≡ next ∷ rest → place + skipped (marks_of_tasks y tasks) ≤ most → place + skipped (marks_of_task y next) ≤ most
unfolding marks_of_tasks
fits-next y tasks rest next place most is fits =
    omega (arith, fits, ap (λ ts. skipped (marks_of_tasks y ts)) is, skipped-append (marks_of_task y next) (marks_of_tasks y rest))

pub smaller : (y : ReadSymbol) (tasks rest new : List Task) (next : Task) → tasks ≡ next ∷ rest → weight_of_tasks y new < weight_of_task y next + weight_of_tasks y rest → weight_of_tasks y new < weight_of_tasks y tasks
unfolding weight_of_tasks
smaller y tasks rest new next is less = omega (arith, less, ap (weight_of_tasks y) is)

pub goes-on : (y : ReadSymbol) (tasks rest new : List Task) (next : Task) (old found : Found) (all : List Stretch) (most : ℕ) → tasks ≡ next ∷ rest
    → Lists old found (marks_of_task y next ++ marks_of_tasks y rest) (marks_of_tasks y new) → old.stretches ++ stretches_at old.place (marks_of_tasks y tasks) ≡ all → old.place + skipped (marks_of_tasks y tasks) ≤ most
    → (found.stretches ++ stretches_at found.place (marks_of_tasks y new) ≡ all) × (found.place + skipped (marks_of_tasks y new) ≤ most)
unfolding marks_of_tasks
goes-on y tasks rest new next old found all most is lists parts fits =
    (sym lists.stretches ∙ ap (λ ts. old.stretches ++ stretches_at old.place (marks_of_tasks y ts)) (sym is) ∙ parts, omega (arith, lists.place, fits, ap (λ ts. skipped (marks_of_tasks y ts)) is))

pub ended : (y : ReadSymbol) (tasks : List Task) (found : Found) (all : List Stretch) → tasks ≡ [] → found.stretches ++ stretches_at found.place (marks_of_tasks y tasks) ≡ all → found.stretches ≡ all
unfolding marks_of_tasks stretches_at
ended y tasks found all none parts = sym (append-nil found.stretches) ∙ ap (λ ts. found.stretches ++ stretches_at found.place (marks_of_tasks y ts)) (sym none) ∙ parts
