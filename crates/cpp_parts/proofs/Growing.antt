-- Tasks that are added before others, and the marks that they lead to.
use Rattle.cpp_parts.proofs.Basics.{◌≡◌, ℕ, ◌+◌, ◌*◌, ◌≤◌, ◌<◌, List, ◌∷◌, ◌++◌, length, refl, sym, ap, ◌∙◌, arith, append_assoc, append-nil, subst, All, All-cons, Context, ReadSymbol, table_of, unshared_of, plain_tree, Item, cost_of, steps_of, Role, Ordinal, Numbering, skip, begin, marks_of, marks_of-before, alone, elements, name, encoding, count_of, marks_of_task, marks_of_tasks, IsTask, IsPayable, weight_of_task, weight_of_tasks, Grows, Task}
use Rattle.sym_parts.specs.Marked.{Marked, text, marked, text_of, ◌before◌}
use Rattle.sym_parts.specs.Marked as marks
use Rattle.cpp_parts.specs.declared.task.Task.TheVariants as task

-- the first two of three marked texts in a row may be put together first
pub before-assoc : (m n others : Marked) → (m before n) before others ≡ m before (n before others)
unfolding ◌before◌
before-assoc marks.done n others = refl
before-assoc (text b rest) n others = ap (text b) (before-assoc rest n others)
before-assoc (marked r o inside rest) n others = ap (marked r o inside) (before-assoc rest n others)

-- a marked text before nothing is the same marked text
pub before-done : (m : Marked) → m before marks.done ≡ m
unfolding ◌before◌
before-done marks.done = refl
before-done (text b rest) = ap (text b) (before-done rest)
before-done (marked r o inside rest) = ap (marked r o inside) (before-done rest)

module _ (y : ReadSymbol) (most : ℕ) where
  -- tasks that have grown by marks within some steps have grown by equal marks within as many steps or more
  pub grow-same : (old new : List Task) (m n : Marked) (s t : ℕ) → Grows y most old new m s → m ≡ n → s ≤ t → Grows y most old new n t
  grow-same old new m n s t grows same few = record {
    adds = λ others behind taken adds.
        let one = grows.adds others behind taken adds in
        record {
          marks = one.marks ∙ ap (λ p. marks_of (p before behind) ++ marks_of_tasks y others) same;
          all = one.all;
          weight = omega (arith, one.weight, few);
        };
  }

  -- the marks of tasks that are added later come first
  pub grow-then : (old between new : List Task) (m n : Marked) (s t : ℕ) → Grows y most old between m s → Grows y most between new n t → Grows y most old new (n before m) (s + t)
  grow-then old between new m n s t first second = record {
    adds = λ others behind taken adds.
        let one = second.adds others (m before behind) (taken + s) (first.adds others behind taken adds) in
        record {
          marks = one.marks ∙ ap (λ p. marks_of p ++ marks_of_tasks y others) (sym (before-assoc n m behind));
          all = one.all;
          weight = omega (arith, one.weight);
        };
  }

  -- a task that skips bytes adds them without a mark
  pub grow-skip : (old new : List Task) (n : ℕ) (b : List ℕ) → new ≡ task.Skip n ∷ old → n ≡ length b → Grows y most old new (text b marks.done) 1
  unfolding marks_of ◌before◌ marks_of_tasks marks_of_task IsTask weight_of_tasks weight_of_task
  grow-skip old new n b is long = record {
    adds = λ others behind taken adds. record {
      marks = ap (marks_of_tasks y) is ∙ ap (λ ms. skip n ∷ ms) adds.marks ∙ ap (λ l. skip l ∷ (marks_of behind ++ marks_of_tasks y others)) long;
      all = λ h. subst (All (IsTask y most)) (sym is) (All-cons (IsTask y most) (task.Skip n) old tt (adds.all h));
      weight = omega (arith, ap (weight_of_tasks y) is, adds.weight);
    };
  }

  -- a task that begins a stretch, and the tasks for what is in the stretch, add the stretch's mark and what is within it
  pub grow-begin : (old between new : List Task) (role : Role) (ordinal : Ordinal) (n : ℕ) (inside : Marked) (s : ℕ) → new ≡ task.Begin role ordinal n ∷ between → n ≡ length (text_of inside)
      → Grows y most old between inside s → Grows y most old new (marked role ordinal inside marks.done) (s + 1)
  unfolding marks_of ◌before◌ marks_of_tasks marks_of_task IsTask weight_of_tasks weight_of_task
  grow-begin old between new role ordinal n inside s is long grows = record {
    adds = λ others behind taken adds.
        let one = grows.adds others behind taken adds in
        record {
          marks =
              ap (marks_of_tasks y) is
              ∙ ap (λ ms. begin role ordinal n ∷ ms) (one.marks ∙ ap (λ ms. ms ++ marks_of_tasks y others) (marks_of-before inside behind))
              ∙ ap (λ l. begin role ordinal l ∷ ((marks_of inside ++ marks_of behind) ++ marks_of_tasks y others)) long;
          all = λ h. subst (All (IsTask y most)) (sym is) (All-cons (IsTask y most) (task.Begin role ordinal n) between tt (one.all h));
          weight = omega (arith, ap (weight_of_tasks y) is, one.weight);
        };
  }

  -- a task that leads to marks adds these marks
  grow-task : (old new : List Task) (next : Task) (m : Marked) → new ≡ next ∷ old → marks_of_task y next ≡ marks_of m → IsTask y most next → Grows y most old new m (weight_of_task y next)
  unfolding marks_of_tasks weight_of_tasks
  grow-task old new next m is leads is_task = record {
    adds = λ others behind taken adds. record {
      marks =
          ap (marks_of_tasks y) is
          ∙ ap (λ ms. marks_of_task y next ++ ms) adds.marks
          ∙ ap (λ ms. ms ++ (marks_of behind ++ marks_of_tasks y others)) leads
          ∙ sym (append_assoc (marks_of m) (marks_of behind) (marks_of_tasks y others))
          ∙ ap (λ ms. ms ++ marks_of_tasks y others) (sym (marks_of-before m behind));
      all = λ h. subst (All (IsTask y most)) (sym is) (All-cons (IsTask y most) next old is_task (adds.all h));
      weight = omega (arith, ap (weight_of_tasks y) is, adds.weight);
    };
  }

  pub grow-name : (old new : List Task) (tags node : ℕ) (i : Item Context) → new ≡ task.Name tags node i ∷ old → node < length y.table.nodes → IsPayable y most i → tags + cost_of (unshared_of y i) ≤ most
      → Grows y most old new (name tags (plain_tree (table_of y) node) (unshared_of y i)) (4 * steps_of (unshared_of y i))
  unfolding marks_of_task IsTask weight_of_task
  grow-name old new tags node i is below payable fits = grow-task old new (task.Name tags node i) (name tags (plain_tree (table_of y) node) (unshared_of y i)) is refl (below, payable, fits)

  pub grow-encoding : (old new : List Task) (specials node : ℕ) (i : Item Context) → new ≡ task.Encoding specials node i ∷ old → node < length y.table.nodes → IsPayable y most i → specials + cost_of (unshared_of y i) ≤ most
      → Grows y most old new (encoding specials (plain_tree (table_of y) node) (unshared_of y i)) (4 * steps_of (unshared_of y i))
  unfolding marks_of_task IsTask weight_of_task
  grow-encoding old new specials node i is below payable fits =
      grow-task old new (task.Encoding specials node i) (encoding specials (plain_tree (table_of y) node) (unshared_of y i)) is refl (below, payable, fits)

  pub grow-elements : (old new : List Task) (role : Role) (numbers : Numbering) (node : ℕ) (i : Item Context) → new ≡ task.Elements role numbers node i ∷ old → node < length y.table.nodes → IsPayable y most i → count_of numbers + cost_of (unshared_of y i) ≤ most
      → Grows y most old new (elements role numbers (plain_tree (table_of y) node) (unshared_of y i)) (4 * steps_of (unshared_of y i))
  unfolding marks_of_task IsTask weight_of_task
  grow-elements old new role numbers node i is below payable fits =
      grow-task old new (task.Elements role numbers node i) (elements role numbers (plain_tree (table_of y) node) (unshared_of y i)) is refl (below, payable, fits)

  -- the tasks for one part of this many bytes add the part
  pub grow-alone : (old between new : List Task) (role : Role) (ordinal : Ordinal) (n : ℕ) (b : List ℕ) → between ≡ task.Skip n ∷ old → new ≡ task.Begin role ordinal n ∷ between → n ≡ length b
      → Grows y most old new (alone role ordinal b marks.done) 2
  unfolding text_of
  grow-alone old between new role ordinal n b first second long =
      grow-begin old between new role ordinal n (text b marks.done) 1 second (long ∙ ap length (sym (append-nil b))) (grow-skip old between n b first long)
