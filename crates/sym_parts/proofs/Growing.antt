-- Tasks that are added before others, and the marks that they lead to.
use Rattle.sym_parts.proofs.Basics.{◌≡◌, ℕ, ◌+◌, ◌≤◌, List, ◌∷◌, ◌++◌, length, refl, sym, ap, ◌∙◌, arith, append_assoc, append-nil, subst, All, All-cons, Unshared, Role, Ordinal, Marked, text, marked, text_of, ◌before◌, skip, begin, marks_of, marks_of_task, marks_of_tasks, IsTask, weight_of_task, weight_of_tasks, Grows, Task}
use Rattle.sym_print.specs.Unshared as printed
use Rattle.sym_parts.specs.Marked as marks
use Rattle.sym_parts.specs.Plain.{plain, whole, alone}
use Rattle.sym_parts.proofs.Turns.{marks_of-before}
use Rattle.sym_parts.specs.declared.task.Task.TheVariants as task

-- if three marked texts follow one another, the first two may be put together first
pub before-assoc : (m n others : Marked) → (m before n) before others ≡ m before (n before others)
unfolding ◌before◌
before-assoc marks.done n others = refl
before-assoc (text b rest) n others = ap (text b) (before-assoc rest n others)
before-assoc (marked r o inside rest) n others = ap (marked r o inside) (before-assoc rest n others)

-- a marked text before nothing is the same marked text
pub before-done : (m : Marked) → m before marks.done ≡ m
unfolding ◌before◌
before-done marks.done = refl
before-done (text b rest) = ap (text b) (before-done rest)
before-done (marked r o inside rest) = ap (marked r o inside) (before-done rest)

module _ {T : Type 0} (marked_of : T → Marked) (IsLater : T → Type 0) (weight_of : T → ℕ) where
  -- tasks that have grown by some marks within s steps have also grown by equal marks within s steps or more
  pub grow-same : (old new : List (Task T)) (m n : Marked) (s t : ℕ) → Grows marked_of IsLater weight_of old new m s → m ≡ n → s ≤ t → Grows marked_of IsLater weight_of old new n t
  grow-same old new m n s t grows same few = record {
    adds = λ others behind taken adds.
        let one = grows.adds others behind taken adds in
        record {
          marks = one.marks ∙ ap (λ p. marks_of (p before behind) ++ marks_of_tasks marked_of others) same;
          all = one.all;
          weight = omega (arith, one.weight, few);
        };
  }

  -- the marks of tasks that are added later come first
  pub grow-then : (old between new : List (Task T)) (m n : Marked) (s t : ℕ) → Grows marked_of IsLater weight_of old between m s → Grows marked_of IsLater weight_of between new n t → Grows marked_of IsLater weight_of old new (n before m) (s + t)
  grow-then old between new m n s t first second = record {
    adds = λ others behind taken adds.
        let one = second.adds others (m before behind) (taken + s) (first.adds others behind taken adds) in
        record {
          marks = one.marks ∙ ap (λ p. marks_of p ++ marks_of_tasks marked_of others) (sym (before-assoc n m behind));
          all = one.all;
          weight = omega (arith, one.weight);
        };
  }

  -- a task that skips bytes adds them without a mark
  pub grow-skip : (old new : List (Task T)) (n : ℕ) (b : List ℕ) → new ≡ task.Skip n ∷ old → n ≡ length b → Grows marked_of IsLater weight_of old new (text b marks.done) 1
  unfolding marks_of ◌before◌ marks_of_tasks marks_of_task IsTask weight_of_tasks weight_of_task
  grow-skip old new n b is long = record {
    adds = λ others behind taken adds. record {
      marks = ap (marks_of_tasks marked_of) is ∙ ap (λ ms. skip n ∷ ms) adds.marks ∙ ap (λ l. skip l ∷ (marks_of behind ++ marks_of_tasks marked_of others)) long;
      all = λ h. subst (All (IsTask IsLater)) (sym is) (All-cons (IsTask IsLater) (task.Skip n) old tt (adds.all h));
      weight = omega (arith, ap (weight_of_tasks weight_of) is, adds.weight);
    };
  }

  -- a task that begins a stretch, and the tasks for what is in the stretch, add the stretch's mark and what is within it
  pub grow-begin : (old between new : List (Task T)) (role : Role) (ordinal : Ordinal) (n : ℕ) (inside : Marked) (s : ℕ) → new ≡ task.Begin role ordinal n ∷ between → n ≡ length (text_of inside)
      → Grows marked_of IsLater weight_of old between inside s → Grows marked_of IsLater weight_of old new (marked role ordinal inside marks.done) (s + 1)
  unfolding marks_of ◌before◌ marks_of_tasks marks_of_task IsTask weight_of_tasks weight_of_task
  grow-begin old between new role ordinal n inside s is long grows = record {
    adds = λ others behind taken adds.
        let one = grows.adds others behind taken adds in
        record {
          marks =
              ap (marks_of_tasks marked_of) is
              ∙ ap (λ ms. begin role ordinal n ∷ ms) (one.marks ∙ ap (λ ms. ms ++ marks_of_tasks marked_of others) (marks_of-before inside behind))
              ∙ ap (λ l. begin role ordinal l ∷ ((marks_of inside ++ marks_of behind) ++ marks_of_tasks marked_of others)) long;
          all = λ h. subst (All (IsTask IsLater)) (sym is) (All-cons (IsTask IsLater) (task.Begin role ordinal n) between tt (one.all h));
          weight = omega (arith, ap (weight_of_tasks weight_of) is, one.weight);
        };
  }

  -- a task for something that is taken apart later adds the marks of that thing
  pub grow-later : (old new : List (Task T)) (next : T) → new ≡ task.Later next ∷ old → IsLater next → Grows marked_of IsLater weight_of old new (marked_of next) (weight_of next)
  unfolding marks_of_tasks marks_of_task IsTask weight_of_tasks weight_of_task
  grow-later old new next is may = record {
    adds = λ others behind taken adds. record {
      marks =
          ap (marks_of_tasks marked_of) is
          ∙ ap (λ ms. marks_of (marked_of next) ++ ms) adds.marks
          ∙ sym (append_assoc (marks_of (marked_of next)) (marks_of behind) (marks_of_tasks marked_of others))
          ∙ ap (λ ms. ms ++ marks_of_tasks marked_of others) (sym (marks_of-before (marked_of next) behind));
      all = λ h. subst (All (IsTask IsLater)) (sym is) (All-cons (IsTask IsLater) (task.Later next) old may (adds.all h));
      weight = omega (arith, ap (weight_of_tasks weight_of) is, adds.weight);
    };
  }

  -- a task that skips what is printed adds it without a mark
  pub grow-plain : (old new : List (Task T)) (u : Unshared) → new ≡ task.Skip (length (printed.text_of u)) ∷ old → Grows marked_of IsLater weight_of old new (plain u) 1
  grow-plain old new u is = grow-skip old new (length (printed.text_of u)) (printed.text_of u) is refl

  -- the tasks for one part of this many bytes add the part
  pub grow-alone : (old new : List (Task T)) (role : Role) (ordinal : Ordinal) (n : ℕ) (b : List ℕ) → new ≡ task.Begin role ordinal n ∷ task.Skip n ∷ old → n ≡ length b
      → Grows marked_of IsLater weight_of old new (alone role ordinal b marks.done) 2
  unfolding text_of
  grow-alone old new role ordinal n b is long =
      grow-begin old (task.Skip n ∷ old) new role ordinal n (text b marks.done) 1 is (long ∙ ap length (sym (append-nil b))) (grow-skip old (task.Skip n ∷ old) n b refl long)

  -- the tasks for one part of all that is printed add the part
  pub grow-whole : (old new : List (Task T)) (role : Role) (ordinal : Ordinal) (u : Unshared) → new ≡ task.Begin role ordinal (length (printed.text_of u)) ∷ task.Skip (length (printed.text_of u)) ∷ old
      → Grows marked_of IsLater weight_of old new (whole role ordinal u) 2
  grow-whole old new role ordinal u is = grow-alone old new role ordinal (length (printed.text_of u)) (printed.text_of u) is refl
