-- Tasks of a Rust symbol that are added before others, and the marks that they lead to.
use Rattle.rust_parts.proofs.Basics.{◌≡◌, ℕ, ◌+◌, ◌*◌, ◌<◌, ◌≤◌, List, ◌∷◌, length, refl, ap, ◌∙◌, Context, ReadSymbol, unshared_of, Item, Unshared, cost_of, steps_of, Role, Ordinal, plain, whole, alone, Task, elements, scope, name, path_at, Grows, IsApart, IsPayable, marked_of, weight_of, Apart}
use Rattle.sym_print.specs.Unshared as printed
use Rattle.sym_parts.specs.Marked.{Marked, text, marked, text_of, ◌before◌}
use Rattle.sym_parts.specs.Marked as marks
use Rattle.sym_parts.specs.declared.task.Task.TheVariants as task
use Rattle.sym_parts.proofs.Growing as growing
use Rattle.rust_parts.specs.declared.apart.Apart.TheVariants as apart

module _ (y : ReadSymbol) (most : ℕ) where
  -- tasks that have grown by marks within some steps have grown by equal marks within as many steps or more
  pub grow-same : (old new : List (Task Apart)) (m n : Marked) (s t : ℕ) → Grows y most old new m s → m ≡ n → s ≤ t → Grows y most old new n t
  grow-same = growing.grow-same (marked_of y) (IsApart y most) (weight_of y)

  -- the marks of tasks that are added later come first
  pub grow-then : (old between new : List (Task Apart)) (m n : Marked) (s t : ℕ) → Grows y most old between m s → Grows y most between new n t → Grows y most old new (n before m) (s + t)
  grow-then = growing.grow-then (marked_of y) (IsApart y most) (weight_of y)

  -- a task that skips bytes adds them without a mark
  pub grow-skip : (old new : List (Task Apart)) (n : ℕ) (b : List ℕ) → new ≡ task.Skip n ∷ old → n ≡ length b → Grows y most old new (text b marks.done) 1
  grow-skip = growing.grow-skip (marked_of y) (IsApart y most) (weight_of y)

  -- a task that begins a stretch, and the tasks for what is in the stretch, add the stretch's mark and what is within it
  pub grow-begin : (old between new : List (Task Apart)) (role : Role) (ordinal : Ordinal) (n : ℕ) (inside : Marked) (s : ℕ) → new ≡ task.Begin role ordinal n ∷ between → n ≡ length (text_of inside)
      → Grows y most old between inside s → Grows y most old new (marked role ordinal inside marks.done) (s + 1)
  grow-begin = growing.grow-begin (marked_of y) (IsApart y most) (weight_of y)

  -- a task that skips what is printed adds it without a mark
  pub grow-plain : (old new : List (Task Apart)) (u : Unshared) → new ≡ task.Skip (length (printed.text_of u)) ∷ old → Grows y most old new (plain u) 1
  grow-plain = growing.grow-plain (marked_of y) (IsApart y most) (weight_of y)

  -- likewise for a marked text that equals the printed text without a mark
  pub as-plain : (old new : List (Task Apart)) (u : Unshared) (m : Marked) (t : ℕ) → new ≡ task.Skip (length (printed.text_of u)) ∷ old → plain u ≡ m → 1 ≤ t → Grows y most old new m t
  as-plain old new u m t is same few = grow-same old new (plain u) m 1 t (grow-plain old new u is) same few

  -- the tasks for one part that has all of the printed text add the part
  pub grow-whole : (old new : List (Task Apart)) (role : Role) (ordinal : Ordinal) (u : Unshared) → new ≡ task.Begin role ordinal (length (printed.text_of u)) ∷ task.Skip (length (printed.text_of u)) ∷ old
      → Grows y most old new (whole role ordinal u) 2
  grow-whole = growing.grow-whole (marked_of y) (IsApart y most) (weight_of y)

  -- the tasks for one part of this many bytes add the part
  pub grow-alone : (old new : List (Task Apart)) (role : Role) (ordinal : Ordinal) (n : ℕ) (b : List ℕ) → new ≡ task.Begin role ordinal n ∷ task.Skip n ∷ old → n ≡ length b
      → Grows y most old new (alone role ordinal b marks.done) 2
  grow-alone = growing.grow-alone (marked_of y) (IsApart y most) (weight_of y)

  -- the tasks for a text and one part after it add both
  pub grow-after : (old new : List (Task Apart)) (role : Role) (ordinal : Ordinal) (b c : List ℕ) → new ≡ task.Skip (length b) ∷ task.Begin role ordinal (length c) ∷ task.Skip (length c) ∷ old
      → Grows y most old new (text b (alone role ordinal c marks.done)) 3
  unfolding ◌before◌
  grow-after old new role ordinal b c is =
      let between : List (Task Apart) = task.Begin role ordinal (length c) ∷ task.Skip (length c) ∷ old in
      grow-then old between new (alone role ordinal c marks.done) (text b marks.done) 2 1 (grow-alone old between role ordinal (length c) c refl refl) (grow-skip between new (length b) b is refl)

  -- a task for a piece that is taken apart later adds the piece's marks
  pub grow-name : (old new : List (Task Apart)) (lists node : ℕ) (i : Item Context) → new ≡ task.Later (apart.Name lists node i) ∷ old → node < length y.table.nodes → IsPayable y most i → lists + cost_of (unshared_of y i) ≤ most
      → Grows y most old new (name lists (path_at y node) (unshared_of y i)) (4 * steps_of (unshared_of y i))
  unfolding marked_of IsApart weight_of
  grow-name old new lists node i is below payable fits = growing.grow-later (marked_of y) (IsApart y most) (weight_of y) old new (apart.Name lists node i) is (below, payable, fits)

  pub grow-scope : (old new : List (Task Apart)) (lists node : ℕ) (i : Item Context) → new ≡ task.Later (apart.Scope lists node i) ∷ old → node < length y.table.nodes → IsPayable y most i → lists + cost_of (unshared_of y i) ≤ most
      → Grows y most old new (scope lists (path_at y node) (unshared_of y i)) (4 * steps_of (unshared_of y i))
  unfolding marked_of IsApart weight_of
  grow-scope old new lists node i is below payable fits = growing.grow-later (marked_of y) (IsApart y most) (weight_of y) old new (apart.Scope lists node i) is (below, payable, fits)

  pub grow-elements : (old new : List (Task Apart)) (list number : ℕ) (i : Item Context) → new ≡ task.Later (apart.Elements list number i) ∷ old → IsPayable y most i → number + cost_of (unshared_of y i) ≤ most
      → Grows y most old new (elements list number (unshared_of y i)) (4 * steps_of (unshared_of y i))
  unfolding marked_of IsApart weight_of
  grow-elements old new list number i is payable fits = growing.grow-later (marked_of y) (IsApart y most) (weight_of y) old new (apart.Elements list number i) is (payable, fits)

-- the tasks for a text and one part after it, by the steps in which they were added
pub after-tasks : (old between new : List (Task Apart)) (role : Role) (ordinal : Ordinal) (n m k l : ℕ) → new ≡ task.Skip n ∷ between → between ≡ task.Begin role ordinal m ∷ task.Skip m ∷ old → n ≡ k → m ≡ l
    → new ≡ task.Skip k ∷ task.Begin role ordinal l ∷ task.Skip l ∷ old
after-tasks old between new role ordinal n m k l last first front inside =
    last
    ∙ ap (λ ts. task.Skip n ∷ ts) first
    ∙ ap (λ x. task.Skip x ∷ task.Begin role ordinal m ∷ task.Skip m ∷ old) front
    ∙ ap (λ x. task.Skip k ∷ task.Begin role ordinal x ∷ task.Skip x ∷ old) inside
