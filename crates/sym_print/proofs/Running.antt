-- A run of items prints what its end and the text after the end print. It costs what these cost, and 1 for each of its
-- items.
use Rattle.sym_print.proofs.Basics.{◌≡◌, ℕ, ◌+◌, ◌-◌, ◌*◌, ◌<◌, ◌≤◌, Option, Some, None, List, [], ◌∷◌, ◌++◌, length, take, refl, sym, ap, ◌∙◌, append_assoc, append-nil, arith, length-append, All, All-nil, All-cons, All-head, All-tail, All-append, All-take, All-same, Item, Part, Sub, Unshared, text_of, cost_of, cost_of_parts, steps_of, steps_of_parts, IsNext, IsText, text_of_stack, cost_of_stack, steps_of_stack, height_of, height_of_part, peak_above, peak_of_stack, spare_of_stack}
use Rattle.sym_print.specs.declared.layout.Run.{Run}
use Rattle.sym_print.specs.Runs.{nested, texts_of, IsTextOfRun, entries_of_run, steps_of_run, IsRun}
use Rattle.sym_print.proofs.Stack.{next_is_last, text_of_text, cost_of_text, steps_of_text}
use Rattle.sym_print.proofs.Sparing.{spare_of_text}
use Rattle.sym_print.proofs.Noting.{Moves}
use Rattle.sym_print.proofs.Peak.{peak_of_turn}

text_of_nested : (texts : List (List ℕ)) (u : Unshared) → text_of (nested texts u) ≡ text_of u ++ texts_of texts
text_of_nested [] u = sym (append-nil (text_of u))
text_of_nested ([] ∷ ts) u =
    append-nil (text_of (nested ts u)) ∙ text_of_nested ts u ∙ ap (λ t. text_of u ++ t) (sym (append-nil (texts_of ts)))
text_of_nested ((b ∷ bs) ∷ ts) u =
    ap (λ t. text_of (nested ts u) ++ t) (append-nil (b ∷ bs))
    ∙ ap (λ t. t ++ (b ∷ bs)) (text_of_nested ts u)
    ∙ append_assoc (text_of u) (texts_of ts) (b ∷ bs)

cost_of_nested : (texts : List (List ℕ)) (u : Unshared) → cost_of_parts (nested texts u) ≡ length texts + cost_of_parts u + length (texts_of texts)
cost_of_nested [] u = omega arith
cost_of_nested ([] ∷ ts) u = omega (arith, cost_of_nested ts u, length-append (texts_of ts) [])
cost_of_nested ((b ∷ bs) ∷ ts) u = omega (arith, cost_of_nested ts u, length-append (texts_of ts) (b ∷ bs))

height_of_nested : (texts : List (List ℕ)) (u : Unshared) → height_of (nested texts u) ≡ length texts + height_of u
height_of_nested [] u = omega arith
height_of_nested ([] ∷ ts) u = omega (arith, height_of_nested ts u)
height_of_nested ((b ∷ bs) ∷ ts) u = omega (arith, height_of_nested ts u)

steps_with_text : (texts : List (List ℕ)) (u : Unshared) → All (λ t. 0 < length t) texts → steps_of_parts (nested texts u) ≡ length texts + length texts + steps_of_parts u
steps_with_text [] u some = omega arith
steps_with_text ([] ∷ ts) u some = absurd (omega (arith, All-head (λ t. 0 < length t) [] ts some))
steps_with_text ((b ∷ bs) ∷ ts) u some = omega (arith, steps_with_text ts u (All-tail (λ t. 0 < length t) (b ∷ bs) ts some))

steps_without_text : (texts : List (List ℕ)) (u : Unshared) → All (λ t. t ≡ []) texts → steps_of_parts (nested texts u) ≡ length texts + steps_of_parts u
steps_without_text [] u none = omega arith
steps_without_text ([] ∷ ts) u none = omega (arith, steps_without_text ts u (All-tail (λ t. t ≡ []) [] ts none))
steps_without_text ((b ∷ bs) ∷ ts) u none = absurd (omega (arith, ap length (All-head (λ t. t ≡ []) (b ∷ bs) ts none)))

texts_of_none : (texts : List (List ℕ)) → All (λ t. t ≡ []) texts → texts_of texts ≡ []
texts_of_none [] none = refl
texts_of_none (t ∷ ts) none =
    ap (λ s. texts_of ts ++ s) (All-head (λ t. t ≡ []) t ts none) ∙ append-nil (texts_of ts) ∙ texts_of_none ts (All-tail (λ t. t ≡ []) t ts none)

texts_are_long : (texts : List (List ℕ)) → All (λ t. 0 < length t) texts → length texts ≤ length (texts_of texts)
texts_are_long [] some = omega arith
texts_are_long (t ∷ ts) some =
    omega (arith, length-append (texts_of ts) t, All-head (λ t. 0 < length t) t ts some, texts_are_long ts (All-tail (λ t. 0 < length t) t ts some))

module _ {C : Type 0} (unshared : Item C → Unshared) (bytes_of : Part C → List ℕ) (may_come : Part C → Type 0) where
  run-shows : (i end : Item C) (texts : List (List ℕ)) (text : Option (Part C)) → unshared i ≡ nested texts (unshared end) → IsTextOfRun bytes_of may_come texts text
      → text_of_stack unshared bytes_of (entries_of_run end text) ≡ text_of (unshared i)
  run-shows i end texts None e none =
      sym (ap text_of e ∙ text_of_nested texts (unshared end) ∙ ap (λ t. text_of (unshared end) ++ t) (texts_of_none texts none) ∙ append-nil (text_of (unshared end)))
  run-shows i end texts (Some part) e text =
      ap (λ t. text_of (unshared end) ++ t) (text_of_text unshared bytes_of part text.0 ∙ text.3)
      ∙ sym (ap text_of e ∙ text_of_nested texts (unshared end))

  run-costs : (i end : Item C) (levels : ℕ) (texts : List (List ℕ)) (text : Option (Part C)) → unshared i ≡ nested texts (unshared end) → levels ≡ length texts → IsTextOfRun bytes_of may_come texts text
      → levels + cost_of_stack unshared bytes_of (entries_of_run end text) ≡ cost_of (unshared i)
  run-costs i end levels texts None e count none =
      omega (arith, ap cost_of_parts e, count, cost_of_nested texts (unshared end), ap length (texts_of_none texts none))
  run-costs i end levels texts (Some part) e count text =
      omega (arith, ap cost_of_parts e, count, cost_of_nested texts (unshared end), cost_of_text unshared bytes_of part text.0, ap length text.3)

  run-takes : (i end : Item C) (levels : ℕ) (texts : List (List ℕ)) (text : Option (Part C)) → unshared i ≡ nested texts (unshared end) → levels ≡ length texts → 0 < levels → IsTextOfRun bytes_of may_come texts text
      → steps_of_run levels text + steps_of_stack unshared bytes_of (entries_of_run end text) ≡ steps_of (unshared i)
  run-takes i end levels texts None e count some none = omega (arith, ap steps_of_parts e, count, steps_without_text texts (unshared end) none)
  run-takes i end levels texts (Some part) e count some text =
      omega (arith, ap steps_of_parts e, count, some, steps_with_text texts (unshared end) text.2, steps_of_text unshared bytes_of part text.0)

  run-paid : (end : Item C) (levels : ℕ) (texts : List (List ℕ)) (text : Option (Part C)) → levels ≡ length texts → IsTextOfRun bytes_of may_come texts text
      → steps_of_run levels text ≤ levels + spare_of_stack bytes_of (entries_of_run end text)
  run-paid end levels texts None count none = omega arith
  run-paid end levels texts (Some part) count text =
      omega (arith, count, texts_are_long texts text.2, ap length text.3, spare_of_text bytes_of part text.0)

  -- the end of a run and its text take the place of the item that begins the run
  pub moves-run : (stack new : List (Part C)) (i : Item C) (run : Run C) (text : List ℕ) (spent paid taken counted : ℕ) → IsNext stack (Sub i) → IsRun unshared bytes_of may_come i run
      → new ≡ take (length stack - 1) stack ++ entries_of_run run.item run.text → paid ≡ spent + run.levels → counted ≡ taken + steps_of_run run.levels run.text
      → Moves unshared bytes_of stack new text text spent paid taken counted
  moves-run stack new i run text spent paid taken counted h is_run is pays counts = record {
    left = take (length stack - 1) stack;
    next = Sub i;
    above = entries_of_run run.item run.text;
    own = [];
    was = next_is_last stack (Sub i) h;
    is = is;
    puts = sym (append-nil text);
    shows = run-shows i run.item is_run.texts run.text is_run.is_nested is_run.text;
    costs = omega (arith, pays, run-costs i run.item run.levels is_run.texts run.text is_run.is_nested is_run.levels is_run.text);
    takes = omega (arith, counts, run-takes i run.item run.levels is_run.texts run.text is_run.is_nested is_run.levels is_run.some is_run.text);
    few = omega (arith, pays, counts, run-paid run.item run.levels is_run.texts run.text is_run.levels is_run.text);
  }

  entries_may_come : (end : Item C) (texts : List (List ℕ)) (text : Option (Part C)) → may_come (Sub end) → IsTextOfRun bytes_of may_come texts text → All may_come (entries_of_run end text)
  entries_may_come end texts None may none = All-cons may_come (Sub end) [] may (All-nil may_come)
  entries_may_come end texts (Some part) may text = All-cons may_come part (Sub end ∷ []) text.1 (All-cons may_come (Sub end) [] may (All-nil may_come))

  -- the test `may_come` holds of all entries once a run's end is in its place
  pub All-run : (stack new : List (Part C)) (i : Item C) (run : Run C) → All may_come stack → IsRun unshared bytes_of may_come i run
      → new ≡ take (length stack - 1) stack ++ entries_of_run run.item run.text → All may_come new
  All-run stack new i run all is_run is =
      All-same may_come new (take (length stack - 1) stack ++ entries_of_run run.item run.text) is
      (All-append may_come (take (length stack - 1) stack) (entries_of_run run.item run.text) (All-take may_come (length stack - 1) stack all)
      (entries_may_come run.item is_run.texts run.text is_run.end is_run.text))

  low_text : (part : Part C) → IsText part → height_of_part unshared part ≡ 0
  low_text (Sub i) h = elim h [ ]
  low_text _ h = refl

  entries_are_low : (below : ℕ) (i end : Item C) (levels : ℕ) (texts : List (List ℕ)) (text : Option (Part C)) → unshared i ≡ nested texts (unshared end) → levels ≡ length texts → 0 < levels
      → IsTextOfRun bytes_of may_come texts text → peak_above unshared below (entries_of_run end text) ≤ below + 1 + 7 * height_of_part unshared (Sub i)
  entries_are_low below i end levels texts None e count some none = omega (arith, ap height_of e, height_of_nested texts (unshared end))
  entries_are_low below i end levels texts (Some part) e count some text =
      omega (arith, ap height_of e, height_of_nested texts (unshared end), count, some, low_text part text.0)

  -- a run doesn't raise the greatest number of entries
  pub peak_of_run : (stack new : List (Part C)) (i : Item C) (run : Run C) → IsNext stack (Sub i) → IsRun unshared bytes_of may_come i run
      → new ≡ take (length stack - 1) stack ++ entries_of_run run.item run.text → peak_of_stack unshared new ≤ peak_of_stack unshared stack
  peak_of_run stack new i run h is_run is =
      peak_of_turn unshared bytes_of stack new (entries_of_run run.item run.text) (Sub i) h is
      (entries_are_low (length (take (length stack - 1) stack)) i run.item run.levels is_run.texts run.text is_run.is_nested is_run.levels is_run.some is_run.text)

  -- the item that begins a run costs at least as much as the run has levels
  pub run-too-dear : (i : Item C) (run : Run C) → IsRun unshared bytes_of may_come i run → run.levels ≤ cost_of (unshared i)
  run-too-dear i run is_run = omega (arith, run-costs i run.item run.levels is_run.texts run.text is_run.is_nested is_run.levels is_run.text)
