-- What the work stack prints and costs, before and after one step.
use Rattle.sym_print.proofs.Basics.{◌≡◌, ℕ, suc, ◌+◌, ◌-◌, ◌<◌, ◌≤◌, Some, List, [], ◌∷◌, ◌++◌, length, take, drop, reverse, slice_get, refl, sym, ap, ◌∙◌, subst, append_assoc, append-nil, arith, get_or, reverse-append, take_all, length-append, length-reverse, drop-take, take-append-le, take-suc, All, All-append, All-take, All-nil, All-head, All-tail, All-push, All-pop, All-same, Item, Part, Sub, Unshared, text_of, cost_of, cost_of_parts, steps_of_parts, joined, with_parts, IsNext, IsText, text_of_part, cost_of_part, steps_of_part, text_of_stack, cost_of_stack, steps_of_stack, spends}
use Rattle.std.proofs.lemmas.Option.{slice_get_within, get_or_from_slice_get, slice_get_read}
use Rattle.sym_print.proofs.Leading.{reverse-next, drop-next}
use Rattle.sym_print.specs.declared.printer.Printer.{Printer}
use Rattle.sym_print.specs.Printing.{entries, spent, may_spend, Begins}

module _ {C : Type 0} where
  -- the next entry comes last
  pub next_is_last : (stack : List (Part C)) (next : Part C) → IsNext stack next → stack ≡ take (length stack - 1) stack ++ next ∷ []
  next_is_last stack next h =
      let within : length stack - 1 < length stack = slice_get_within stack (length stack - 1) next h in
      let here : get_or stack (length stack - 1) next ≡ next = get_or_from_slice_get stack (length stack - 1) next next h in
      let all : take (length stack) stack ≡ stack = take_all (length stack) stack (omega arith) in
      let one : suc (length stack - 1) ≡ length stack = omega arith in
      let split : take (suc (length stack - 1)) stack ≡ take (length stack - 1) stack ++ get_or stack (length stack - 1) next ∷ [] = take-suc stack (length stack - 1) next within in
      sym all ∙ ap (λ n. take n stack) (sym one) ∙ split ∙ ap (λ p. take (length stack - 1) stack ++ p ∷ []) here

  -- an entry that was taken into a list of its own is above what is left of the stack
  pub top_is : (stack left none parts : List (Part C)) (next : Part C) → stack ≡ left ++ next ∷ [] → none ≡ [] → parts ≡ none ++ next ∷ [] → with_parts left parts ≡ stack
  top_is stack left none parts next popped empty put =
      let one : parts ≡ next ∷ [] = put ∙ ap (λ xs. xs ++ next ∷ []) empty in
      ap (λ xs. left ++ reverse xs) one ∙ sym popped

  -- the next entry may be asked for where all entries may
  pub next_may_come : (P : Part C → Type 0) (stack : List (Part C)) (next : Part C) → All P stack → IsNext stack next → P next
  next_may_come P stack next all h =
      subst P (get_or_from_slice_get stack (length stack - 1) next next h)
      (all (length stack - 1) next (slice_get_within stack (length stack - 1) next h))

  pub All-reverse : (P : Part C → Type 0) (parts : List (Part C)) → All P parts → All P (reverse parts)
  All-reverse P [] all = All-nil P
  All-reverse P (x ∷ xs) all =
      subst (All P) (sym (reverse-append (x ∷ []) xs))
      (All-push P (reverse xs) x (All-reverse P xs (All-tail P x xs all)) (All-head P x xs all))

  -- all entries may be asked for, once an item's parts are in its place
  pub All-visit : (P : Part C → Type 0) (stack parts : List (Part C)) → All P stack → All P parts → All P (take (length stack - 1) stack ++ reverse parts)
  All-visit P stack parts old new = All-append P (take (length stack - 1) stack) (reverse parts) (All-take P (length stack - 1) stack old) (All-reverse P parts new)

  -- likewise, where the item was taken from the stack before
  pub All-turn : (P : Part C → Type 0) (held below after left : List (Part C)) (i : Item C) → held ≡ below ++ Sub i ∷ [] → after ≡ below ++ reverse left
      → All P held → All P left → All P after
  All-turn P held below after left i was is old new =
      All-same P after (below ++ reverse left) is (All-append P below (reverse left) ((All-pop P held below (Some (Sub i)) was old).0) (All-reverse P left new))

  -- a part that was read at its place in a list
  pub here_is : (seen parts : List (Part C)) (n k : ℕ) (part : Part C) → seen ≡ parts → n ≡ length parts → k < n → part ≡ get_or seen k part → slice_get parts k ≡ Some part
  here_is seen parts n k part same count within read = ap (λ xs. slice_get xs k) (sym same) ∙ slice_get_read seen n k part (count ∙ ap length (sym same)) within read

  -- the first of the parts above a stack comes last in the list
  pub above_is : (stack parts : List (Part C)) (k : ℕ) (part : Part C) → slice_get parts k ≡ Some part
      → with_parts stack (drop k parts) ≡ with_parts stack (drop (k + 1) parts) ++ part ∷ []
  above_is stack parts k part h =
      let last = reverse-next parts k part (slice_get_within parts k part h) (sym (get_or_from_slice_get parts k part part h)) in
      ap (λ r. stack ++ r) last ∙ sym (append_assoc stack (reverse (drop (k + 1) parts)) (part ∷ []))

  -- a part is above those after it, which were moved to the stack
  pub above_moved : (stack moved now parts : List (Part C)) (k : ℕ) (part : Part C) → slice_get parts k ≡ Some part → moved ≡ with_parts stack (drop (k + 1) parts) → now ≡ moved
      → with_parts stack (drop k parts) ≡ now ++ part ∷ []
  above_moved stack moved now parts k part h put same = above_is stack parts k part h ∙ ap (λ s. s ++ part ∷ []) (sym (same ∙ put))

  -- once the parts after a part are moved to the stack, that part and the moved ones are above the stack
  pub moved_is : (stack moved parts left : List (Part C)) (k : ℕ) (part : Part C) → slice_get parts k ≡ Some part → moved ≡ with_parts stack (drop (k + 1) parts) → left ≡ take (k + 1) parts
      → with_parts moved (drop k left) ≡ with_parts stack (drop k parts)
  moved_is stack moved parts left k part h put kept =
      let here = drop-next parts k part (slice_get_within parts k part h) (sym (get_or_from_slice_get parts k part part h)) in
      let one : drop k left ≡ part ∷ [] = ap (λ xs. drop k xs) kept ∙ drop-take k 1 parts ∙ ap (λ xs. take 1 xs) here in
      ap (λ xs. moved ++ reverse xs) one ∙ ap (λ xs. xs ++ part ∷ []) put ∙ sym (above_is stack parts k part h)

  -- the length of a stack, before an item is taken from it and once the item's parts are in its place
  pub length_of_turn : (held below after left : List (Part C)) (i : Item C) → held ≡ below ++ Sub i ∷ [] → after ≡ below ++ reverse left
      → (length held ≡ length below + 1) × (length after ≡ length below + length left)
  length_of_turn held below after left i was is = (
    omega (arith, ap length was, length-append below (Sub i ∷ [])),
    omega (arith, ap length is, length-append below (reverse left), length-reverse left),
  )

-- the items before the last one are the list without its last item
pub without_last : {X : Type 0} (xs ys : List X) (x : X) → xs ≡ ys ++ x ∷ [] → ys ≡ take (length xs - 1) xs
without_last xs ys x e =
    let long : length xs - 1 ≡ length ys = omega (arith, ap length e, length-append ys (x ∷ [])) in
    sym
    (ap (λ n. take n xs) long
    ∙ ap (λ l. take (length ys) l) e
    ∙ take-append-le (length ys) ys (x ∷ []) (omega arith)
    ∙ take_all (length ys) ys (omega arith))

-- a stack with parts in place of its top
pub replaced : {X : Type 0} (old popped new parts : List X) → popped ≡ take (length old - 1) old → new ≡ popped ++ reverse parts → new ≡ take (length old - 1) old ++ reverse parts
replaced old popped new parts top put = put ∙ ap (λ xs. xs ++ reverse parts) top

module _ {C : Type 0} (unshared : Item C → Unshared) (bytes_of : Part C → List ℕ) where
  shown : List (Part C) → List ℕ
  shown = text_of_stack unshared bytes_of

  one : Part C → List ℕ
  one = text_of_part unshared bytes_of

  price : List (Part C) → ℕ
  price = cost_of_stack unshared bytes_of

  count : List (Part C) → ℕ
  count = steps_of_stack unshared bytes_of

  -- a stack prints what is above before what is below
  pub text_of_stack-append : (below above : List (Part C)) → text_of_stack unshared bytes_of (below ++ above) ≡ text_of_stack unshared bytes_of above ++ text_of_stack unshared bytes_of below
  unfolding shown one
  text_of_stack-append [] above = sym (append-nil (shown above))
  text_of_stack-append (part ∷ below) above =
      ap (λ t. t ++ one part) (text_of_stack-append below above)
      ∙ append_assoc (shown above) (shown below) (one part)

  pub cost_of_stack-append : (below above : List (Part C)) → cost_of_stack unshared bytes_of (below ++ above) ≡ cost_of_stack unshared bytes_of above + cost_of_stack unshared bytes_of below
  cost_of_stack-append [] above = omega arith
  cost_of_stack-append (part ∷ below) above = omega (arith, cost_of_stack-append below above)

  pub steps_of_stack-append : (below above : List (Part C)) → steps_of_stack unshared bytes_of (below ++ above) ≡ steps_of_stack unshared bytes_of above + steps_of_stack unshared bytes_of below
  steps_of_stack-append [] above = omega arith
  steps_of_stack-append (part ∷ below) above = omega (arith, steps_of_stack-append below above)

  -- the text of parts is that of the first one, and then that of the others
  text_of_joined : (next : Part C) (rest : List (Part C)) → text_of (joined unshared bytes_of (next ∷ rest)) ≡ text_of_part unshared bytes_of next ++ text_of (joined unshared bytes_of rest)
  text_of_joined (Sub i) rest = refl
  text_of_joined _ rest = refl

  cost_of_joined : (next : Part C) (rest : List (Part C)) → cost_of_parts (joined unshared bytes_of (next ∷ rest)) ≡ cost_of_part unshared bytes_of next + cost_of_parts (joined unshared bytes_of rest)
  cost_of_joined (Sub i) rest = refl
  cost_of_joined _ rest = refl

  steps_of_joined : (next : Part C) (rest : List (Part C)) → steps_of_parts (joined unshared bytes_of (next ∷ rest)) ≡ steps_of_part unshared bytes_of next + steps_of_parts (joined unshared bytes_of rest)
  steps_of_joined (Sub i) rest = refl
  steps_of_joined _ rest = refl

  -- the parts of an item, put on the stack with the first on top, print what the item does
  pub text_of_stack-reverse : (parts : List (Part C)) → text_of_stack unshared bytes_of (reverse parts) ≡ text_of (joined unshared bytes_of parts)
  unfolding shown one
  text_of_stack-reverse [] = refl
  text_of_stack-reverse (next ∷ rest) =
      ap shown (reverse-append (next ∷ []) rest)
      ∙ text_of_stack-append (reverse rest) (next ∷ [])
      ∙ ap (λ t. one next ++ t) (text_of_stack-reverse rest)
      ∙ sym (text_of_joined next rest)

  pub cost_of_stack-reverse : (parts : List (Part C)) → cost_of_stack unshared bytes_of (reverse parts) ≡ cost_of_parts (joined unshared bytes_of parts)
  unfolding price
  cost_of_stack-reverse [] = refl
  cost_of_stack-reverse (next ∷ rest) =
      omega (arith, ap price (reverse-append (next ∷ []) rest), cost_of_stack-append (reverse rest) (next ∷ []), cost_of_stack-reverse rest, cost_of_joined next rest)

  pub steps_of_stack-reverse : (parts : List (Part C)) → steps_of_stack unshared bytes_of (reverse parts) ≡ steps_of_parts (joined unshared bytes_of parts)
  unfolding count
  steps_of_stack-reverse [] = refl
  steps_of_stack-reverse (next ∷ rest) =
      omega (arith, ap count (reverse-append (next ∷ []) rest), steps_of_stack-append (reverse rest) (next ∷ []), steps_of_stack-reverse rest, steps_of_joined next rest)

  -- a stack prints its next entry, and then what is left of it
  pub text_of_next : (stack : List (Part C)) (next : Part C) → IsNext stack next
      → text_of_stack unshared bytes_of stack ≡ text_of_part unshared bytes_of next ++ text_of_stack unshared bytes_of (take (length stack - 1) stack)
  unfolding shown
  text_of_next stack next h = ap shown (next_is_last stack next h) ∙ text_of_stack-append (take (length stack - 1) stack) (next ∷ [])

  pub cost_of_next : (stack : List (Part C)) (next : Part C) → IsNext stack next
      → cost_of_stack unshared bytes_of stack ≡ cost_of_part unshared bytes_of next + cost_of_stack unshared bytes_of (take (length stack - 1) stack)
  unfolding price
  cost_of_next stack next h = omega (arith, ap price (next_is_last stack next h), cost_of_stack-append (take (length stack - 1) stack) (next ∷ []))

  pub steps_of_next : (stack : List (Part C)) (next : Part C) → IsNext stack next
      → steps_of_stack unshared bytes_of stack ≡ steps_of_part unshared bytes_of next + steps_of_stack unshared bytes_of (take (length stack - 1) stack)
  unfolding count
  steps_of_next stack next h = omega (arith, ap count (next_is_last stack next h), steps_of_stack-append (take (length stack - 1) stack) (next ∷ []))

  -- an item's parts, in its place, print what the item does; the first of them may be written already
  pub text_of_visit : (stack parts left : List (Part C)) (i : Item C) (old new : List ℕ) → IsNext stack (Sub i) → unshared i ≡ joined unshared bytes_of parts
      → new ++ text_of (joined unshared bytes_of left) ≡ old ++ text_of (joined unshared bytes_of parts)
      → new ++ text_of_stack unshared bytes_of (take (length stack - 1) stack ++ reverse left) ≡ old ++ text_of_stack unshared bytes_of stack
  unfolding shown
  text_of_visit stack parts left i old new h e written =
      let below = shown (take (length stack - 1) stack) in
      ap (λ t. new ++ t) (text_of_stack-append (take (length stack - 1) stack) (reverse left) ∙ ap (λ t. t ++ below) (text_of_stack-reverse left))
      ∙ sym (append_assoc new (text_of (joined unshared bytes_of left)) below)
      ∙ ap (λ t. t ++ below) (written ∙ ap (λ u. old ++ text_of u) (sym e))
      ∙ append_assoc old (text_of (unshared i)) below
      ∙ ap (λ t. old ++ t) (sym (text_of_next stack (Sub i) h))

  -- an item's parts cost one less than the item
  pub cost_of_visit : (stack parts left : List (Part C)) (i : Item C) (old new : ℕ) → IsNext stack (Sub i) → unshared i ≡ joined unshared bytes_of parts
      → new + cost_of_parts (joined unshared bytes_of left) ≡ (old + 1) + cost_of_parts (joined unshared bytes_of parts)
      → new + cost_of_stack unshared bytes_of (take (length stack - 1) stack ++ reverse left) ≡ old + cost_of_stack unshared bytes_of stack
  cost_of_visit stack parts left i old new h e paid =
      omega (arith, paid, cost_of_stack-append (take (length stack - 1) stack) (reverse left), cost_of_stack-reverse left, ap cost_of_parts e, cost_of_next stack (Sub i) h)

  -- an item's parts take one step less than the item
  pub steps_of_visit : (stack parts left : List (Part C)) (i : Item C) (old new : ℕ) → IsNext stack (Sub i) → unshared i ≡ joined unshared bytes_of parts
      → new + steps_of_parts (joined unshared bytes_of left) ≡ (old + 1) + steps_of_parts (joined unshared bytes_of parts)
      → new + steps_of_stack unshared bytes_of (take (length stack - 1) stack ++ reverse left) ≡ old + steps_of_stack unshared bytes_of stack
  steps_of_visit stack parts left i old new h e paid =
      omega (arith, paid, steps_of_stack-append (take (length stack - 1) stack) (reverse left), steps_of_stack-reverse left, ap steps_of_parts e, steps_of_next stack (Sub i) h)

  -- likewise for text, cost and steps, where the item was taken from the stack before
  pub text_of_turn : (held below after parts left : List (Part C)) (i : Item C) (old new whole : List ℕ) → held ≡ below ++ Sub i ∷ [] → after ≡ below ++ reverse left
      → unshared i ≡ joined unshared bytes_of parts → new ++ text_of (joined unshared bytes_of left) ≡ old ++ text_of (joined unshared bytes_of parts)
      → old ++ text_of_stack unshared bytes_of held ≡ whole → new ++ text_of_stack unshared bytes_of after ≡ whole
  unfolding shown
  text_of_turn held below after parts left i old new whole was is e written before =
      ap (λ s. new ++ shown s) is
      ∙ ap (λ t. new ++ t) (text_of_stack-append below (reverse left) ∙ ap (λ t. t ++ shown below) (text_of_stack-reverse left))
      ∙ sym (append_assoc new (text_of (joined unshared bytes_of left)) (shown below))
      ∙ ap (λ t. t ++ shown below) (written ∙ ap (λ u. old ++ text_of u) (sym e))
      ∙ append_assoc old (text_of (unshared i)) (shown below)
      ∙ ap (λ t. old ++ t) (sym (text_of_stack-append below (Sub i ∷ [])))
      ∙ ap (λ s. old ++ shown s) (sym was)
      ∙ before

  pub cost_of_turn : (held below after parts left : List (Part C)) (i : Item C) (old paid new whole : ℕ) → held ≡ below ++ Sub i ∷ [] → after ≡ below ++ reverse left
      → unshared i ≡ joined unshared bytes_of parts → paid ≡ old + 1 → new + cost_of_parts (joined unshared bytes_of left) ≡ paid + cost_of_parts (joined unshared bytes_of parts)
      → old + cost_of_stack unshared bytes_of held ≡ whole → new + cost_of_stack unshared bytes_of after ≡ whole
  unfolding price
  cost_of_turn held below after parts left i old paid new whole was is e one written before =
      omega (
        arith,
        ap price is,
        cost_of_stack-append below (reverse left),
        cost_of_stack-reverse left,
        ap cost_of_parts e,
        ap price was,
        cost_of_stack-append below (Sub i ∷ []),
        one,
        written,
        before,
      )

  pub steps_of_turn : (held below after parts left : List (Part C)) (i : Item C) (old paid new whole : ℕ) → held ≡ below ++ Sub i ∷ [] → after ≡ below ++ reverse left
      → unshared i ≡ joined unshared bytes_of parts → paid ≡ old + 1 → new + steps_of_parts (joined unshared bytes_of left) ≡ paid + steps_of_parts (joined unshared bytes_of parts)
      → old + steps_of_stack unshared bytes_of held ≡ whole → new + steps_of_stack unshared bytes_of after ≡ whole
  unfolding count
  steps_of_turn held below after parts left i old paid new whole was is e one written before =
      omega (
        arith,
        ap count is,
        steps_of_stack-append below (reverse left),
        steps_of_stack-reverse left,
        ap steps_of_parts e,
        ap count was,
        steps_of_stack-append below (Sub i ∷ []),
        one,
        written,
        before,
      )

  -- a byte text prints and costs its bytes
  pub text_of_text : (next : Part C) → IsText next → text_of_part unshared bytes_of next ≡ bytes_of next
  text_of_text (Sub i) h = elim h [ ]
  text_of_text _ h = refl

  pub cost_of_text : (next : Part C) → IsText next → cost_of_part unshared bytes_of next ≡ length (bytes_of next)
  cost_of_text (Sub i) h = elim h [ ]
  cost_of_text _ h = refl

  pub steps_of_text : (next : Part C) → IsText next → steps_of_part unshared bytes_of next ≡ 1
  steps_of_text (Sub i) h = elim h [ ]
  steps_of_text _ h = refl

  -- a byte text that is written is in the text and no longer above the stack
  pub text_of_put : (held below : List (Part C)) (part : Part C) (old new whole : List ℕ) → held ≡ below ++ part ∷ [] → IsText part → new ≡ old ++ bytes_of part
      → old ++ text_of_stack unshared bytes_of held ≡ whole → new ++ text_of_stack unshared bytes_of below ≡ whole
  unfolding shown one
  text_of_put held below part old new whole was is_text put before =
      ap (λ t. t ++ shown below) put
      ∙ append_assoc old (bytes_of part) (shown below)
      ∙ ap (λ t. old ++ (t ++ shown below)) (sym (text_of_text part is_text))
      ∙ ap (λ t. old ++ t) (sym (text_of_stack-append below (part ∷ [])))
      ∙ ap (λ s. old ++ shown s) (sym was)
      ∙ before

  pub cost_of_put : (held below : List (Part C)) (part : Part C) (old new whole : ℕ) → held ≡ below ++ part ∷ [] → IsText part → new ≡ old + length (bytes_of part)
      → old + cost_of_stack unshared bytes_of held ≡ whole → new + cost_of_stack unshared bytes_of below ≡ whole
  unfolding price
  cost_of_put held below part old new whole was is_text paid before = omega (arith, ap price was, cost_of_stack-append below (part ∷ []), cost_of_text part is_text, paid, before)

  pub steps_of_put : (held below : List (Part C)) (part : Part C) (old new whole : ℕ) → held ≡ below ++ part ∷ [] → IsText part → new ≡ old + 1
      → old + steps_of_stack unshared bytes_of held ≡ whole → new + steps_of_stack unshared bytes_of below ≡ whole
  unfolding count
  steps_of_put held below part old new whole was is_text paid before = omega (arith, ap count was, steps_of_stack-append below (part ∷ []), steps_of_text part is_text, paid, before)

  -- an entry costs at least what taking it spends
  pub spends-le : (next : Part C) → spends unshared bytes_of next ≤ cost_of_part unshared bytes_of next
  spends-le (Sub i) = omega arith
  spends-le _ = omega arith

  -- where the limit doesn't cover a text above a stack, it doesn't cover both together
  pub text_too_dear : (held below : List (Part C)) (part : Part C) (limit spent : ℕ) → held ≡ below ++ part ∷ [] → IsText part → limit < spent + length (bytes_of part)
      → limit < spent + cost_of_stack unshared bytes_of held
  unfolding price
  text_too_dear held below part limit spent was is_text dear = omega (arith, ap price was, cost_of_stack-append below (part ∷ []), cost_of_text part is_text, dear)

  -- where the limit doesn't cover an entry, it doesn't cover the stack
  pub part_too_dear : (held below : List (Part C)) (part : Part C) (limit spent : ℕ) → held ≡ below ++ part ∷ [] → limit < spent + spends unshared bytes_of part
      → limit < spent + cost_of_stack unshared bytes_of held
  unfolding price
  part_too_dear held below part limit spent was dear = omega (arith, ap price was, cost_of_stack-append below (part ∷ []), spends-le part, dear)

  -- a byte text, once written, is in the text and no longer on the stack
  pub text_of_write : (stack left : List (Part C)) (next : Part C) (text written own : List ℕ)
      → IsNext stack next → IsText next → left ≡ take (length stack - 1) stack → own ≡ bytes_of next → written ≡ text ++ own
      → written ++ text_of_stack unshared bytes_of left ≡ text ++ text_of_stack unshared bytes_of stack
  unfolding shown one
  text_of_write stack left next text written own h is_text e f k =
      ap (λ t. t ++ shown left) k
      ∙ append_assoc text own (shown left)
      ∙ ap (λ t. text ++ t)
      (ap (λ t. t ++ shown left) (f ∙ sym (text_of_text next is_text))
      ∙ ap (λ t. one next ++ shown t) e
      ∙ sym (text_of_next stack next h))

  -- where the limit doesn't cover the next entry, it doesn't cover the stack
  pub too_dear : (stack : List (Part C)) (next : Part C) (limit spent : ℕ) → IsNext stack next → limit < spent + spends unshared bytes_of next
      → limit < spent + cost_of_stack unshared bytes_of stack
  too_dear stack next limit spent h dear = omega (arith, cost_of_next stack next h, spends-le next)

module _ {C : Type 0} where
  -- a text that was printed to its end has cost no more than the limit
  pub printed-within : (unshared : Item C → Unshared) (bytes_of : Part C → List ℕ) (printed : Printer C) {begun : Printer C}
      {root : Item C} {limit : ℕ} → Begins begun root limit → entries printed ≡ []
      → spent printed + cost_of_stack unshared bytes_of (entries printed)
      ≡ spent begun + cost_of_stack unshared bytes_of (entries begun)
      → may_spend printed ≡ may_spend begun → spent printed ≤ may_spend printed → cost_of (unshared root) ≤ limit
  printed-within unshared bytes_of printed {begun} begins empty costs same fits =
      let costs_of : List (Part C) → ℕ = cost_of_stack unshared bytes_of in
      let left : costs_of (entries printed) ≡ 0 = ap costs_of empty in
      let whole : costs_of (entries begun) ≡ costs_of (Sub _ ∷ []) = ap costs_of begins.whole in
      omega (arith, left, whole, begins.nothing_spent, begins.bounded)
