-- Taking an entry from a stack doesn't raise the greatest number of entries that the stack has at once.
use Rattle.sym_print.proofs.Basics.{◌≡◌, ℕ, suc, ◌+◌, ◌-◌, ◌*◌, ◌≤◌, List, [], ◌∷◌, ◌++◌, length, take, reverse, ap, subst, sym, arith, reverse-append, length-append, length-reverse, Item, Part, Sub, Unshared, joined, IsNext, height_of, height_of_part, peak_above, peak_of_stack}
use Rattle.sym_print.proofs.Stack.{next_is_last}

module _ {C : Type 0} (unshared : Item C → Unshared) (bytes_of : Part C → List ℕ) where
  -- no entry is higher than `most`
  abbrev AreLow : ℕ → List (Part C) → Type 0
  AreLow most [] = Unit {0}
  AreLow most (part ∷ rest) = (height_of_part unshared part ≤ most) × AreLow most rest

  low_last : (most : ℕ) (parts : List (Part C)) (part : Part C) → AreLow most parts → height_of_part unshared part ≤ most → AreLow most (parts ++ part ∷ [])
  low_last most [] part low here = (here, tt)
  low_last most (first ∷ rest) part low here = (low.0, low_last most rest part low.1 here)

  low_reverse : (most : ℕ) (parts : List (Part C)) → AreLow most parts → AreLow most (reverse parts)
  low_reverse most [] low = tt
  low_reverse most (first ∷ rest) low = subst (AreLow most) (sym (reverse-append (first ∷ []) rest)) (low_last most (reverse rest) first (low_reverse most rest low.1) low.0)

  -- the parts of an item are lower than the item
  low_parts : (most : ℕ) (parts : List (Part C)) → height_of (joined unshared bytes_of parts) ≤ most → AreLow most parts
  low_parts most [] low = tt
  low_parts most (Sub i ∷ rest) low = (omega (arith, low), low_parts most rest (omega (arith, low)))
  low_parts most (_ ∷ rest) low = (omega arith, low_parts most rest low)

  -- a bound on the entries while low entries are printed, with others below them
  peak_low : (most below : ℕ) (parts : List (Part C)) → AreLow most parts → peak_above unshared below parts ≤ below + length parts + 7 * most
  peak_low most below [] low = omega arith
  peak_low most below (part ∷ rest) low = omega (arith, low.0, peak_low most (below + 1) rest low.1)

  peak_at : (most m n : ℕ) (above : List (Part C)) → m ≡ n → peak_above unshared m above ≤ most → peak_above unshared n above ≤ most
  peak_at most m n above same high = subst (λ k. peak_above unshared k above ≤ most) same high

  -- if some entries and the others above them both stay within a bound, so do all of them together
  peak_both : (most below : ℕ) (under above : List (Part C)) → peak_above unshared below under ≤ most → peak_above unshared (below + length under) above ≤ most → peak_above unshared below (under ++ above) ≤ most
  peak_both most below [] above low high = peak_at most (below + 0) below above (omega arith) high
  peak_both most below (part ∷ under) above low high =
      let rest = peak_both most (below + 1) under above (omega (arith, low)) (peak_at most (below + suc (length under)) (below + 1 + length under) above (omega arith) high) in
      omega (arith, low, rest)

  -- the entries below the last one stay within a bound of all entries
  peak_under : (most below : ℕ) (under : List (Part C)) (part : Part C) → peak_above unshared below (under ++ part ∷ []) ≤ most → peak_above unshared below under ≤ most
  peak_under most below [] part high = omega (arith, high)
  peak_under most below (first ∷ under) part high = omega (arith, high, peak_under most (below + 1) under part (omega (arith, high)))

  -- the last entry stays within a bound of all entries
  peak_last : (most below : ℕ) (under : List (Part C)) (part : Part C) → peak_above unshared below (under ++ part ∷ []) ≤ most → below + length under + 1 + 7 * height_of_part unshared part ≤ most
  peak_last most below [] part high = omega (arith, high)
  peak_last most below (first ∷ under) part high = omega (arith, peak_last most (below + 1) under part (omega (arith, high)))

  length_within : (below : ℕ) (stack : List (Part C)) → below + length stack ≤ peak_above unshared below stack
  length_within below [] = omega arith
  length_within below (part ∷ stack) = omega (arith, length_within (below + 1) stack)

  -- a stack has no more entries than the most that it has at once
  pub stack_within : (stack : List (Part C)) → length stack ≤ peak_of_stack unshared stack
  stack_within stack = omega (arith, length_within 0 stack)

  same_peak : (old new : List (Part C)) → old ≡ new → peak_above unshared 0 new ≤ peak_above unshared 0 old
  same_peak old new same = omega (arith, ap (λ xs. peak_above unshared 0 xs) same)

  -- once the next entry is taken off, the greatest number of entries is no more than before
  pub peak_of_left : (stack left : List (Part C)) (next : Part C) → IsNext stack next → left ≡ take (length stack - 1) stack → peak_of_stack unshared left ≤ peak_of_stack unshared stack
  peak_of_left stack left next is_next is =
      let kept = take (length stack - 1) stack in
      let whole = same_peak stack (kept ++ next ∷ []) (next_is_last stack next is_next) in
      omega (arith, ap (λ xs. peak_above unshared 0 xs) is, peak_under (peak_above unshared 0 stack) 0 kept next whole)

  -- once at most eight parts take the place of their item, the greatest number of entries is no more than before
  pub peak_of_visit : (stack new parts : List (Part C)) (i : Item C) → IsNext stack (Sub i) → unshared i ≡ joined unshared bytes_of parts → new ≡ take (length stack - 1) stack ++ reverse parts
      → length new ≤ length stack + 7 → peak_of_stack unshared new ≤ peak_of_stack unshared stack
  peak_of_visit stack new parts i is_next shown is few =
      let most = peak_above unshared 0 stack in
      let left = take (length stack - 1) stack in
      let last = next_is_last stack (Sub i) is_next in
      let whole = same_peak stack (left ++ Sub i ∷ []) last in
      let one : length stack ≡ length left + 1 = omega (arith, ap length last, length-append left (Sub i ∷ [])) in
      let count : length parts ≤ 8 = omega (arith, few, one, ap length is, length-append left (reverse parts), length-reverse parts) in
      let low = low_reverse (height_of (unshared i)) parts (low_parts (height_of (unshared i)) parts (omega (arith, ap height_of shown))) in
      let high = peak_last most 0 left (Sub i) whole in
      let above : peak_above unshared (0 + length left) (reverse parts) ≤ most = omega (arith, peak_low (height_of (unshared i)) (0 + length left) (reverse parts) low, high, length-reverse parts, count) in
      omega (arith, ap (λ xs. peak_above unshared 0 xs) is, peak_both most 0 left (reverse parts) (peak_under most 0 left (Sub i) whole) above)

  -- once others take the next entry's place, and need no more entries than it does, the greatest number of entries is no
  -- more than before
  pub peak_of_turn : (stack new above : List (Part C)) (next : Part C) → IsNext stack next → new ≡ take (length stack - 1) stack ++ above
      → peak_above unshared (length (take (length stack - 1) stack)) above ≤ length (take (length stack - 1) stack) + 1 + 7 * height_of_part unshared next
      → peak_of_stack unshared new ≤ peak_of_stack unshared stack
  peak_of_turn stack new above next is_next is low =
      let most = peak_above unshared 0 stack in
      let left = take (length stack - 1) stack in
      let whole = same_peak stack (left ++ next ∷ []) (next_is_last stack next is_next) in
      let high : peak_above unshared (0 + length left) above ≤ most =
      peak_at most (length left) (0 + length left) above (omega arith) (omega (arith, low, peak_last most 0 left next whole)) in
      omega (arith, ap (λ xs. peak_above unshared 0 xs) is, peak_both most 0 left above (peak_under most 0 left next whole) high)
