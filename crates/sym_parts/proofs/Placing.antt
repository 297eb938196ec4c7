-- Where the stretches of a marked text are: each is a slice of the text, and any two are in order.
use Rattle.sym_parts.proofs.Basics.{ℕ, zero, suc, ◌+◌, ◌≤◌, List, [], ◌∷◌, ◌++◌, length, arith, length-append, inl, inr, All, AllPairs, All-nil, All-cons, All-head, All-tail, All-append, All-weaker, AllPairs-cons, Stretch, Marked, done, text, marked, text_of, stretches_from, stretches_of, IsBetween, AreInOrder, start_of_stretch, end_of_stretch, AreStretchesPlaced}

module _ {X : Type 0} (R : X → X → Type 0) where
  pub AllPairs-nil : AllPairs R []
  AllPairs-nil i j d lt within = absurd (omega arith)

  pub AllPairs-tail : (x : X) (xs : List X) → AllPairs R (x ∷ xs) → AllPairs R xs
  AllPairs-tail x xs h i j d lt within = h (suc i) (suc j) d (omega arith) (omega arith)

  pub AllPairs-first : (x : X) (xs : List X) → AllPairs R (x ∷ xs) → All (R x) xs
  AllPairs-first x xs h k d within = h zero (suc k) d (omega arith) (omega arith)

  -- two lists in order make one list in order, if each element of the first is related to each of the second
  pub AllPairs-append : (xs ys : List X) → AllPairs R xs → AllPairs R ys → All (λ x. All (R x) ys) xs → AllPairs R (xs ++ ys)
  AllPairs-append [] ys first second across = second
  AllPairs-append (x ∷ xs) ys first second across =
      AllPairs-cons R x (xs ++ ys) (All-append (R x) xs ys (AllPairs-first x xs first) (All-head (λ x. All (R x) ys) x xs across))
      (AllPairs-append xs ys (AllPairs-tail x xs first) second (All-tail (λ x. All (R x) ys) x xs across))

-- the stretch is a slice of the bytes from one place to another
abbrev IsSlice : (from to : ℕ) → Stretch → Type 0
IsSlice from to stretch = IsBetween start_of_stretch end_of_stretch from to stretch

-- the later of two stretches starts no earlier, and is within the other or after it
abbrev IsInOrder : (earlier later : Stretch) → Type 0
IsInOrder earlier later = AreInOrder start_of_stretch end_of_stretch earlier later

-- slices of a stretch are slices of a longer one
slices-within : (from to low high : ℕ) (parts : List Stretch) → low ≤ from → to ≤ high → All (IsSlice from to) parts → All (IsSlice low high) parts
slices-within from to low high parts above below slices =
    All-weaker (IsSlice from to) (IsSlice low high) (λ part slice. (omega (arith, slice.0, above), omega (arith, slice.1, below))) parts slices

-- each stretch is a slice of the text
pub slices : (place : ℕ) (m : Marked) → All (IsSlice place (place + length (text_of m))) (stretches_from place m)
unfolding text_of stretches_from
slices place done = All-nil (IsSlice place (place + 0))
slices place (text bytes rest) =
    let behind = place + length bytes in
    let all = length-append bytes (text_of rest) in
    slices-within behind (behind + length (text_of rest)) place (place + length (bytes ++ text_of rest)) (stretches_from behind rest) (omega arith) (omega (arith, all)) (slices behind rest)
slices place (marked role ordinal inside rest) =
    let behind = place + length (text_of inside) in
    let to = place + length (text_of inside ++ text_of rest) in
    let all = length-append (text_of inside) (text_of rest) in
    All-cons (IsSlice place to) (record { role = role; ordinal = ordinal; start = place; length = length (text_of inside) }) (stretches_from place inside ++ stretches_from behind rest)
    (omega arith, omega (arith, all))
    (All-append (IsSlice place to) (stretches_from place inside) (stretches_from behind rest)
    (slices-within place behind place to (stretches_from place inside) (omega arith) (omega (arith, all)) (slices place inside))
    (slices-within behind (behind + length (text_of rest)) place to (stretches_from behind rest) (omega arith) (omega (arith, all)) (slices behind rest)))

-- stretches before a place are in order with those after it
apart : (from between to : ℕ) (first second : List Stretch) → All (IsSlice from between) first → All (IsSlice between to) second → All (λ x. All (IsInOrder x) second) first
apart from between to first second before behind =
    All-weaker (IsSlice from between) (λ x. All (IsInOrder x) second)
    (λ x here. All-weaker (IsSlice between to) (IsInOrder x) (λ y there. (omega (arith, here.1, there.0), inr (omega (arith, here.1, there.0)))) second behind)
    first before

-- a stretch is in order with those in it
around : (whole : Stretch) (parts : List Stretch) → All (IsSlice whole.start (end_of_stretch whole)) parts → All (IsInOrder whole) parts
around whole parts within = All-weaker (IsSlice whole.start (end_of_stretch whole)) (IsInOrder whole) (λ y slice. (slice.0, inl slice.1)) parts within

-- a stretch is in order with those after it
behind : (whole : Stretch) (to : ℕ) (parts : List Stretch) → All (IsSlice (end_of_stretch whole) to) parts → All (IsInOrder whole) parts
behind whole to parts after =
    All-weaker (IsSlice (end_of_stretch whole) to) (IsInOrder whole) (λ y slice. (omega (arith, slice.0), inr slice.0)) parts after

-- any two stretches are in order
pub order : (place : ℕ) (m : Marked) → AllPairs IsInOrder (stretches_from place m)
unfolding text_of stretches_from
order place done = AllPairs-nil IsInOrder
order place (text bytes rest) = order (place + length bytes) rest
order place (marked role ordinal inside rest) =
    let whole : Stretch = record { role = role; ordinal = ordinal; start = place; length = length (text_of inside) } in
    let next = place + length (text_of inside) in
    let inner = stretches_from place inside in
    let others = stretches_from next rest in
    AllPairs-cons IsInOrder whole (inner ++ others)
    (All-append (IsInOrder whole) inner others (around whole inner (slices place inside)) (behind whole (next + length (text_of rest)) others (slices next rest)))
    (AllPairs-append IsInOrder inner others (order place inside) (order next rest)
    (apart place next (next + length (text_of rest)) inner others (slices place inside) (slices next rest)))

pub placed : (m : Marked) → AreStretchesPlaced (length (text_of m)) (stretches_of m)
placed m = record {
  slices = slices-within 0 (0 + length (text_of m)) 0 (length (text_of m)) (stretches_of m) (omega arith) (omega arith) (slices 0 m);
  order = order 0 m;
}
