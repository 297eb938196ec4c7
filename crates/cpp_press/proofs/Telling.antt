-- Trees of one production with the same details and equal parts are equal.
use Rattle.cpp_press.proofs.Basics.{◌≡◌, ℕ, zero, suc, ◌+◌, ◌≤◌, length, List, [], ◌∷◌, ◌++◌, get_or, Option, Some, None, Bool, true, false, refl, ap, arith, sym, subst, ◌∙◌, nat_eq, slice_get, ◌==◌, if◌then◌else◌, cond, eqb-true, append_cancel_right, Signed, Adjustment, non_virtual, by_table, Thunk, adjusting, covariant, Term, Fields, bit, fields_of, offsets_of, tree_from, Told, offsets_told, fields_told, tree_told}
use Rattle.std.proofs.lemmas.Option.{slice_get_past}
use Rattle.cpp_tree.specs.declared.tree_production.TheConstants.{WIDE_THUNK}
use Rattle.cpp_tree.proofs.Rebuilding.{tree-made}

-- ## The details of offsets

not_none : (b : Bool) → nat_eq (bit b) 2 ≡ false
unfolding bit
not_none true = refl
not_none false = refl

bit_back : (b : Bool) → nat_eq (bit b) 1 ≡ b
unfolding bit
bit_back true = refl
bit_back false = refl

abbrev number : Told → ℕ → ℕ
number f k = get_or f.numbers k 0

abbrev offset : Told → ℕ → Signed
offset f k = record { negative = nat_eq (number f k) 1; digits = get_or f.texts k [] }

abbrev adjustment : Told → ℕ → Adjustment
adjustment f k = cond (nat_eq (number f (k + 1)) 2) (non_virtual (offset f k)) (by_table (offset f k) (offset f (k + 1)))

abbrev told_offsets : Told → Option Thunk
told_offsets f =
    cond (nat_eq (number f 0) 2) None (cond (nat_eq (number f 2) 2) (Some (adjusting (adjustment f 0))) (Some (covariant (adjustment f 0) (adjustment f 2))))

offsets_back : (o : Option Thunk) → told_offsets (offsets_told o) ≡ o
unfolding offsets_told
offsets_back None = refl
offsets_back (Some (adjusting (non_virtual a))) = rw (not_none a.negative, bit_back a.negative) refl
offsets_back (Some (adjusting (by_table a b))) = rw (not_none a.negative, not_none b.negative, bit_back a.negative, bit_back b.negative) refl
offsets_back (Some (covariant (non_virtual a) (non_virtual c))) =
    rw (not_none a.negative, not_none c.negative, bit_back a.negative, bit_back c.negative) refl
offsets_back (Some (covariant (non_virtual a) (by_table c d))) =
    rw (not_none a.negative, not_none c.negative, not_none d.negative, bit_back a.negative, bit_back c.negative, bit_back d.negative) refl
offsets_back (Some (covariant (by_table a b) (non_virtual c))) =
    rw (not_none a.negative, not_none b.negative, not_none c.negative, bit_back a.negative, bit_back b.negative, bit_back c.negative) refl
offsets_back (Some (covariant (by_table a b) (by_table c d))) =
    rw (
      not_none a.negative,
      not_none b.negative,
      not_none c.negative,
      not_none d.negative,
      bit_back a.negative,
      bit_back b.negative,
      bit_back c.negative,
      bit_back d.negative,
    ) refl

-- ## Trees

abbrev fields : (production : ℕ) → (numbers : List ℕ) → (texts : List (List ℕ)) → (parts : List Term) → Fields
fields production numbers texts parts = record { production = production; numbers = numbers; texts = texts; parts = parts }

-- the details of a tree that isn't a thunk: its numbers and texts, with two zeros and two empty texts after them
abbrev narrow : (numbers : List ℕ) → (texts : List (List ℕ)) → Told
narrow numbers texts = record { numbers = numbers ++ 0 ∷ 0 ∷ []; texts = texts ++ [] ∷ [] ∷ [] }

made_alike : (p : ℕ) (ns ms : List ℕ) (ts us : List (List ℕ)) (xs : List Term) (o u : Option Thunk)
    → fields_told (fields p ns ts xs) o ≡ fields_told (fields p ms us xs) u → tree_from (fields p ns ts xs) o ≡ tree_from (fields p ms us xs) u
unfolding fields_told
made_alike p ns ms ts us xs o u same = go (p == WIDE_THUNK) refl
  where
    at_wide : fields_told (fields WIDE_THUNK ns ts xs) o ≡ fields_told (fields WIDE_THUNK ms us xs) u
        → tree_from (fields WIDE_THUNK ns ts xs) o ≡ tree_from (fields WIDE_THUNK ms us xs) u
    at_wide e = ap (tree_from (fields WIDE_THUNK ns ts xs)) (sym (offsets_back o) ∙ ap told_offsets e ∙ offsets_back u)

    not_asked : (p == WIDE_THUNK) ≡ false → tree_from (fields p ns ts xs) o ≡ tree_from (fields p ns ts xs) u
    not_asked wide = rw wide refl

    go : (wide : Bool) → (p == WIDE_THUNK) ≡ wide → tree_from (fields p ns ts xs) o ≡ tree_from (fields p ms us xs) u
    go true wide =
        subst (λ q. fields_told (fields q ns ts xs) o ≡ fields_told (fields q ms us xs) u → tree_from (fields q ns ts xs) o ≡ tree_from (fields q ms us xs) u)
        (sym (eqb-true p WIDE_THUNK wide)) at_wide same
    go false wide =
        let e : narrow ns ts ≡ narrow ms us =
        subst (λ b. (if b then offsets_told o else narrow ns ts) ≡ (if b then offsets_told u else narrow ms us)) wide same in
        not_asked wide
        ∙ ap (λ l. tree_from (fields p l ts xs) u) (append_cancel_right ns ms (0 ∷ 0 ∷ []) (ap (λ (t : Told). t.numbers) e))
        ∙ ap (λ l. tree_from (fields p ms l xs) u) (append_cancel_right ts us ([] ∷ [] ∷ []) (ap (λ (t : Told). t.texts) e))

made_over_alike : (p q : ℕ) (ns ms : List ℕ) (ts us : List (List ℕ)) (xs ys : List Term) (o u : Option Thunk) → p ≡ q → xs ≡ ys
    → fields_told (fields p ns ts xs) o ≡ fields_told (fields q ms us ys) u → tree_from (fields p ns ts xs) o ≡ tree_from (fields q ms us ys) u
made_over_alike p q ns ms ts us xs ys o u e f same =
    subst (λ r. fields_told (fields p ns ts xs) o ≡ fields_told (fields r ms us ys) u → tree_from (fields p ns ts xs) o ≡ tree_from (fields r ms us ys) u) e
    (subst (λ l. fields_told (fields p ns ts xs) o ≡ fields_told (fields p ms us l) u → tree_from (fields p ns ts xs) o ≡ tree_from (fields p ms us l) u) f
    (made_alike p ns ms ts us xs o u)) same

same_parts : (xs ys : List Term) → ((k : ℕ) → slice_get xs k ≡ slice_get ys k) → xs ≡ ys
same_parts [] [] each = refl
same_parts [] (y ∷ ys) each = let none : None ≡ Some y = each 0 in cc
same_parts (x ∷ xs) [] each = let none : Some x ≡ None = each 0 in cc
same_parts (x ∷ xs) (y ∷ ys) each =
    let first : Some x ≡ Some y = each 0 in
    let rest : xs ≡ ys = same_parts xs ys (λ k. each (suc k)) in
    cc

pub three_parts : (xs ys : List Term) → length xs ≤ 3 → length ys ≤ 3 → slice_get xs 0 ≡ slice_get ys 0 → slice_get xs 1 ≡ slice_get ys 1
    → slice_get xs 2 ≡ slice_get ys 2 → xs ≡ ys
three_parts xs ys few less one two three = same_parts xs ys each
  where
    each : (k : ℕ) → slice_get xs k ≡ slice_get ys k
    each zero = one
    each (suc zero) = two
    each (suc (suc zero)) = three
    each (suc (suc (suc k))) =
        slice_get_past xs (suc (suc (suc k))) (omega (arith, few)) ∙ sym (slice_get_past ys (suc (suc (suc k))) (omega (arith, less)))

-- trees of one production with the same details and equal parts are equal
pub one_tree : (one other : Term) → (fields_of one).production ≡ (fields_of other).production → (fields_of one).parts ≡ (fields_of other).parts
    → tree_told one ≡ tree_told other → one ≡ other
one_tree one other e f same =
    let g : Fields = fields_of one in
    let h : Fields = fields_of other in
    sym (tree-made one)
    ∙ made_over_alike g.production h.production g.numbers h.numbers g.texts h.texts g.parts h.parts (offsets_of one) (offsets_of other) e f same
    ∙ tree-made other
