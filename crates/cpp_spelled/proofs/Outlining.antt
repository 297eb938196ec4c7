-- How an outline is listed.
use Rattle.std.proofs.Common.{◌≡◌, refl, sym, ◌∙◌, ap, subst, arith, ℕ, zero, suc, ◌+◌, ◌-◌, ◌<◌, ◌≤◌, max, Bool, true, false, List, [], ◌∷◌, ◌++◌, length, drop, get_or, nat_lt}
use Rattle.std.proofs.lemmas.Bool.{lt-ltb, le-ltb, ltb-true, ltb-false}
use Rattle.std.proofs.lemmas.List.{drop_more, drop-drop, append_assoc, append-nil, drop_all}
use Rattle.sym_shape.specs.declared.rule.Row.{Row}
use Rattle.cpp_spelled.specs.Sorts.{is, sort_in}
use Rattle.cpp_spelled.specs.Outline.{nowhere, outlined, next_number, outline_from, outline_of}
use Rattle.cpp_spelled.specs.declared.outline.Reached.{Reached}
use Rattle.cpp_spelled.specs.declared.sought.TheConstants.{PASSED_OVER}

-- a number `past` that isn't ahead passes over no row
none_past : (rows : List Row) (n p : ℕ) (xs : List Row) → p ≤ n → outline_from rows n p xs ≡ outline_from rows n n xs
unfolding outline_from
none_past rows n p [] at = refl
none_past rows n p (row ∷ rest) at = rw (le-ltb n p at, le-ltb n n (omega arith)) refl

-- the rows before the number `past` are passed over
passes : (rows : List Row) (k n p : ℕ) (xs : List Row) → p ≡ n + k → outline_from rows n p xs ≡ outline_from rows p p (drop k xs)
unfolding outline_from
passes rows zero n p xs at = subst (λ m. outline_from rows n p xs ≡ outline_from rows m p xs) (omega (arith, at)) refl
passes rows (suc k) n p [] at = refl
passes rows (suc k) n p (row ∷ rest) at = rw (lt-ltb n p (omega (arith, at))) (passes rows k (n + 1) p rest (omega (arith, at)))

-- the outline from a row on begins at the next row that isn't passed over
jumps : (rows : List Row) (n p m : ℕ) → m ≡ max n p → outline_from rows n p (drop n rows) ≡ outline_from rows m m (drop m rows)
jumps rows n p m at = go (nat_lt n p) refl
  where
    go : (b : Bool) → nat_lt n p ≡ b → outline_from rows n p (drop n rows) ≡ outline_from rows m m (drop m rows)
    go true less =
        let before : n < p = ltb-true n p less in
        let is : p ≡ m = omega (arith, before, at) in
        subst (λ x. outline_from rows n p (drop n rows) ≡ outline_from rows x x (drop x rows)) is
        (passes rows (p - n) n p (drop n rows) (omega (arith, before)) ∙ ap (λ xs. outline_from rows p p xs) (drop-drop (p - n) n rows ∙ ap (λ x. drop x rows) (omega (arith, before))))
    go false more =
        let behind : p ≤ n = ltb-false n p more in
        let is : n ≡ m = omega (arith, behind, at) in
        subst (λ x. outline_from rows n p (drop n rows) ≡ outline_from rows x x (drop x rows)) is (none_past rows n p (drop n rows) behind)

-- the outline from a row on: this row, and what follows it
step : (rows : List Row) (n m : ℕ) → n < length rows → m ≡ max (n + 1) (next_number n (get_or rows n nowhere))
    → outline_from rows n n (drop n rows) ≡ outlined rows n (get_or rows n nowhere) ∷ outline_from rows m m (drop m rows)
unfolding outline_from
step rows n m inside at =
    rw (drop_more rows n nowhere inside, le-ltb n n (omega arith)) (ap (λ xs. outlined rows n (get_or rows n nowhere) ∷ xs) (jumps rows (n + 1) (next_number n (get_or rows n nowhere)) m at))

-- once one more row is listed, the listed rows and the rest of the outline are still the whole outline
pub keeps : (rows : List Row) (listed : List Reached) (n m : ℕ) (row : Row) (x : Reached)
    → listed ++ outline_from rows n n (drop n rows) ≡ outline_of rows
    → n < length rows → row ≡ get_or rows n nowhere → x ≡ outlined rows n row → m ≡ max (n + 1) (next_number n row)
    → (listed ++ x ∷ []) ++ outline_from rows m m (drop m rows) ≡ outline_of rows
keeps rows listed n m row x so inside there made at =
    let next : m ≡ max (n + 1) (next_number n (get_or rows n nowhere)) = subst (λ r. m ≡ max (n + 1) (next_number n r)) there at in
    append_assoc listed (x ∷ []) (outline_from rows m m (drop m rows))
    ∙ ap (λ y. listed ++ y ∷ outline_from rows m m (drop m rows)) (made ∙ ap (λ r. outlined rows n r) there)
    ∙ ap (λ xs. listed ++ xs) (sym (step rows n m inside next))
    ∙ so

-- the sort of a row of an outline
sort_is : (n : ℕ) (row : Row) (x : Reached) (rows : List Row) → x ≡ outlined rows n row → x.sort ≡ sort_in row
unfolding outlined
sort_is n row x rows made = ap (λ y. y.sort) made

-- the number of the next row, if the rows within this one are listed
pub next_open : (n m : ℕ) (row : Row) (x : Reached) (rows : List Row) (b : Bool)
    → x ≡ outlined rows n row → b ≡ is PASSED_OVER x.sort → b ≡ false → m ≡ n + 1 → m ≡ max (n + 1) (next_number n row)
unfolding next_number
next_open n m row x rows b made test gone at =
    let closed : is PASSED_OVER (sort_in row) ≡ false = ap (λ s. is PASSED_OVER s) (sym (sort_is n row x rows made)) ∙ sym test ∙ gone in
    rw closed (omega (arith, at))

-- the number of the next row, if the rows within this one are passed over
pub next_closed : (n m : ℕ) (row : Row) (x : Reached) (rows : List Row) (b : Bool)
    → x ≡ outlined rows n row → b ≡ is PASSED_OVER x.sort → b ≡ true → m ≡ max (n + 1) x.row.end → m ≡ max (n + 1) (next_number n row)
unfolding next_number outlined
next_closed n m row x rows b made test shut at =
    let closed : is PASSED_OVER (sort_in row) ≡ true = ap (λ s. is PASSED_OVER s) (sym (sort_is n row x rows made)) ∙ sym test ∙ shut in
    rw closed (at ∙ ap (λ y. max (n + 1) y.row.end) made)

-- if no row is left, the listed rows are the whole outline
pub ended : (rows : List Row) (listed : List Reached) (n : ℕ) → listed ++ outline_from rows n n (drop n rows) ≡ outline_of rows → length rows ≤ n → listed ≡ outline_of rows
unfolding outline_from
ended rows listed n so at =
    sym (append-nil listed) ∙ ap (λ xs. listed ++ xs) (ap (λ xs. outline_from rows n n xs) (sym (drop_all n rows at))) ∙ so
