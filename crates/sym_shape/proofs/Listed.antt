-- Rows of letters, and lists that are compared at each place by computing.
use Rattle.sym_shape.proofs.Basics.{◌≡◌, ℕ, zero, suc, ◌+◌, ◌-◌, ◌<◌, ◌≤◌, get_or, slice_get, List, [], ◌∷◌, map, length, cond, Some, None, inl, inr, ap, sym, refl, ◌∙◌, subst, drop, arith, lt-ltb, le-ltb, ne_eqb, cases_lt, drop_all, Sym}
use Rattle.std.proofs.lemmas.List.FromFn.{get_or-map-range_with_len}
use Rattle.std.proofs.lemmas.Option.{slice_get_past, slice_get-get_or}
use Rattle.std.specs.List.{range_with_len}
use Rattle.sym_shape.specs.Listing.{letter_below, unless_blank, up_to_end, listed_in, counts_after, StandsAt}

-- a row has no letter for a byte before its first one or after its last one
pub no_letter_before : (row : List ℕ) (byte : ℕ) → byte < 36 → letter_below row byte ≡ None
unfolding letter_below
no_letter_before row byte lt = ap (λ b. cond b None (unless_blank (slice_get row (byte - 36)))) (lt-ltb byte 36 lt)

letter_inside : (row : List ℕ) (byte : ℕ) → 36 ≤ byte → letter_below row byte ≡ unless_blank (slice_get row (byte - 36))
unfolding letter_below
letter_inside row byte le = ap (λ b. cond b None (unless_blank (slice_get row (byte - 36)))) (le-ltb byte 36 le)

pub no_letter_behind : (row : List ℕ) (byte : ℕ) → length row ≡ 87 → 122 < byte → letter_below row byte ≡ None
unfolding unless_blank
no_letter_behind row byte long gt =
    letter_inside row byte (omega (arith, gt)) ∙ ap unless_blank (slice_get_past row (byte - 36) (omega (arith, long, gt)))

-- the letter that a row has for a byte, or none if a blank is there
letter_there : (row : List ℕ) (byte d : ℕ) → length row ≡ 87 → 36 ≤ byte → byte ≤ 122 → letter_below row byte ≡ unless_blank (Some (get_or row (byte - 36) d))
letter_there row byte d long low high =
    letter_inside row byte low ∙ ap unless_blank (slice_get-get_or row (byte - 36) d (omega (arith, long, low, high)))

pub no_letter_in : (row : List ℕ) (byte d : ℕ) → length row ≡ 87 → 36 ≤ byte → byte ≤ 122 → get_or row (byte - 36) d ≡ 32 → letter_below row byte ≡ None
unfolding unless_blank
no_letter_in row byte d long low high blank = letter_there row byte d long low high ∙ ap (λ l. unless_blank (Some l)) blank

pub letter_in : (row : List ℕ) (byte d : ℕ) → length row ≡ 87 → 36 ≤ byte → byte ≤ 122 → (get_or row (byte - 36) d ≡ 32 → ⊥) → letter_below row byte ≡ Some (get_or row (byte - 36) d)
unfolding unless_blank
letter_in row byte d long low high full =
    letter_there row byte d long low high ∙ ap (λ b. cond b None (Some (get_or row (byte - 36) d))) (ne_eqb (get_or row (byte - 36) d) 32 full)

-- a place at which a symbol is listed is within the list
pub place_within : (symbols : List Sym) (place : ℕ) (x : Sym) → StandsAt (listed_in symbols) place x → place < length symbols
place_within symbols place x there = elim (cases_lt place (length symbols)) [
  | inl less ↦ less
  | inr past ↦ absurd (omega (arith, ap length (sym (ap up_to_end (drop_all place symbols past)) ∙ there.left)))
]

-- how many symbols follow the one at a place within its rule
pub after_at : (symbols : List Sym) (place : ℕ) → get_or (counts_after symbols) place 0 ≡ length (listed_in symbols (place + 1))
after_at [] place = ap (λ xs. length (up_to_end xs)) (sym (drop_all {X = Sym} (place + 1) [] (omega arith)))
after_at (x ∷ xs) zero = refl
after_at (x ∷ xs) (suc n) =
    let later : suc (n + 1) ≡ suc n + 1 = omega arith in
    subst (λ k. get_or (counts_after xs) n 0 ≡ length (up_to_end (drop k (x ∷ xs)))) later (after_at xs n)

-- functions that agree on all numbers below n, as their lists of values show
pub alike_at : {X : Type 0} (f g : ℕ → X) (n k : ℕ) → map f (range_with_len 0 n) ≡ map g (range_with_len 0 n) → k < n → f k ≡ g k
alike_at f g n k all lt =
    sym (get_or-map-range_with_len f 0 n k k (f k) lt (omega arith))
    ∙ ap (λ xs. get_or xs k (f k)) all
    ∙ get_or-map-range_with_len g 0 n k k (f k) lt (omega arith)

-- two tables that agree in all rows and columns
pub alike_in : {X : Type 0} (f g : ℕ → ℕ → X) (rows columns k i : ℕ)
    → map (λ k. map (f k) (range_with_len 0 columns)) (range_with_len 0 rows) ≡ map (λ k. map (g k) (range_with_len 0 columns)) (range_with_len 0 rows)
    → k < rows → i < columns → f k i ≡ g k i
alike_in f g rows columns k i all row column =
    alike_at (f k) (g k) columns i (alike_at (λ k. map (f k) (range_with_len 0 columns)) (λ k. map (g k) (range_with_len 0 columns)) rows k all row) column
