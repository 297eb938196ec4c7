-- Rows of the table that a text begins with, found one after the other.
use Rattle.short_names.proofs.Basics.{◌≡◌, ◌<◌, ◌≤◌, ◌+◌, ℕ, Bool, true, false, List, [], ◌∷◌, ◌++◌, length, drop, get_or, nat_eq, refl, ap, ◌∙◌, arith, None, Some, if◌then◌else◌, starts_with, list_all, and_parts, at_drop_more, drop_all, Place, row_in, size_of, text_of}
use Rattle.short_names.proofs.FrontLemmas.{front-length}

-- a text begins with no row that has a property, if it begins with no text that has the property
pub none-in : (p : List ℕ → Bool) (text : List ℕ) → ((t : List ℕ) → p t ≡ true → starts_with nat_eq text t ≡ false)
    → (rows : List Place) → list_all (λ row. p (text_of row)) rows ≡ true → row_in rows text ≡ None
unfolding row_in
none-in p text other [] all = refl
none-in p text other (row ∷ rows) all =
    let parts = and_parts (p (text_of row)) (list_all (λ row. p (text_of row)) rows) all in
    rw (other (text_of row) parts.0) (none-in p text other rows parts.1)

-- rows after others that a text doesn't begin with
pub row_in-append : (xs ys : List Place) (text : List ℕ) → row_in xs text ≡ None → row_in (xs ++ ys) text ≡ row_in ys text
unfolding row_in
row_in-append [] ys text none = refl
row_in-append (row ∷ xs) ys text none = by (starts_with nat_eq text (text_of row)) none (λ h. row_in-append xs ys text h)
  where
    by : (b : Bool) → (if b then Some row else row_in xs text) ≡ None → (row_in xs text ≡ None → row_in (xs ++ ys) text ≡ row_in ys text)
        → (if b then Some row else row_in (xs ++ ys) text) ≡ row_in ys text
    by true none rest = absurd (cc)
    by false none rest = rest none

-- a text is at least as long as the row with which it begins
pub row-length : (rows : List Place) (text : List ℕ) → size_of (row_in rows text) ≤ length text
unfolding row_in
row-length [] text = omega arith
row-length (row ∷ rows) text = by (starts_with nat_eq text (text_of row)) (front-length text (text_of row)) (row-length rows text)
  where
    by : (b : Bool) → (b ≡ true → length (text_of row) ≤ length text) → size_of (row_in rows text) ≤ length text
        → size_of (if b then Some row else row_in rows text) ≤ length text
    by true front rest = front refl
    by false front rest = rest

module _ (row : Place) (rest : List Place) (text : List ℕ) where
  pub row_in-here : starts_with nat_eq text (text_of row) ≡ true → row_in (row ∷ rest) text ≡ Some row
  unfolding row_in
  row_in-here h = rw h refl

  pub row_in-past : starts_with nat_eq text (text_of row) ≡ false → row_in (row ∷ rest) text ≡ row_in rest text
  unfolding row_in
  row_in-past h = rw h refl

module _ (rows : List Place) (text : List ℕ) (k : ℕ) where
  pub rows-past : (d : Place) → k < length rows → starts_with nat_eq text (text_of (get_or rows k d)) ≡ false → row_in (drop k rows) text ≡ row_in (drop (k + 1) rows) text
  rows-past d within other = at_drop_more (λ rs. row_in rs text) rows k d within ∙ row_in-past (get_or rows k d) (drop (k + 1) rows) text other

  pub rows-found : (d : Place) → k < length rows → starts_with nat_eq text (text_of (get_or rows k d)) ≡ true → row_in (drop k rows) text ≡ Some (get_or rows k d)
  rows-found d within is = at_drop_more (λ rs. row_in rs text) rows k d within ∙ row_in-here (get_or rows k d) (drop (k + 1) rows) text is

  pub rows-end : length rows ≤ k → row_in (drop k rows) text ≡ None
  unfolding row_in
  rows-end past = ap (λ rs. row_in rs text) (drop_all k rows past)
