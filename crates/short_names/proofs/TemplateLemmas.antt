-- The rows of templates, which are looked up by the sizes of their names and by marks.
use Rattle.short_names.proofs.Basics.{◌≡◌, ◌≢◌, ◌<◌, ◌≤◌, ◌+◌, ◌==◌, zero, suc, ℕ, Bool, true, false, List, [], ◌∷◌, ◌&&◌, length, drop, get_or, slice_get, nat_eq, nat_le, nat_lt, refl, sym, ap, ◌∙◌, subst, arith, add-zero, None, Some, inl, inr, min, eqb-true, leb-true, ltb-true, pointwise, and_parts, at_drop_more, drop_all, get_or_past, slice_get-get_or, get_or_from_slice_get, bytes_eq-Decides, Template, FIRST, MARKS, TEMPLATES, template_in, mark_of, text_of}
use Rattle.short_names.proofs.FrontLemmas.{false-from}
use Rattle.short_names.proofs.RunLemmas.{lt-or-le}

abbrev has_name : Template → List ℕ → Bool
has_name row name = pointwise nat_eq (text_of row.name) name

name-is : (row : Template) (name : List ℕ) → has_name row name ≡ true → text_of row.name ≡ name
name-is row name h = (bytes_eq-Decides (text_of row.name) name).0 h

-- ## By sizes

-- the row is among the rows of its name's size
fits : ℕ → Template → Bool
fits k row = nat_le (get_or FIRST (length (text_of row.name)) 0) k && nat_lt k (get_or FIRST (length (text_of row.name) + 1) 0)

placed : ℕ → List Template → Bool
placed k [] = true
placed k (row ∷ rows) = fits k row && placed (k + 1) rows

all-placed : placed 0 TEMPLATES ≡ true
unfolding text_of fits placed
all-placed = refl

where-it-fits : (k : ℕ) (row : Template) (name : List ℕ) → fits k row ≡ true → has_name row name ≡ true → (get_or FIRST (length name) 0 ≤ k) × (k < get_or FIRST (length name + 1) 0)
unfolding fits
where-it-fits k row name h is =
    let parts = and_parts (nat_le (get_or FIRST (length (text_of row.name)) 0) k) (nat_lt k (get_or FIRST (length (text_of row.name) + 1) 0)) h in
    subst (λ (n : List ℕ). (get_or FIRST (length n) 0 ≤ k) × (k < get_or FIRST (length n + 1) 0)) (name-is row name is) (leb-true _ _ parts.0, ltb-true _ _ parts.1)

-- a name isn't in a row after the rows of its size
past : (k : ℕ) (rows : List Template) (name : List ℕ) → placed k rows ≡ true → get_or FIRST (length name + 1) 0 ≤ k → template_in rows name ≡ None
unfolding template_in placed
past k [] name all le = refl
past k (row ∷ rows) name all le =
    let parts = and_parts (fits k row) (placed (k + 1) rows) all in
    let other : has_name row name ≡ false = false-from (has_name row name) (λ is. absurd (omega (arith, le, (where-it-fits k row name parts.0 is).1))) in
    rw other (past (k + 1) rows name parts.1 (omega (arith, le)))

-- a name isn't in a row before the rows of its size
before : (n k : ℕ) (rows : List Template) (name : List ℕ) → placed k rows ≡ true → k + n ≤ get_or FIRST (length name) 0 → template_in rows name ≡ template_in (drop n rows) name
unfolding template_in placed
before zero k rows name all le = refl
before (suc n) k [] name all le = refl
before (suc n) k (row ∷ rows) name all le =
    let parts = and_parts (fits k row) (placed (k + 1) rows) all in
    let other : has_name row name ≡ false = false-from (has_name row name) (λ is. absurd (omega (arith, le, (where-it-fits k row name parts.0 is).0))) in
    rw other (before n (k + 1) rows name parts.1 (omega (arith, le)))

placed-drop : (n k : ℕ) (rows : List Template) → placed k rows ≡ true → placed (k + n) (drop n rows) ≡ true
unfolding placed
placed-drop zero k rows all = ap (λ j. placed j rows) (add-zero k) ∙ all
placed-drop (suc n) k [] all = refl
placed-drop (suc n) k (row ∷ rows) all =
    let on : k + suc n ≡ k + 1 + n = omega arith in
    ap (λ j. placed j (drop n rows)) on ∙ placed-drop n (k + 1) rows (and_parts (fits k row) (placed (k + 1) rows) all).1

pub from-first : (name : List ℕ) (first : ℕ) → first ≡ get_or FIRST (length name) 0 → template_in TEMPLATES name ≡ template_in (drop first TEMPLATES) name
from-first name first is = before first 0 TEMPLATES name all-placed (omega (arith, is))

pub none-past : (name : List ℕ) (k : ℕ) → get_or FIRST (length name + 1) 0 ≤ k → template_in (drop k TEMPLATES) name ≡ None
none-past name k le =
    let on : 0 + k ≡ k = omega arith in
    past k (drop k TEMPLATES) name (ap (λ j. placed j (drop k TEMPLATES)) (sym on) ∙ placed-drop k 0 TEMPLATES all-placed) le

pub none-behind : (name : List ℕ) (k : ℕ) → min (get_or FIRST (length name + 1) 0) 67 ≤ k → template_in (drop k TEMPLATES) name ≡ None
unfolding template_in
none-behind name k le = elim (lt-or-le k (get_or FIRST (length name + 1) 0)) [
  | inl within ↦ ap (λ rows. template_in rows name) (drop_all k TEMPLATES (omega (arith, le, within)))
  | inr behind ↦ none-past name k behind
]

-- no template's name has a size of 27 or more
pub none-longer : (name : List ℕ) → 27 ≤ length name → template_in TEMPLATES name ≡ None
none-longer name long = past 0 TEMPLATES name all-placed (omega (arith, get_or_past FIRST (length name + 1) 0 (omega (arith, long))))

-- ## By marks

marked : List ℕ → List Template → Bool
marked [] rows = true
marked (mark ∷ marks) [] = true
marked (mark ∷ marks) (row ∷ rows) = (mark == mark_of (text_of row.name)) && marked marks rows

all-marked : marked MARKS TEMPLATES ≡ true
unfolding text_of mark_of marked
all-marked = refl

mark-at : (marks : List ℕ) (rows : List Template) (k : ℕ) (d : Template) → marked marks rows ≡ true → k < length marks → k < length rows → get_or marks k 0 ≡ mark_of (text_of (get_or rows k d).name)
unfolding marked
mark-at [] rows k d all a b = absurd (omega (arith, a))
mark-at (mark ∷ marks) [] k d all a b = absurd (omega (arith, b))
mark-at (mark ∷ marks) (row ∷ rows) zero d all a b = eqb-true mark (mark_of (text_of row.name)) (and_parts (mark == mark_of (text_of row.name)) (marked marks rows) all).0
mark-at (mark ∷ marks) (row ∷ rows) (suc k) d all a b = mark-at marks rows k d (and_parts (mark == mark_of (text_of row.name)) (marked marks rows) all).1 (omega (arith, a)) (omega (arith, b))

-- a row with another mark has another name
pub other-mark : (name : List ℕ) (k : ℕ) (d : Template) → k < 67 → get_or MARKS k 0 ≢ mark_of name → has_name (get_or TEMPLATES k d) name ≡ false
other-mark name k d within other =
    false-from (has_name (get_or TEMPLATES k d) name) (λ is.
    other (mark-at MARKS TEMPLATES k d all-marked within within ∙ ap mark_of (name-is (get_or TEMPLATES k d) name is)))

-- ## A row

module _ (rows : List Template) (name : List ℕ) (k : ℕ) (d : Template) (within : k < length rows) where
  pub row-past : has_name (get_or rows k d) name ≡ false → template_in (drop k rows) name ≡ template_in (drop (k + 1) rows) name
  unfolding template_in
  row-past other = at_drop_more (λ rs. template_in rs name) rows k d within ∙ rw other refl

  pub row-found : has_name (get_or rows k d) name ≡ true → template_in (drop k rows) name ≡ Some (get_or rows k d)
  unfolding template_in
  row-found is = at_drop_more (λ rs. template_in rs name) rows k d within ∙ rw is refl

-- ## A row by its number

module _ (name : List ℕ) (row : ℕ) (d : Template) (within : row < length TEMPLATES) where
  slice-is : slice_get TEMPLATES row ≡ Some (get_or TEMPLATES row d)
  slice-is = slice_get-get_or TEMPLATES row d within

  -- a test that says whether the template in a row has the name
  pub named-here : (r : Bool) → ((template : Template) → slice_get TEMPLATES row ≡ Some template → r ≡ pointwise nat_eq (text_of template.name) name) → has_name (get_or TEMPLATES row d) name ≡ r
  named-here r told = sym (told (get_or TEMPLATES row d) slice-is)

  pub found-here : has_name (get_or TEMPLATES row d) name ≡ true → template_in (drop row TEMPLATES) name ≡ slice_get TEMPLATES row
  found-here is = row-found TEMPLATES name row d within is ∙ sym slice-is

pub other-here : (name : List ℕ) (row : ℕ) (template : Template) → row < length TEMPLATES → slice_get TEMPLATES row ≡ Some template → get_or MARKS row 0 ≢ mark_of name → false ≡ pointwise nat_eq (text_of template.name) name
other-here name row template within got other =
    let same = get_or_from_slice_get TEMPLATES row template template got in
    sym (ap (λ (t : Template). has_name t name) (sym same) ∙ other-mark name row template within other)
