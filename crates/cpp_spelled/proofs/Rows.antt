-- Rows of an outline are within the bytes of the symbol, if the rows of the symbol are.
use Rattle.std.proofs.Common.{◌≡◌, refl, ℕ, zero, suc, ◌+◌, ◌≤◌, Bool, true, false, arith, List, [], ◌∷◌, get_or, nat_eq, nat_le, nat_lt, if◌then◌else◌}
use Rattle.std.specs.List.{All}
use Rattle.std.proofs.lemmas.Bool.{leb-true}
use Rattle.std.proofs.lemmas.List.Elements.{All-nil, All-cons, All-head, All-tail}
use Rattle.sym_shape.specs.declared.rule.Row.{Row}
use Rattle.sym_parts.specs.Spelling.{span}
use Rattle.sym_parts.specs.Within.{IsSpanWithin}
use Rattle.cpp_spelled.specs.Outline.{nowhere, row_at, own_bytes, outlined, next_number, outline_from, from_first, from_last, or_else, begin_or, bytes_of_all}
use Rattle.cpp_spelled.specs.Sorts.{is}
use Rattle.cpp_spelled.specs.Within.{IsRowWithin}
use Rattle.cpp_spelled.specs.declared.outline.Reached.{Reached}
use Rattle.cpp_spelled.specs.declared.sought.Sought.{Sought}

-- if P holds of both values, it holds of the one that a test chooses
pub either : {X : Type 0} (P : X → Type 0) (b : Bool) (x y : X) → P x → P y → P (if b then x else y)
either P true x y first second = first
either P false x y first second = second

-- bytes between two places are within the symbol, if both places are
pub span_within : (n from to : ℕ) → from ≤ n → to ≤ n → IsSpanWithin n (span from to)
span_within n from to before behind = go (nat_le from to) refl
  where
    go : (b : Bool) → nat_le from to ≡ b → (from ≤ (if b then to else from)) × ((if b then to else from) ≤ n)
    go true is = (leb-true from to is, behind)
    go false is = (omega arith, before)

row_within : (n : ℕ) (rows : List Row) (k : ℕ) → All (IsRowWithin n) rows → IsRowWithin n (get_or rows k nowhere)
row_within n [] k all = (omega arith, omega arith)
row_within n (row ∷ rows) zero all = All-head (IsRowWithin n) row rows all
row_within n (row ∷ rows) (suc k) all = row_within n rows k (All-tail (IsRowWithin n) row rows all)

-- a row of an outline is within the symbol, and so are the row after it and the row's own bytes
pub record IsReachedWithin (n : ℕ) (x : Reached) : Type 0 where
  pub row : IsRowWithin n x.row
  pub first : IsRowWithin n x.first
  pub own : IsSpanWithin n x.own

own_within : (n : ℕ) (rows : List Row) (number : ℕ) (row : Row) → All (IsRowWithin n) rows → IsRowWithin n row → IsSpanWithin n (own_bytes rows number row)
unfolding own_bytes
own_within n rows number row all at =
    let whole : IsSpanWithin n (span row.from row.to) = span_within n row.from row.to at.0 at.1 in
    let first : IsRowWithin n (row_at rows (number + 1)) = row_within n rows (number + 1) all in
    let second : IsRowWithin n (row_at rows (row_at rows (number + 1)).end) = row_within n rows (row_at rows (number + 1)).end all in
    either (IsSpanWithin n) (nat_le row.end (number + 1)) _ _ whole
    (either (IsSpanWithin n) (nat_eq (row_at rows (number + 1)).after 0) _ _ (span_within n row.from (row_at rows (number + 1)).from at.0 first.0)
    (either (IsSpanWithin n) (nat_le row.end (row_at rows (number + 1)).end) _ _ whole (span_within n row.from (row_at rows (row_at rows (number + 1)).end).from at.0 second.0)))

outlined_within : (n : ℕ) (rows : List Row) (number : ℕ) (row : Row) → All (IsRowWithin n) rows → IsRowWithin n row → IsReachedWithin n (outlined rows number row)
unfolding outlined
outlined_within n rows number row all at = record { row = at; first = row_within n rows (number + 1) all; own = own_within n rows number row all at }

pub outline_within : (n : ℕ) (rows : List Row) (number past : ℕ) (xs : List Row) → All (IsRowWithin n) rows → All (IsRowWithin n) xs → All (IsReachedWithin n) (outline_from rows number past xs)
unfolding outline_from
outline_within n rows number past [] all some = All-nil (IsReachedWithin n)
outline_within n rows number past (row ∷ rest) all some =
    either (All (IsReachedWithin n)) (nat_lt number past) _ _
    (outline_within n rows (number + 1) past rest all (All-tail (IsRowWithin n) row rest some))
    (All-cons (IsReachedWithin n) (outlined rows number row) (outline_from rows (number + 1) (next_number number row) rest)
    (outlined_within n rows number row all (All-head (IsRowWithin n) row rest some))
    (outline_within n rows (number + 1) (next_number number row) rest all (All-tail (IsRowWithin n) row rest some)))

pub first_within : (n : ℕ) (s : Sought) (xs : List Reached) → All (IsReachedWithin n) xs → All (IsReachedWithin n) (from_first s xs)
unfolding from_first
first_within n s [] all = all
first_within n s (x ∷ xs) all = either (All (IsReachedWithin n)) (is s x.sort) _ _ all (first_within n s xs (All-tail (IsReachedWithin n) x xs all))

else_within : (n : ℕ) (xs ys : List Reached) → All (IsReachedWithin n) xs → All (IsReachedWithin n) ys → All (IsReachedWithin n) (or_else xs ys)
unfolding or_else
else_within n [] ys first second = second
else_within n (x ∷ xs) ys first second = first

pub last_within : (n : ℕ) (s : Sought) (xs : List Reached) → All (IsReachedWithin n) xs → All (IsReachedWithin n) (from_last s xs)
unfolding from_last
last_within n s [] all = all
last_within n s (x ∷ xs) all =
    else_within n (from_last s xs) (if is s x.sort then x ∷ xs else []) (last_within n s xs (All-tail (IsReachedWithin n) x xs all))
    (either (All (IsReachedWithin n)) (is s x.sort) _ _ all (All-nil (IsReachedWithin n)))

pub begin_within : (n : ℕ) (xs : List Reached) (place : ℕ) → All (IsReachedWithin n) xs → place ≤ n → begin_or xs place ≤ n
unfolding begin_or
begin_within n [] place all at = at
begin_within n (x ∷ xs) place all at = (All-head (IsReachedWithin n) x xs all).row.0

pub bytes_within : (n : ℕ) (s : Sought) (xs : List Reached) → All (IsReachedWithin n) xs → All (IsSpanWithin n) (bytes_of_all s xs)
unfolding bytes_of_all
bytes_within n s [] all = All-nil (IsSpanWithin n)
bytes_within n s (x ∷ xs) all =
    let rest : All (IsSpanWithin n) (bytes_of_all s xs) = bytes_within n s xs (All-tail (IsReachedWithin n) x xs all) in
    either (All (IsSpanWithin n)) (is s x.sort) _ _ (All-cons (IsSpanWithin n) x.own (bytes_of_all s xs) (All-head (IsReachedWithin n) x xs all).own rest) rest
