-- The outline of a symbol: the rows around the parts of its name, in the order of their bytes, each with its sort. The row of a
-- type or of a literal is in the outline, and the rows within it aren't.
use Rattle.std.specs.Prelude.{ℕ, ◌+◌, List, [], ◌∷◌, slice_index_or, nat_eq, nat_le, nat_lt, if◌then◌else◌}
use Rattle.sym_shape.specs.declared.rule.Row.{Row}
use Rattle.sym_shape.specs.declared.rule.TheConstants.{TOKEN}
use Rattle.sym_parts.specs.declared.spelling.Span.{Span}
use Rattle.sym_parts.specs.Spelling.{span}
use Rattle.cpp_spelled.specs.Sorts.{sort_in, is}
use Rattle.cpp_spelled.specs.declared.sought.Sought.{Sought}
use Rattle.cpp_spelled.specs.declared.sought.TheConstants.{PASSED_OVER}
use Rattle.cpp_spelled.specs.declared.outline.Reached.{Reached}

-- a row without bytes, used if there is no row
abbrev pub nowhere : Row
nowhere = record { rule = TOKEN; after = 0; from = 0; to = 0; end = 0 }

-- the row with a number
abbrev pub row_at : List Row → ℕ → Row
row_at rows number = slice_index_or rows number nowhere

-- The bytes of a row before the row of its rule's last symbol, if the latter is the first or the second row within the former;
-- otherwise all bytes of the row. The rules of lists end in the rest of the list, so these bytes are an item without the later
-- ones; for a tag, they leave out what follows the tag.
unfoldable pub own_bytes : List Row → (number : ℕ) → Row → Span
own_bytes rows number row =
    if nat_le row.end (number + 1) then span row.from row.to
    else if nat_eq (row_at rows (number + 1)).after 0 then span row.from (row_at rows (number + 1)).from
    else if nat_le row.end (row_at rows (number + 1)).end then span row.from row.to
    else span row.from (row_at rows (row_at rows (number + 1)).end).from

-- a row of an outline
unfoldable pub outlined : List Row → (number : ℕ) → Row → Reached
outlined rows number row = record {
  sort = sort_in row;
  row = row;
  first = row_at rows (number + 1);
  own = own_bytes rows number row;
}

-- the number of the next row of an outline
unfoldable pub next_number : (number : ℕ) → Row → ℕ
next_number number row = if is PASSED_OVER (sort_in row) then row.end else number + 1

-- the outline of the rows from a number on; the rows before the number `past` are passed over
unfoldable pub outline_from : List Row → (number past : ℕ) → List Row → List Reached
outline_from rows number past [] = []
outline_from rows number past (row ∷ rest) =
    if nat_lt number past then outline_from rows (number + 1) past rest
    else outlined rows number row ∷ outline_from rows (number + 1) (next_number number row) rest

-- the outline of a symbol that has these rows
abbrev pub outline_of : List Row → List Reached
outline_of rows = outline_from rows 0 0 rows

-- ## What is found in an outline

-- the outline from its first sought row on
unfoldable pub from_first : Sought → List Reached → List Reached
from_first s [] = []
from_first s (x ∷ xs) = if is s x.sort then x ∷ xs else from_first s xs

-- the first list, or the second where the first is empty
unfoldable pub or_else : List Reached → List Reached → List Reached
or_else [] ys = ys
or_else (x ∷ xs) ys = x ∷ xs

-- the outline from its last sought row on
unfoldable pub from_last : Sought → List Reached → List Reached
from_last s [] = []
from_last s (x ∷ xs) = or_else (from_last s xs) (if is s x.sort then x ∷ xs else [])

-- the own bytes of all sought rows
unfoldable pub bytes_of_all : Sought → List Reached → List Span
bytes_of_all s [] = []
bytes_of_all s (x ∷ xs) = if is s x.sort then x.own ∷ bytes_of_all s xs else bytes_of_all s xs

-- where the first row begins; the given place if there is no row
unfoldable pub begin_or : List Reached → ℕ → ℕ
begin_or [] place = place
begin_or (x ∷ xs) place = x.row.from
