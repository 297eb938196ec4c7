-- Which bytes spell the lists of a name's generic arguments.
use Rattle.std.specs.Prelude.{ℕ, zero, suc, ◌+◌, List, [], ◌∷◌, length, Bool, true, false, Option, Some, nat_lt, if◌then◌else◌}
use Rattle.sym_shape.specs.declared.rule.Row.{Row}
use Rattle.rust_grammar.specs.declared.production.Production.{Production}
use Rattle.rust_grammar.specs.declared.production.Production.TheVariants as rules
use Rattle.sym_parts.specs.declared.spelling.Item.{Item}
use Rattle.sym_parts.specs.declared.spelling.Span.{Span}
use Rattle.sym_parts.specs.Spelling.{span}
use Rattle.rust_spelled.specs.Rows.{row_at, production_at, behind, span_at}

-- ## One list

-- The arguments from a row on, before the row `end`, at most `most` of them. The row of an argument also has the later arguments
-- within it; the row after it is the argument itself.
unfoldable pub arguments_from : (most : ℕ) → List Row → (argument end : ℕ) → List Span
arguments_from zero rows argument end = []
arguments_from (suc most) rows argument end =
    if nat_lt argument end
    then span (row_at rows argument).from (row_at rows (argument + 1)).to ∷ arguments_from most rows (behind rows (argument + 1)) end
    else []

-- the arguments of a generic path, which follow its parent
unfoldable pub arguments_of : List Row → (path : ℕ) → List Span
arguments_of rows path = arguments_from (length rows) rows (behind rows (path + 1)) (behind rows path)

-- the list of a generic path's arguments: the row of the first argument has all of them. An empty list is where the
-- path ends.
unfoldable pub list_of : List Row → (path : ℕ) → Span
list_of rows path =
    if nat_lt (behind rows (path + 1)) (behind rows path)
    then span_at rows (behind rows (path + 1))
    else span (row_at rows path).to (row_at rows path).to

-- ## The lists of paths

unfoldable pub is_generic : Option Production → Bool
is_generic (Some rules.Generic) = true
is_generic _ = false

-- the paths that have arguments
unfoldable pub generics : List Row → List ℕ → List ℕ
generics rows [] = []
generics rows (path ∷ rest) = if is_generic (production_at rows path) then path ∷ generics rows rest else generics rows rest

-- the list of a generic path as an item, whose elements are its arguments; `before` is how many arguments precede them
abbrev pub item_of : List Row → (before path : ℕ) → Item
item_of rows before path = record { span = list_of rows path; first = before; count = length (arguments_of rows path) }

-- the lists of generic paths as items
unfoldable pub items_of : List Row → (before : ℕ) → List ℕ → List Item
items_of rows before [] = []
items_of rows before (path ∷ rest) = item_of rows before path ∷ items_of rows (before + length (arguments_of rows path)) rest
