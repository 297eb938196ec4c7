-- The paths of a symbol's name, by the numbers of their rows.
use Rattle.std.specs.Prelude.{ℕ, zero, suc, ◌+◌, ◌-◌, ◌||◌, List, [], ◌∷◌, length, Bool, false, Option, Some, None, nat_lt, slice_get, unwrap_or, if◌then◌else◌}
use Rattle.sym_shape.specs.declared.rule.Row.{Row}
use Rattle.rust_grammar.specs.declared.production.Production.{Production}
use Rattle.rust_grammar.specs.declared.production.Production.TheVariants as rules
use Rattle.rust_spelled.specs.Rows.{row_at, production_at}

-- the parent of a path with this production: the path that it is in or adds arguments to; a crate, impl or reference has none
unfoldable pub parent_by : Option Production → (path : ℕ) → Option ℕ
parent_by (Some rules.Nested) path = Some (path + 2)
parent_by (Some rules.Generic) path = Some (path + 1)
parent_by _ path = None

-- a path that has a row, its parent, and so on, at most `most` of them
unfoldable pub paths_from : (most : ℕ) → List Row → (path : Option ℕ) → List ℕ
paths_from zero rows path = []
paths_from (suc most) rows None = []
paths_from (suc most) rows (Some path) =
    if nat_lt path (length rows) then path ∷ paths_from most rows (parent_by (production_at rows path) path) else []

-- The paths of a symbol's name: the symbol's path, whose row is the second, its parent, and so on, up to the crate or impl that the
-- name begins with.
abbrev pub paths_of : List Row → List ℕ
paths_of rows = paths_from (length rows) rows (Some 1)

-- the last path
unfoldable pub root_of : List ℕ → ℕ
root_of paths = unwrap_or (slice_get paths (length paths - 1)) 0

-- The name of a path is shown unless the path's namespace is a lower-case letter and the name has no bytes. The namespace is at
-- the row after the path's, and the name's bytes are the last row of the path's subtree.
unfoldable pub is_shown : (symbol : List ℕ) → List Row → (path : ℕ) → Bool
is_shown symbol rows path =
    let name = row_at rows ((row_at rows path).end - 1) in
    nat_lt (unwrap_or (slice_get symbol (row_at rows (path + 1)).from) 0) 97 || nat_lt name.from name.to

-- the path adds a name to its parent's text
unfoldable pub is_named_by : Option Production → (symbol : List ℕ) → List Row → (path : ℕ) → Bool
is_named_by (Some rules.Nested) symbol rows path = is_shown symbol rows path
is_named_by _ symbol rows path = false

-- the first path that adds a name
unfoldable pub first_named : (symbol : List ℕ) → List Row → List ℕ → Option ℕ
first_named symbol rows [] = None
first_named symbol rows (path ∷ rest) =
    if is_named_by (production_at rows path) symbol rows path then Some path else first_named symbol rows rest
