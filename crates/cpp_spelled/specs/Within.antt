-- Rows within the bytes of a symbol.
use Rattle.std.specs.Prelude.{ℕ, ◌≤◌}
use Rattle.sym_shape.specs.declared.rule.Row.{Row}

-- the row's bytes are within the first n
abbrev pub IsRowWithin : (n : ℕ) → Row → Type 0
IsRowWithin n row = (row.from ≤ n) × (row.to ≤ n)
