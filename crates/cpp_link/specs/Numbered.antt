-- The productions with a number that is tested where they begin, and the row of that number.
use Rattle.std.specs.Prelude.{ℕ, ◌≤◌, List, length, Bool, true, false}
use Rattle.sym_shape.specs.declared.rule.Row.{Row}
use Rattle.cpp_grammar.specs.declared.production.Production.{Production}

unfoldable pub is_numbered : Production → Bool
is_numbered Production.Lambda = true
is_numbered Production.Unnamed = true
is_numbered _ = false

-- the row's bytes are bytes of the symbol
pub record IsRange (s : List ℕ) (row : Row) : Type 0 where
  pub ordered : row.from ≤ row.to
  pub within : row.to ≤ length s
