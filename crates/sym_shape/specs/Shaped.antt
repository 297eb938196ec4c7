-- A shape, as its users see it.
use Rattle.std.specs.Prelude.{ℕ, List}
use Rattle.sym_shape.specs.declared.rule.Row.{Row}
use Rattle.sym_shape.specs.Room.{Room}

-- the rows of a symbol, the steps that reading it took, and the room of the lists that it was read with
pub record Shaped : Type 0 where
  pub rows : List Row
  pub steps : ℕ
  pub room : Room
