-- The stretches that were found in a text, in order, and the place that was reached in it.
use Rattle.std.specs.Prelude.{ℕ, List}
use Rattle.sym_parts.specs.declared.stretch.Stretch.{Stretch}

pub record Found : Type 0 where
  pub stretches : List Stretch
  pub place : ℕ
