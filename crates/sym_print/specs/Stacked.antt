-- Parts on top of a stack, read as what they print.
use Rattle.std.specs.Prelude.{◌≡◌, ℕ, List}
use Rattle.std.specs.List.{All}
use Rattle.sym_print.specs.declared.layout.Item.{Item}
use Rattle.sym_print.specs.declared.layout.Part.{Part}
use Rattle.sym_print.specs.Unshared.{Unshared}
use Rattle.sym_print.specs.Joined.{joined, with_parts}

-- The parts added to a stack, the first on top, are parts that may come, and print what is shown.
pub record Stacked {C : Type 0} (unshared : Item C → Unshared) (bytes_of : Part C → List ℕ) (may_come : Part C → Type 0) (below stack : List (Part C)) (shown : Unshared) : Type 0 where
  pub added : List (Part C)
  pub is : stack ≡ with_parts below added
  pub all : All may_come added
  pub joined : shown ≡ joined unshared bytes_of added
