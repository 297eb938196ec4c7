-- How much more the texts of a stack cost than the steps that they take: a text is one step, and costs its bytes.
use Rattle.std.specs.Prelude.{ℕ, ◌+◌, ◌-◌, length, List, [], ◌∷◌}
use Rattle.sym_print.specs.declared.layout.Part.{Part}
use Rattle.sym_print.specs.declared.layout.Part.TheVariants.{Sub}

module _ {C : Type 0} (bytes_of : Part C → List ℕ) where
  -- how many bytes a text has after the first one; 0 for an item
  abbrev pub spare_of_part : Part C → ℕ
  spare_of_part (Sub _) = 0
  spare_of_part part = length (bytes_of part) - 1

  -- the sum for all entries of a stack
  abbrev pub spare_of_stack : List (Part C) → ℕ
  spare_of_stack [] = 0
  spare_of_stack (part ∷ above) = spare_of_stack above + spare_of_part part
