-- The most entries that a stack has at once while it is printed, given how deep items lie within one another.
use Rattle.std.specs.Prelude.{ℕ, ◌+◌, ◌*◌, List, [], ◌∷◌, max}
use Rattle.sym_print.specs.declared.layout.Item.{Item}
use Rattle.sym_print.specs.declared.layout.Part.{Part}
use Rattle.sym_print.specs.declared.layout.Part.TheVariants.{Sub}
use Rattle.sym_print.specs.Unshared.{Unshared, done, bytes, item}

-- how deep items lie within one another among these parts
abbrev pub height_of : Unshared → ℕ
height_of done = 0
height_of (bytes b rest) = height_of rest
height_of (item parts rest) = max (1 + height_of parts) (height_of rest)

module _ {C : Type 0} (unshared : Item C → Unshared) where
  -- likewise for an entry, where an item counts itself
  abbrev pub height_of_part : Part C → ℕ
  height_of_part (Sub i) = 1 + height_of (unshared i)
  height_of_part _ = 0

  -- The most entries of a stack while these entries are printed, with others below them. At most eight parts take an
  -- item's place, so each item within an entry adds at most seven.
  abbrev pub peak_above : (below : ℕ) → List (Part C) → ℕ
  peak_above below [] = below
  peak_above below (part ∷ above) = max (below + 1 + 7 * height_of_part part) (peak_above (below + 1) above)

  -- the most entries of a stack whose next entry is its last
  abbrev pub peak_of_stack : List (Part C) → ℕ
  peak_of_stack stack = peak_above 0 stack
