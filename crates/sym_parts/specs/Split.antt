-- Parts of an item, split into the first one and the others.
use Rattle.std.specs.Prelude.{◌≡◌, ℕ, ◌+◌, ◌≤◌, List, length}
use Rattle.std.specs.List.{All}
use Rattle.sym_print.specs.declared.layout.Item.{Item}
use Rattle.sym_print.specs.declared.layout.Part.{Part}
use Rattle.sym_print.specs.declared.layout.Part.TheVariants.{Sub}
use Rattle.sym_print.specs.Joined.{joined, IsText}
use Rattle.sym_print.specs.Unshared.{Unshared, done, bytes, item, cost_of, cost_of_parts}
use Rattle.sym_parts.specs.declared.split.Split.{Split}
use Rattle.sym_parts.specs.declared.split.Split.TheVariants as split

module _ {C : Type 0} (unshared : Item C → Unshared) (bytes_of : Part C → List ℕ) (MayCome : Part C → Type 0) where
  -- an item that may be asked for, and costs at most this much
  abbrev pub IsPayable : (most : ℕ) → Item C → Type 0
  IsPayable most i = MayCome (Sub i) × (cost_of (unshared i) ≤ most)

  -- parts that may be asked for, and cost at most this much
  abbrev pub ArePayable : (most : ℕ) → List (Part C) → Type 0
  ArePayable most parts = All MayCome parts × (cost_of_parts (joined unshared bytes_of parts) ≤ most)

  -- parts split into the first one and the others
  abbrev pub IsSplit : (most : ℕ) → List (Part C) → Split C → Type 0
  IsSplit most parts split.Nothing = joined unshared bytes_of parts ≡ done
  IsSplit most parts (split.Text part rest) =
      (joined unshared bytes_of parts ≡ bytes (bytes_of part.now) (joined unshared bytes_of rest.now))
      × IsText part.now
      × MayCome part.now
      × (length (bytes_of part.now) + cost_of_parts (joined unshared bytes_of rest.now) ≤ most)
      × ArePayable most rest.now
  IsSplit most parts (split.Item i rest) =
      (joined unshared bytes_of parts ≡ item (unshared i.now) (joined unshared bytes_of rest.now))
      × IsPayable most i.now
      × (cost_of (unshared i.now) + cost_of_parts (joined unshared bytes_of rest.now) ≤ most)
      × ArePayable most rest.now
