-- Where the stretches and the parts of a text are.
use Rattle.std.specs.Prelude.{ℕ, ◌+◌, ◌≤◌, List, ◌⊎◌}
use Rattle.std.specs.List.{All, AllPairs}
use Rattle.sym_parts.specs.declared.part.Part.{Part}
use Rattle.sym_parts.specs.declared.stretch.Stretch.{Stretch}

module _ {X : Type 0} (start_of end_of : X → ℕ) where
  -- the element is a slice of the bytes from one place to another
  abbrev pub IsBetween : (from to : ℕ) → X → Type 0
  IsBetween from to x = (from ≤ start_of x) × (end_of x ≤ to)

  -- the later of two elements starts no earlier, and is within the other or after it
  abbrev pub AreInOrder : (earlier later : X) → Type 0
  AreInOrder earlier later = (start_of earlier ≤ start_of later) × ((end_of later ≤ end_of earlier) ⊎ (end_of earlier ≤ start_of later))

-- each element is a slice of a text of this length, and each two elements are in order
pub record ArePlacedBy {X : Type 0} (start_of end_of : X → ℕ) (length : ℕ) (xs : List X) : Type 0 where
  pub slices : All (IsBetween start_of end_of 0 length) xs
  pub order : AllPairs (AreInOrder start_of end_of) xs

-- ## Stretches

abbrev pub start_of_stretch : Stretch → ℕ
start_of_stretch stretch = stretch.start

-- the place after a stretch
abbrev pub end_of_stretch : Stretch → ℕ
end_of_stretch stretch = stretch.start + stretch.length

-- each stretch is a slice of a text of this length, and each two stretches are in order
abbrev pub AreStretchesPlaced : (length : ℕ) → List Stretch → Type 0
AreStretchesPlaced length stretches = ArePlacedBy start_of_stretch end_of_stretch length stretches

-- ## Parts

abbrev pub start_of : Part → ℕ
start_of part = part.start

-- the place after a part
abbrev pub end_of : Part → ℕ
end_of part = part.start + part.length

-- the part is a slice of the bytes from one place to another
abbrev pub IsSlice : (from to : ℕ) → Part → Type 0
IsSlice from to part = IsBetween start_of end_of from to part

-- each part is a slice of a text of this length, and each two parts are in order
abbrev pub ArePlaced : (length : ℕ) → List Part → Type 0
ArePlaced length parts = ArePlacedBy start_of end_of length parts
