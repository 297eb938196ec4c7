-- The parts that a layout answers, read as what they print.
use Rattle.std.specs.Prelude.{◌≡◌, ℕ, ◌+◌, ◌-◌, Some, slice_get, length, reverse, List, [], ◌∷◌, ◌++◌}
use Rattle.sym_print.specs.declared.layout.Item.{Item}
use Rattle.sym_print.specs.declared.layout.Part.{Part}
use Rattle.sym_print.specs.declared.layout.Part.TheVariants.{Sub}
use Rattle.sym_print.specs.Unshared.{Unshared, done, bytes, item, text_of, cost_of, steps_of}

module _ {C : Type 0} where
  -- the part is bytes
  abbrev pub IsText : Part C → Type 0
  IsText (Sub _) = ⊥
  IsText _ = Unit {0}

  -- the part is the next entry of a stack, which is the stack's last
  abbrev pub IsNext : List (Part C) → Part C → Type 0
  IsNext stack part = slice_get stack (length stack - 1) ≡ Some part

  -- a stack with parts put above it, the first one on top
  abbrev pub with_parts : List (Part C) → List (Part C) → List (Part C)
  with_parts stack parts = stack ++ reverse parts

module _ {C : Type 0} (unshared : Item C → Unshared) (bytes_of : Part C → List ℕ) where
  -- a list of parts as what it prints
  abbrev pub joined : List (Part C) → Unshared
  joined [] = done
  joined (Sub i ∷ rest) = item (unshared i) (joined rest)
  joined (part ∷ rest) = bytes (bytes_of part) (joined rest)

  -- a list of parts as what it prints, before other parts
  abbrev pub joined_before : List (Part C) → Unshared → Unshared
  joined_before [] others = others
  joined_before (Sub i ∷ rest) others = item (unshared i) (joined_before rest others)
  joined_before (part ∷ rest) others = bytes (bytes_of part) (joined_before rest others)

  -- the bytes that one part prints
  abbrev pub text_of_part : Part C → List ℕ
  text_of_part (Sub i) = text_of (unshared i)
  text_of_part part = bytes_of part

  -- what one part costs
  abbrev pub cost_of_part : Part C → ℕ
  cost_of_part (Sub i) = cost_of (unshared i)
  cost_of_part part = length (bytes_of part)

  -- how many steps one part takes
  abbrev pub steps_of_part : Part C → ℕ
  steps_of_part (Sub i) = steps_of (unshared i)
  steps_of_part part = 1

  -- what taking one part spends at once
  abbrev pub spends : Part C → ℕ
  spends (Sub i) = 1
  spends part = length (bytes_of part)

  -- the bytes that a stack prints; the stack's next entry is its last
  abbrev pub text_of_stack : List (Part C) → List ℕ
  text_of_stack [] = []
  text_of_stack (part ∷ above) = text_of_stack above ++ text_of_part part

  -- what the entries of a stack cost
  abbrev pub cost_of_stack : List (Part C) → ℕ
  cost_of_stack [] = 0
  cost_of_stack (part ∷ above) = cost_of_stack above + cost_of_part part

  -- how many steps the entries of a stack take
  abbrev pub steps_of_stack : List (Part C) → ℕ
  steps_of_stack [] = 0
  steps_of_stack (part ∷ above) = steps_of_stack above + steps_of_part part
