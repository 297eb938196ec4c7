-- What a printer notes of items: where the texts of written items are, and where the items that are being written began.
use Rattle.std.specs.Prelude.{◌≡◌, ℕ, ◌+◌, ◌<◌, ◌≤◌, length, drop, List, [], ◌∷◌, ◌++◌}
use Rattle.std.specs.List.{All}
use Rattle.sym_print.specs.declared.layout.Item.{Item}
use Rattle.sym_print.specs.declared.layout.Part.{Part}
use Rattle.sym_print.specs.declared.notes.Note.{Note}
use Rattle.sym_print.specs.declared.notes.Begun.{Begun}
use Rattle.sym_print.specs.declared.notes.Notes.{Notes}
use Rattle.sym_print.specs.Unshared.{Unshared, text_of, cost_of, steps_of}
use Rattle.sym_print.specs.Joined.{text_of_stack, cost_of_stack, steps_of_stack}
use Rattle.sym_print.specs.Spare.{spare_of_stack}

-- A note says where the text of its item is, what the item costs and how many steps it takes.
pub record IsNote {C : Type 0} (unshared : Item C → Unshared) (text : List ℕ) (note : Note C) : Type 0 where
  pub after : List ℕ
  pub within : note.from ≤ length text
  pub is : drop note.from text ≡ text_of (unshared note.item) ++ after
  pub ends : note.to ≡ note.from + length (text_of (unshared note.item))
  pub costs : note.cost ≡ cost_of (unshared note.item)
  pub takes : note.steps ≡ steps_of (unshared note.item)
  pub few : note.steps ≤ note.cost

-- An item was begun. Its text is what was written since then and what the entries above its place print; likewise for its cost
-- and its steps. The steps are paid, or will be paid by the texts above its place.
pub record IsBegun {C : Type 0} (unshared : Item C → Unshared) (bytes_of : Part C → List ℕ) (stack : List (Part C)) (text : List ℕ) (spent taken : ℕ) (begun : Begun C) : Type 0 where
  pub place : begun.below ≤ length stack
  pub within : begun.from ≤ length text
  pub is : drop begun.from text ++ text_of_stack unshared bytes_of (drop begun.below stack) ≡ text_of (unshared begun.item)
  pub costs : spent + cost_of_stack unshared bytes_of (drop begun.below stack) ≡ begun.spent + cost_of (unshared begun.item)
  pub takes : taken + steps_of_stack unshared bytes_of (drop begun.below stack) ≡ begun.steps + steps_of (unshared begun.item)
  pub few : taken + begun.spent ≤ begun.steps + spent + spare_of_stack bytes_of (drop begun.below stack)

module _ {C : Type 0} where
  -- items that were begun one within the other: each has a place no lower than that of the item before it
  abbrev pub AreNested : ℕ → List (Begun C) → Type 0
  AreNested low [] = Unit {0}
  AreNested low (begun ∷ inner) = (low ≤ begun.below) × AreNested begun.below inner

  -- the places of items are below a height
  abbrev pub AreBelow : ℕ → List (Begun C) → Type 0
  AreBelow height begun = All (λ b. b.below < height) begun

  -- the innermost of the items
  abbrev pub EndsWith : List (Begun C) → Begun C → Type 0
  EndsWith begun last = (outer : List (Begun C)) × (begun ≡ outer ++ last ∷ [])

  -- the innermost item has its place at a height
  abbrev pub EndsAt : ℕ → List (Begun C) → Type 0
  EndsAt height begun = (b : Begun C) × (outer : List (Begun C)) × (begun ≡ outer ++ b ∷ []) × (b.below ≡ height)

-- All notes hold.
pub record AreNoted {C : Type 0} (unshared : Item C → Unshared) (bytes_of : Part C → List ℕ) (notes : Notes C) (stack : List (Part C)) (text : List ℕ) (spent taken : ℕ) : Type 0 where
  pub known : All (IsNote unshared text) notes.known.items
  pub begun : All (IsBegun unshared bytes_of stack text spent taken) notes.begun.items
  pub nested : AreNested 0 notes.begun.items
