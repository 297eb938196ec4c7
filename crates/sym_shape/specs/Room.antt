-- What the lists of a parse have room for without taking memory.
use Rattle.std.specs.Prelude.{ℕ, ◌+◌, ◌*◌, ◌<◌, ◌≤◌, ◌⊎◌, max, vec_capacity}
use Rattle.sym_shape.specs.declared.parse.Parse.{Parse}

-- the rows, and the rules that are being read around another one
pub record Room : Type 0 where
  pub rows : ℕ
  pub rules : ℕ

-- no memory was taken yet
abbrev pub no_room : Room
no_room = record { rows = 0; rules = 0 }

-- the room of a parse
abbrev pub room_of : Parse → Room
room_of parse = record { rows = vec_capacity parse.rows; rules = vec_capacity parse.below }

-- there is as much room as before, or more
abbrev pub KeepsRoom : (old new : Room) → Type 0
KeepsRoom old new = (old.rows ≤ new.rows) × (old.rules ≤ new.rules)

-- the most rows, and the most rules around another one, that the lists for a symbol of n bytes get room for
abbrev pub most_room : ℕ → ℕ
most_room bytes = 8 * bytes + 18

-- each list has room for no more than before, or for no more than a symbol of n bytes may need
abbrev pub StaysWithin : (bytes : ℕ) → (old new : Room) → Type 0
StaysWithin bytes old new = (new.rows ≤ max old.rows (most_room bytes)) × (new.rules ≤ max old.rules (most_room bytes))

-- after these rows and rules there was no room for this many more rows, or for one more rule
abbrev pub LacksRoom : (more : ℕ) → Room → (rows rules : ℕ) → Type 0
LacksRoom more room rows rules = (room.rows < rows + more) ⊎ (room.rules < rules + 1)
