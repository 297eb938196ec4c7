-- What a list's room may become if the list is to hold a number of things.
use Rattle.std.specs.Prelude.{ℕ, ◌+◌, ◌*◌, ◌≤◌, max}

-- the most room that a list gets for a number of things
abbrev pub most_for : ℕ → ℕ
most_for needed = 2 * needed + 8

-- the room is at least the old room, and at most the larger of the old room and the most for what is needed
abbrev pub IsGrown : (old new needed : ℕ) → Type 0
IsGrown old new needed = (old ≤ new) × (new ≤ max old (most_for needed))
