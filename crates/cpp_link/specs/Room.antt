-- Where the lists of a linked symbol have no room.
use Rattle.std.specs.Prelude.{◌≡◌, ◌+◌, ◌<◌, ◌≤◌, ◌⊎◌, List, [], ◌∷◌, length, Vec, vec_capacity, Result, Err}
use Rattle.std.specs.Global.{Global}
use Rattle.sym_core.specs.declared.refusal.Refusal.{Refusal}
use Rattle.sym_core.specs.declared.refusal.Refusal.TheVariants.{Memory}
use Rattle.sym_link.specs.Room.{Listed, one_by_one}
use Rattle.cpp_link.specs.declared.part.Part.{Part}
use Rattle.cpp_link.specs.declared.linked.Linked.{Linked}

-- the lists of nodes, of thunks and of candidates
abbrev pub lists_of : Linked → List Listed
lists_of l =
    record { room = l.nodes.node_room; held = length l.nodes.nodes; most = 1 }
    ∷ record { room = l.nodes.thunk_room; held = length l.nodes.thunks; most = 1 } ∷ one_by_one l.candidates.list ∷ []

-- each list has as much room as before, or more
pub record KeepsRoom (old new : Linked) : Type 0 where
  pub nodes : old.nodes.node_room ≤ new.nodes.node_room
  pub thunks : old.nodes.thunk_room ≤ new.nodes.thunk_room
  pub candidates : vec_capacity old.candidates.list ≤ vec_capacity new.candidates.list

-- the list of nodes, of thunks or of candidates had no room for one more
abbrev pub LacksRoom : (old new : Linked) → Type 0
LacksRoom old new =
    (old.nodes.node_room < length new.nodes.nodes + 1)
    ⊎ (old.nodes.thunk_room < length new.nodes.thunks + 1)
    ⊎ (vec_capacity old.candidates.list < length new.candidates.list.items + 1)

-- A call on these parts has as much room after it as before, and answers `Memory` only where a list had no room.
pub record IsRoomy {A : Type 0} (old new : Linked) (parts new_parts : Vec Part Global) (result : Result A Refusal) : Type 0 where
  pub keeps : KeepsRoom old new
  pub capacity : vec_capacity parts ≤ vec_capacity new_parts
  pub full : result ≡ Err Memory → LacksRoom old new ⊎ (vec_capacity parts < length new_parts.items + 1)
