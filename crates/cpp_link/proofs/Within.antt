-- Laws of a language that wraps the linking of another, or follows another reading, from the laws of that other language.
use Rattle.cpp_link.proofs.Basics.{ℕ, List, drop, Result, Refusal, Frame, Open, View, HasRoom, IsAt, IsOpenAt, GoesOn, ClosesAll, State, Around, Value, Linked, Part, Surroundings, Rescoping, within, wide_view, cpp_view}

-- ## A language that wraps the linking of another

module _ {S : Type 0} (view : View Linked Part Surroundings Value S Around) (s : List ℕ) (l : Rescoping) where
  pub room_within : (more : ℕ) → HasRoom (within view) s l more → HasRoom view s l.linked more
  room_within more room = record { fits = room.fits; size = room.size; paid = room.paid }

  pub at_within : (frame : Frame Surroundings) (own : List Part) (rule : Open S Around) (known : List Value) (state : S)
      → IsAt (within view) s l frame own rule known state → IsAt view s l.linked frame own rule known state
  at_within frame own rule known state is =
      record { there = is.there; number = is.number; place = is.place; kept = is.kept; parts = is.parts; holds = is.holds }

  pub open_at_within : (frame : Frame Surroundings) (parts : List Part) → IsOpenAt (within view) s l frame parts → IsOpenAt view s l.linked frame parts
  open_at_within frame parts is =
      record { rule = is.rule; known = is.known; state = is.state; at = at_within frame (drop frame.base parts) is.rule is.known is.state is.at }

module _ {S : Type 0} (view : View Linked Part Surroundings Value S Around) (s : List ℕ) (old new : Rescoping) where
  pub goes_within : (IsContext : Linked → Surroundings → Around → Type 0) (frame : Frame Surroundings) (parts new_parts : List Part) (result : Result Surroundings Refusal)
      → GoesOn view s IsContext old.linked new.linked frame parts new_parts result
      → GoesOn (within view) s (λ l. IsContext l.linked) old new frame parts new_parts result
  goes_within IsContext frame parts new_parts result goes rule known state is =
      goes rule known state (at_within view s old frame (drop frame.base parts) rule known state is)

  pub closes_within : (frame : Frame Surroundings) (parts new_parts : List Part) (result : Result (Unit {0}) Refusal)
      → ClosesAll view s old.linked new.linked frame parts new_parts result → ClosesAll (within view) s old new frame parts new_parts result
  closes_within frame parts new_parts result closes rule known state is =
      closes rule known state (at_within view s old frame (drop frame.base parts) rule known state is)

-- ## By the wide reading

pub at_plain : (s : List ℕ) (l : Linked) (frame : Frame Surroundings) (own : List Part) (rule : Open State Around) (known : List Value) (state : State)
    → IsAt (wide_view s) s l frame own rule known state → IsAt (cpp_view s) s l frame own rule known state
at_plain s l frame own rule known state is =
    record { there = is.there; number = is.number; place = is.place; kept = is.kept; parts = is.parts; holds = is.holds }
