-- What the reader still has to do, as rules that are being read.
use Rattle.std.specs.Prelude.{◌≡◌, ℕ, ◌+◌, ◌<◌, List, [], ◌∷◌, ◌++◌, length, ◌⊎◌}
use Rattle.sym_shape.specs.declared.rule.Rule.{Rule}
use Rattle.sym_shape.specs.declared.rule.Row.{Row}
use Rattle.sym_shape.specs.declared.rule.Sym.{Sym}
use Rattle.sym_shape.specs.declared.frame.Frame.{Frame}
use Rattle.sym_shape.specs.Listing.{StandsAt}
use Rattle.sym_shape.specs.Table.{symbols_of}
use Rattle.sym_shape.specs.Reading.{Entry, Close, entries_of, open_row, place_behind}

-- the frame after its next symbol
abbrev pub passed : Frame → Frame
passed frame = record frame { place = frame.place + 1 }

-- the frame expects the symbol
abbrev pub HasNext : (ℕ → List Sym) → Frame → Sym → Type 0
HasNext listed frame x = StandsAt listed frame.place x

-- the frame of a rule that begins
abbrev pub rule_frame : ℕ → ℕ → Frame
rule_frame place number = record { place = place; row = number }

-- what a frame and the frames below it, the uppermost first, still expect; the lowest frame ends no row
abbrev pub unfolded : (ℕ → List Sym) → Frame → List Frame → List Entry
unfolded listed frame [] = entries_of (listed frame.place)
unfolded listed frame (f ∷ fs) = entries_of (listed frame.place) ++ Close frame.row ∷ unfolded listed f fs

-- the last item of a list
abbrev pub HasLast : List Frame → Frame → Type 0
HasLast frames frame = (front : List Frame) × (frames ≡ front ++ frame ∷ [])

-- A rule is taken, with n symbols of the top frame after its kind: the rule's frame is then on top, unless the rule is a leaf,
-- whose row has ended.
abbrev pub IsTaken : Rule → (place after : ℕ) → Frame → ℕ → List Frame → List Row → Frame → List Frame → List Row → Type 0
IsTaken rule place after top at below rows frame deeper made =
    ((deeper ≡ below ++ top ∷ []) × (frame ≡ rule_frame place (length rows)) × (made ≡ rows ++ open_row rule after at at 0 ∷ []) × (0 < length (symbols_of rule)))
    ⊎ ((rule.count ≡ 0) × (deeper ≡ below) × (frame ≡ top) × (made ≡ rows ++ open_row rule after at (place_behind rule at) (length rows + 1) ∷ []))
