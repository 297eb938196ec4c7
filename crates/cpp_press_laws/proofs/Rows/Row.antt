-- Rows of symbols with their pressed spellings, and a test of them that computes.
use Rattle.cpp_press_laws.proofs.Basics.{ℕ, List, [], ◌∷◌, Bool, true, ◌&&◌, codes, Some, None, Result, Ok, Err, Refusal, Term, same_bytes, unfold_cpp, shape_of, pressed}
use Prim.Native.String.{String}

-- a symbol, and what pressing makes of it
pub record Row : Type 0 where
  pub symbol : List ℕ
  pub wanted : List ℕ

abbrev pub presses : String → String → Row
presses symbol wanted = record { symbol = codes symbol; wanted = codes wanted }

-- no bytes if a symbol isn't read
unfoldable pub pressed_if_read : Result Term Refusal → List ℕ
pressed_if_read (Ok t) = pressed t
pressed_if_read (Err r) = []

unfoldable pub press : List ℕ → List ℕ
press s = elim (shape_of s) [ None ↦ [] | Some tree ↦ pressed_if_read (unfold_cpp tree) ]

-- each symbol is pressed to these bytes, and pressed bytes are pressed to themselves
unfoldable pub are_pressed : List Row → Bool
are_pressed [] = true
are_pressed (row ∷ rows) = same_bytes (press row.symbol) row.wanted && same_bytes (press row.wanted) row.wanted && are_pressed rows
