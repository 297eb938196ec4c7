-- How long a pressed spelling may be.
use Rattle.std.specs.Prelude.{ℕ, ◌*◌, ◌≤◌, List, length, Ok}
use Rattle.sym_core.specs.Number.{FitsSymbol}
use Rattle.cpp_grammar.specs.Mangled.{IsReading}
use Rattle.cpp_grammar.specs.Term.{Term}
use Rattle.cpp_press_laws.specs.Pressing.{pressed}

-- the most bytes of a pressed spelling for each byte of a symbol
abbrev pub pressed_a_byte : ℕ
pressed_a_byte = 64

-- The bytes are at most `pressed_a_byte` times as many as the bytes of each symbol that fits and is read as the tree.
abbrev pub IsShort : Term → (bytes : List ℕ) → Type 0
IsShort tree bytes = (s : List ℕ) → FitsSymbol s → IsReading s (Ok tree) → length bytes ≤ pressed_a_byte * length s

-- the pressed spelling of each tree is short in this sense
abbrev pub PressedIsShort : Type 0
PressedIsShort = (tree : Term) → IsShort tree (pressed tree)
