-- How long a pressed spelling may be.
use Rattle.std.specs.Prelude.{ℕ, ◌*◌, ◌≤◌, List, length, Ok}
use Rattle.sym_core.specs.Number.{FitsSymbol}
use Rattle.rust_tree.specs.Symbol as tree
use Rattle.rust_grammar.specs.Mangled.{IsReading}
use Rattle.rust_press.specs.Pressing.{pressed}

-- the most bytes of a pressed spelling for each byte of a symbol
abbrev pub pressed_a_byte : ℕ
pressed_a_byte = 4

-- The bytes are at most `pressed_a_byte` times as many as the bytes of each symbol that fits and is read as the tree.
abbrev pub IsShort : tree.Symbol → (bytes : List ℕ) → Type 0
IsShort symbol bytes = (s : List ℕ) → FitsSymbol s → IsReading s (Ok symbol) → length bytes ≤ pressed_a_byte * length s

-- the pressed spelling of each tree is short in this sense
abbrev pub PressedIsShort : Type 0
PressedIsShort = (symbol : tree.Symbol) → IsShort symbol (pressed symbol)
