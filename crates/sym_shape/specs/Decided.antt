-- Each symbol has a tree or a first bad byte.
use Rattle.std.specs.Prelude.{ℕ, ◌<◌, List, get_or, ◌⊎◌}
use Rattle.sym_shape.specs.Table.{Table}
use Rattle.sym_shape.specs.Tree.{IsWellShaped, IsMalformed}

-- each item of the list is a byte
abbrev pub AreBytes : List ℕ → Type 0
AreBytes s = (i : ℕ) → get_or s i 0 < 256

-- some tree of the start kind spells the symbol, or it has a first bad byte
abbrev pub Decided : Table → List ℕ → Type 0
Decided g s = IsWellShaped g s ⊎ ((at : ℕ) × IsMalformed g s at)
