-- Parts that are built as data, by recursion over a tree: a text or an item goes before the parts after it.
use Rattle.std.specs.Prelude.{ℕ, List, [], ◌∷◌, Option, Some, None}
use Rattle.sym_print.specs.Unshared.{Unshared, bytes, item}

infixr 5 ◌then◌
infixr 5 ◌also◌
infixr 5 ◌perhaps◌
-- a text, and then the parts after it; an empty text is no part
abbrev pub ◌then◌ : List ℕ → Unshared → Unshared
[] then rest = rest
(b ∷ bs) then rest = bytes (b ∷ bs) rest

-- an item with these parts, and then the parts after it
abbrev pub ◌also◌ : Unshared → Unshared → Unshared
parts also rest = item parts rest

-- an item where there is one, and then the parts after it
abbrev pub ◌perhaps◌ : Option Unshared → Unshared → Unshared
None perhaps rest = rest
(Some parts) perhaps rest = item parts rest
