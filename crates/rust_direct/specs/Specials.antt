-- How closures, shims and other things that a compiler made are shown.
use Rattle.std.specs.Prelude.{ℕ, List, [], ◌∷◌, ◌++◌, codes, decimal}

-- a colon and the name, or nothing if the name is empty
abbrev pub behind_colon : (name : List ℕ) → List ℕ
behind_colon [] = []
behind_colon (b ∷ bs) = 58 ∷ b ∷ bs

-- the text after the parent: the namespace, the name, and the number among the things with the same name
abbrev pub special_text : (namespace name : List ℕ) → (count : ℕ) → List ℕ
special_text namespace name count = codes "::{" ++ namespace ++ behind_colon name ++ codes "#" ++ decimal count ++ codes "}"
