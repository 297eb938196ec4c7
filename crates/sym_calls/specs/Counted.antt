-- The bytes that are kept of a counted text.
use Rattle.std.specs.Prelude.{◌≡◌, ◌≤◌, ℕ, List, ◌++◌, length}
use Rattle.sym_calls.specs.declared.counted.Counted.{Counted}

-- The count is that of the text's bytes. The list has the text if the text has at most `most` bytes, and the list never has more
-- bytes than `most`.
abbrev pub Holds : Counted → (most : ℕ) → List ℕ → Type 0
Holds counted most text = (counted.most ≡ most) × (counted.count ≡ length text) × (length text ≤ most → counted.list.items ≡ text) × (length counted.list.items ≤ most)

-- Whatever text was counted before, that text followed by these bytes is counted now.
abbrev pub Adds : (old new : Counted) → List ℕ → Type 0
Adds old new bytes = (most : ℕ) (text : List ℕ) → Holds old most text → Holds new most (text ++ bytes)
