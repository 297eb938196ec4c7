-- What an item prints, with nothing shared, and what that costs.
use Rattle.std.specs.Prelude.{ℕ, ◌+◌, length, List, [], ◌++◌}

-- the parts of an item, in order: each is a byte text, or another item with parts of its own
pub data Unshared : Type 0 where
  done : Unshared
  bytes : List ℕ → Unshared → Unshared
  item : Unshared → Unshared → Unshared

-- the bytes that parts print, in order
abbrev pub text_of : Unshared → List ℕ
text_of done = []
text_of (bytes b rest) = b ++ text_of rest
text_of (item parts rest) = text_of parts ++ text_of rest

-- what parts cost: a byte text costs its length, and an item 1 and the cost of its parts
abbrev pub cost_of_parts : Unshared → ℕ
cost_of_parts done = 0
cost_of_parts (bytes b rest) = length b + cost_of_parts rest
cost_of_parts (item parts rest) = (1 + cost_of_parts parts) + cost_of_parts rest

-- what an item with these parts costs
abbrev pub cost_of : Unshared → ℕ
cost_of parts = 1 + cost_of_parts parts

-- how many steps parts take: a byte text takes one, and an item one and those of its parts
abbrev pub steps_of_parts : Unshared → ℕ
steps_of_parts done = 0
steps_of_parts (bytes b rest) = 1 + steps_of_parts rest
steps_of_parts (item parts rest) = (1 + steps_of_parts parts) + steps_of_parts rest

-- how many steps an item with these parts takes
abbrev pub steps_of : Unshared → ℕ
steps_of parts = 1 + steps_of_parts parts
