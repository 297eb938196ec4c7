-- The numbers of trees.
use Rattle.std.specs.Prelude.{◌≡◌, ℕ, ◌<◌, ◌≤◌, List, [], ◌∷◌, length, slice_get}
use Rattle.sym_spell.specs.Numbers.{number_at, AreNumbered, AreTold}
use Rattle.rust_tree.specs.Tree.{Tree}
use Rattle.rust_tree.specs.Fields.{Fields}
use Rattle.rust_press.specs.declared.numbering.Key.{Key}

-- Nodes with equal trees have one number, and nodes with different trees have different numbers. A tree that no earlier
-- node has gets the next number.
abbrev pub AreNumbers : List Tree → List ℕ → Type 0
AreNumbers all numbers = AreNumbered (slice_get all) (length all) numbers

-- Nodes with equal trees have one first node, and nodes with different trees have different first nodes.
abbrev pub AreFirst : List Tree → List ℕ → Type 0
AreFirst all firsts = AreTold (slice_get all) (length all) firsts

-- the number of the part k of a node: the number of a node that equals the part
abbrev pub IsPartNumber : List Tree → List ℕ → (parts : List Tree) → (k n : ℕ) → Type 0
IsPartNumber all numbers parts k n = (p : ℕ) × (p < length numbers) × (slice_get all p ≡ slice_get parts k) × (n ≡ number_at numbers p)

-- The key has these fields, with the number of each part in place of the part, and 0 after the last part.
pub record IsKeyOf (all : List Tree) (numbers : List ℕ) (given : Fields) (key : Key) : Type 0 where
  pub production : key.production ≡ given.production
  pub own_numbers : key.numbers ≡ given.numbers
  pub texts : key.first_text.now ∷ key.second_text.now ∷ [] ≡ given.texts
  pub count : key.count ≡ length given.parts
  pub parts : (k : ℕ) → k < length given.parts → IsPartNumber all numbers given.parts k (number_at key.parts k)
  pub rest : (k : ℕ) → length given.parts ≤ k → number_at key.parts k ≡ 0
  pub long : length key.parts ≡ 3
