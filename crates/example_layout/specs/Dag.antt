-- A table of nodes that share their parts, and the trees that they denote with nothing shared.
use Rattle.std.specs.Prelude.{◌≡◌, ℕ, zero, suc, ◌+◌, ◌<◌, Bool, true, false, List, [], ◌∷◌, ◌++◌, length, take, slice_index_or, nat_eq, if◌then◌else◌}
use Rattle.sym_print.specs.declared.layout.Item.{Item}
use Rattle.sym_print.specs.declared.layout.Part.{Part}
use Rattle.sym_print.specs.declared.layout.Part.TheVariants.{Sub, Fixed, Own}
use Rattle.example_layout.specs.declared.Node.{Node}
use Rattle.example_layout.specs.declared.Node.TheVariants.{Leaf, Pair}
use Rattle.sym_print.specs.Unfold.{PartOf, text, sub}

-- a tree with nothing shared
pub data Tree : Type 0 where
  leaf : ℕ → Tree
  pair : Tree → Tree → Tree

-- the tree at an index
abbrev pub at : List Tree → ℕ → Tree
at trees i = slice_index_or trees i (leaf 0)

-- the tree of a node, over the trees of the nodes before it
abbrev pub tree_of : List Tree → Node → Tree
tree_of before (Leaf byte) = leaf byte
tree_of before (Pair left right) = pair (at before left) (at before right)

-- the trees of a table, after those of the nodes before it
abbrev pub trees_onto : List Tree → List Node → List Tree
trees_onto before [] = before
trees_onto before (node ∷ rest) = trees_onto (before ++ tree_of before node ∷ []) rest

abbrev pub trees_of : List Node → List Tree
trees_of nodes = trees_onto [] nodes

-- a node's parts are below i
abbrev pub IsBelow : ℕ → Node → Type 0
IsBelow i (Leaf _) = Unit {0}
IsBelow i (Pair left right) = (left < i) × (right < i)

-- each node's parts precede it
abbrev pub IsLinked : ℕ → List Node → Type 0
IsLinked i [] = Unit {0}
IsLinked i (node ∷ rest) = IsBelow i node × IsLinked (i + 1) rest

-- a tree, seen on a side: a leaf prints its byte, a pair its parts with a comma or a semicolon between
pub data Seen : Type 0 where
  seen : Tree → Bool → Seen

abbrev pub mark_of : Bool → List ℕ
mark_of false = 44 ∷ []
mark_of true = 59 ∷ []

abbrev pub parts_of : Seen → List (PartOf Seen)
parts_of (seen (leaf byte) side) = text (byte ∷ []) ∷ []
parts_of (seen (pair left right) side) = sub (seen left false) ∷ text (mark_of side) ∷ sub (seen right true) ∷ []

abbrev pub size_of : Tree → ℕ
size_of (leaf _) = 0
size_of (pair left right) = 1 + (size_of left + size_of right)

abbrev pub rank : Seen → ℕ
rank (seen tree side) = size_of tree

-- the code's item, as an item of the unshared tree
abbrev pub item_of : List Node → Item Bool → Seen
item_of nodes i = seen (at (trees_of nodes) i.node) i.ctx

-- the bytes of the code's parts
abbrev pub bytes_of : Part Bool → List ℕ
bytes_of (Own bytes count) = take count bytes
bytes_of (Fixed number) = if nat_eq number 0 then 44 ∷ [] else 59 ∷ []
bytes_of _ = []

-- the parts that a table's items may have
abbrev pub MayCome : List Node → Part Bool → Type 0
MayCome nodes (Sub i) = i.node < length nodes
MayCome nodes (Own bytes count) = (count ≡ 1) × (length bytes ≡ 24)
MayCome nodes (Fixed number) = number < 2
MayCome nodes _ = ⊥

-- a leaf, and pairs above it, each holding the node before it twice
abbrev pub doubled : ℕ → List Node
doubled zero = Leaf 120 ∷ []
doubled (suc below) = doubled below ++ Pair below below ∷ []
