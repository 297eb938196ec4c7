-- The trees of a grammar, and what they spell.
use Rattle.sym_shape.specs.declared.rule.TheConstants.{TOKEN}
use Rattle.std.specs.Prelude.{◌≡◌, ℕ, ◌+◌, ◌<◌, ◌≤◌, length, List, [], ◌∷◌, ◌++◌, take, true, Some, if◌then◌else◌, ⊤}
use Rattle.sym_shape.specs.declared.rule.Rule.{Rule}
use Rattle.sym_shape.specs.declared.rule.Row.{Row}
use Rattle.sym_shape.specs.declared.rule.Sym.{Sym}
use Rattle.sym_shape.specs.declared.rule.Sym.TheVariants.{Kind, Name, Number, Byte}
use Rattle.sym_shape.specs.Table.{Table, Token, symbols_of, bytes_of, IsToken}

mutual
  -- a rule, the byte that it takes or none, and a tree for each of its symbols; an empty kind; a token; a fixed byte
  pub data Tree : Type 0 where
    branch : Rule → List ℕ → Forest → Tree
    empty : Tree
    token : Token → Tree
    fixed : ℕ → Tree

  pub data Forest : Type 0 where
    nothing : Forest
    grown : Tree → Forest → Forest

-- the bytes of the leaves, in order
abbrev mutual
  pub spell : Tree → List ℕ
  spell (branch rule taken parts) = taken ++ spell_all parts
  spell empty = []
  spell (token t) = bytes_of t
  spell (fixed byte) = byte ∷ []

  pub spell_all : Forest → List ℕ
  spell_all nothing = []
  spell_all (grown tree rest) = spell tree ++ spell_all rest

-- the kind takes the rule at some byte, and these are the bytes that the rule takes itself
pub record TakesRule (g : Table) (kind : ℕ) (rule : Rule) (taken : List ℕ) : Type 0 where
  pub byte : ℕ
  pub is_byte : byte < 256
  pub found : g.rule kind byte ≡ Some rule
  pub takes : taken ≡ (if rule.eats then byte ∷ [] else [])

abbrev mutual
  -- the tree is one of the grammar, for a symbol
  pub IsTree : Table → Sym → Tree → Type 0
  IsTree g (Kind k) (branch rule taken parts) = TakesRule g k rule taken × AreTrees g (symbols_of rule) parts
  IsTree g (Kind k) empty = g.may_be_empty k ≡ true
  IsTree g Name (token t) = IsToken g.names Name t
  IsTree g (Number kind) (token t) = IsToken g.names (Number kind) t
  IsTree g (Byte b) (fixed c) = b ≡ c
  IsTree g _ _ = ⊥

  -- one tree for each symbol
  pub AreTrees : Table → List Sym → Forest → Type 0
  AreTrees g [] nothing = ⊤
  AreTrees g (s ∷ ss) (grown tree rest) = IsTree g s tree × AreTrees g ss rest
  AreTrees g _ _ = ⊥

-- some tree of the start kind spells the symbol
abbrev pub IsWellShaped : Table → List ℕ → Type 0
IsWellShaped g s = (tree : Tree) × IsTree g (Kind 0) tree × (spell tree ≡ s)

-- some well shaped symbol begins with these bytes
abbrev pub BeginsWellShaped : Table → List ℕ → Type 0
BeginsWellShaped g front = (rest : List ℕ) × IsWellShaped g (front ++ rest)

-- the first bad byte: the length of the longest front of s that begins some well shaped symbol
pub record IsFirstBad (g : Table) (s : List ℕ) (at : ℕ) : Type 0 where
  pub within : at ≤ length s
  pub front : BeginsWellShaped g (take at s)
  pub next : at < length s → BeginsWellShaped g (take (at + 1) s) → ⊥

-- the symbol isn't well shaped, and this is its first bad byte
pub record IsMalformed (g : Table) (s : List ℕ) (at : ℕ) : Type 0 where
  pub refused : IsWellShaped g s → ⊥
  pub first : IsFirstBad g s at

-- how many rules, chains and tokens a tree has
abbrev mutual
  pub row_count : Tree → ℕ
  row_count (branch rule taken parts) = 1 + row_count_all parts
  row_count empty = 0
  row_count (token t) = 1
  row_count (fixed byte) = 0

  pub row_count_all : Forest → ℕ
  row_count_all nothing = 0
  row_count_all (grown tree rest) = row_count tree + row_count_all rest

-- how many steps the reader takes for a tree: a rule is begun in one step and ended in another, or both in one where
-- the rule has no symbols
abbrev mutual
  pub read_steps : Tree → ℕ
  read_steps (branch rule taken nothing) = 1
  read_steps (branch rule taken (grown first rest)) = 2 + (read_steps first + read_steps_all rest)
  read_steps empty = 1
  read_steps (token t) = 1
  read_steps (fixed byte) = 1

  pub read_steps_all : Forest → ℕ
  read_steps_all nothing = 0
  read_steps_all (grown tree rest) = read_steps tree + read_steps_all rest

-- how many trees there are
abbrev pub tree_count : Forest → ℕ
tree_count nothing = 0
tree_count (grown tree rest) = 1 + tree_count rest

-- the rows of a tree that begins at a place and has n symbols after it in its rule; `number` is the first row's number
abbrev mutual
  pub rows_of : Tree → (after at number : ℕ) → List Row
  rows_of (branch rule taken parts) after at number =
      record { rule = rule.number; after = after; from = at; to = at + length (taken ++ spell_all parts); end = number + 1 + row_count_all parts }
      ∷ rows_of_all parts (at + length taken) (number + 1)
  rows_of empty after at number = []
  rows_of (token t) after at number =
      record { rule = TOKEN; after = after; from = at + length t.before; to = at + length t.before + length t.own; end = number + 1 } ∷ []
  rows_of (fixed byte) after at number = []

  pub rows_of_all : Forest → (at number : ℕ) → List Row
  rows_of_all nothing at number = []
  rows_of_all (grown tree rest) at number =
      rows_of tree (tree_count rest) at number ++ rows_of_all rest (at + length (spell tree)) (number + row_count tree)

-- the steps that the reader takes for the one tree that spells the symbol
abbrev pub AreStepsOf : Table → List ℕ → ℕ → Type 0
AreStepsOf g s steps = (tree : Tree) → IsTree g (Kind 0) tree → spell tree ≡ s → steps ≡ read_steps tree

-- these are the rows of the one tree that spells the symbol
abbrev pub AreRowsOf : Table → List ℕ → List Row → Type 0
AreRowsOf g s rows = (tree : Tree) × IsTree g (Kind 0) tree × (spell tree ≡ s) × (rows ≡ rows_of tree 0 0 0)
