-- The views of a symbol's nodes.
use Rattle.std.specs.Prelude.{◌≡◌, ℕ, ◌<◌, ◌≤◌, List, [], ◌∷◌, length, map, take, Option, Some, None, slice_get}
use Rattle.std.specs.List.{All}
use Rattle.sym_core.specs.declared.Span.{Span}
use Rattle.cpp_grammar.specs.Term as values
use Rattle.cpp_grammar.specs.Term.{Term}
use Rattle.cpp_term.specs.Erased.{erase}
use Rattle.cpp_tree.specs.Nodes.{Table, trees, tree_at, tree_of, bytes_at, thunk_of, IsWithin, IsBelow, IsThunkWithin}
use Rattle.cpp_tree.specs.declared.node.Node as table
use Rattle.cpp_tree.specs.declared.node.Thunk.{Thunk}
use Rattle.cpp_tree.specs.declared.tree_production.TheConstants.{WIDE_THUNK}
use Rattle.cpp_tree.specs.Fields.{Fields, fields_of, offsets_of}
use Rattle.cpp_tree.specs.declared.view.Node.{Node}
use Rattle.cpp_tree.specs.declared.view.NodeView.{NodeView}

-- the tree of a node, where parameters are only their numbers
abbrev pub plain_tree : Table → (node : ℕ) → Term
plain_tree y node = erase (tree_at (trees y) node)

-- the fields of the tree of a node
abbrev pub fields_at : Table → (node : ℕ) → Fields
fields_at y node = fields_of (plain_tree y node)

-- The view has these fields: the bytes of its spans are the texts, and it counts the parts.
pub record IsView (s : List ℕ) (view : Node) (given : Fields) : Type 0 where
  pub production : view.production ≡ given.production
  pub numbers : view.numbers ≡ given.numbers
  pub texts : map (bytes_at s) view.texts ≡ given.texts
  pub parts : view.parts ≡ length given.parts

-- Two views have the same production and numbers, texts of the same bytes, and equally many parts; the parts are equal in turn,
-- and so are the offsets of thunks that have more than two.
pub record AreAlike (s t : List ℕ) (first second : Node) (one other : Term) : Type 0 where
  pub production : first.production ≡ second.production
  pub numbers : first.numbers ≡ second.numbers
  pub texts : map (bytes_at s) first.texts ≡ map (bytes_at t) second.texts
  pub parts : first.parts ≡ second.parts
  pub equal : (k : ℕ) → k < first.parts → slice_get (fields_of one).parts k ≡ slice_get (fields_of other).parts k
  pub offsets : first.production ≡ WIDE_THUNK → offsets_of one ≡ offsets_of other

-- a span without bytes
abbrev pub no_text : Span
no_text = record { from = 0; to = 0 }

abbrev pub seen_of : (production : ℕ) → (numbers : List ℕ) → (texts : List Span) → (count : ℕ) → (parts : List ℕ) → NodeView
seen_of production numbers texts count parts =
    record { node = record { production = production; numbers = numbers; texts = texts; parts = count }; parts = parts }

-- the view of a name with these numbers and this text, after a prefix if there is one
abbrev pub seen_behind : (production : ℕ) → (numbers : List ℕ) → (text : Span) → (prefix : Option ℕ) → NodeView
seen_behind production numbers text None = seen_of production numbers (text ∷ no_text ∷ []) 0 (0 ∷ 0 ∷ 0 ∷ [])
seen_behind production numbers text (Some prefix) = seen_of production numbers (text ∷ no_text ∷ []) 1 (prefix ∷ 0 ∷ 0 ∷ [])

abbrev pub prefix_trees : Table → (prefix : Option ℕ) → List Term
prefix_trees y None = []
prefix_trees y (Some prefix) = plain_tree y prefix ∷ []

-- the fields of a view, with the trees of its parts
abbrev pub seen_fields : Table → NodeView → Fields
seen_fields y seen = record {
  production = seen.node.production;
  numbers = seen.node.numbers;
  texts = map (bytes_at y.bytes) seen.node.texts;
  parts = map (plain_tree y) (take seen.node.parts seen.parts);
}

-- the parts are below a bound, and the texts within bytes
abbrev pub AreBelow : (bound : ℕ) → NodeView → Type 0
AreBelow n seen = All (λ part. part < n) (take seen.node.parts seen.parts)

abbrev pub IsSlotBelow : (bound : ℕ) → Option ℕ → Type 0
IsSlotBelow n None = Unit {0}
IsSlotBelow n (Some part) = part < n

abbrev pub AreWithin : List ℕ → List Span → Type 0
AreWithin s texts = All (λ text. IsWithin text s) texts

-- What the view of a node shows: its fields, with texts within the symbol, and with parts below each bound of the node's parts.
pub record IsSeen (y : Table) (node : table.Node) (seen : NodeView) : Type 0 where
  pub fields : seen_fields y seen ≡ fields_of (erase (tree_of y.bytes y.thunks (trees y) node))
  pub texts : AreWithin y.bytes seen.node.texts
  pub parts : (n : ℕ) → IsBelow y.bytes (length y.thunks) n node → AreBelow n seen
  pub few : seen.node.parts ≤ 3

-- what is known of a thunk is within the symbol
abbrev pub IsKnownThunk : List ℕ → Option Thunk → Type 0
IsKnownThunk s None = Unit {0}
IsKnownThunk s (Some kind) = IsThunkWithin s kind

-- what the offsets of a thunk are
abbrev pub offsets_in : List ℕ → Option Thunk → Option values.Thunk
offsets_in s None = None
offsets_in s (Some kind) = Some (thunk_of s (Some kind))
