-- The views of a symbol's nodes.
use Rattle.std.specs.Prelude.{◌≡◌, ℕ, ◌<◌, ◌≤◌, List, [], ◌∷◌, length, map, take, Option, Some, None, slice_get, get_or, Bool, true, ◌==◌, ◌||◌}
use Rattle.std.specs.List.{All}
use Rattle.rust_tree.specs.Symbol as tree
use Rattle.rust_tree.specs.Tree.{Tree, of_type}
use Rattle.rust_tree.specs.Nodes.{bytes_at, IsWithin}
use Rattle.rust_tree.specs.Layout.{ReadSymbol, trees_of}
use Rattle.rust_tree.specs.Fields.{Fields, fields, fields_of}
use Rattle.sym_core.specs.declared.Span.{Span}
use Rattle.rust_tree.specs.declared.tree_production.TheConstants.{NESTED, PUNYCODE_NESTED, BASIC, INTEGER}
use Rattle.rust_tree.specs.declared.view.Node.{Node}
use Rattle.rust_tree.specs.declared.view.NodeView.{NodeView}

abbrev pub fields_in : Option Tree → Fields
fields_in None = fields 0 0 0 [] []
fields_in (Some made) = fields_of made

-- the fields of the tree of a node
abbrev pub fields_at : ReadSymbol → (node : ℕ) → Fields
fields_at y node = fields_in (slice_get (trees_of y) node)

-- The view has these fields: the bytes of its spans are the texts, and it counts the parts.
pub record IsView (s : List ℕ) (view : Node) (given : Fields) : Type 0 where
  pub production : view.production ≡ given.production
  pub numbers : view.numbers ≡ given.numbers
  pub texts : map (bytes_at s) view.texts ≡ given.texts
  pub parts : view.parts ≡ length given.parts

-- the first number of these productions is a letter: that of a namespace or of a type
abbrev pub has_letter : (production : ℕ) → Bool
has_letter production = (production == NESTED) || ((production == PUNYCODE_NESTED) || ((production == BASIC) || (production == INTEGER)))

-- a letter is a byte
abbrev pub IsLettered : Node → Type 0
IsLettered view = has_letter view.production ≡ true → get_or view.numbers 0 0 < 256

-- Two views have the same production and numbers, texts of the same bytes, and equally many parts; the parts are equal one by
-- one.
pub record AreAlike (s t : List ℕ) (first second : Node) (one other : Tree) : Type 0 where
  pub production : first.production ≡ second.production
  pub numbers : first.numbers ≡ second.numbers
  pub texts : map (bytes_at s) first.texts ≡ map (bytes_at t) second.texts
  pub parts : first.parts ≡ second.parts
  pub equal : (k : ℕ) → k < first.parts → slice_get (fields_of one).parts k ≡ slice_get (fields_of other).parts k

-- no node denotes a path as a type: a path that is used as a type is the node of the path
abbrev pub HasNoPathType : List Tree → Type 0
HasNoPathType all = (k : ℕ) (path : tree.Path) → slice_get all k ≡ Some (of_type (tree.path_type path)) → ⊥

-- an empty span, which is in every symbol
abbrev pub no_text : Span
no_text = record { from = 0; to = 0 }

abbrev pub seen_of : (production : ℕ) → (numbers : List ℕ) → (text : Span) → (count : ℕ) → (parts : List ℕ) → NodeView
seen_of production numbers text count parts =
    record { node = record { production = production; numbers = numbers; texts = text ∷ no_text ∷ []; parts = count }; parts = parts }

-- What is seen of a node over the trees of the nodes before it: its view, whose texts are within the symbol, and its parts.
pub record IsSeen (s : List ℕ) (before : List Tree) (seen : NodeView) (given : Fields) : Type 0 where
  pub view : IsView s seen.node given
  pub within : All (λ text. IsWithin text s) seen.node.texts
  pub few : seen.node.parts ≤ 3
  pub long : length seen.parts ≡ 3
  pub parts : map (slice_get before) (take seen.node.parts seen.parts) ≡ map Some given.parts
