-- The code's items as items of trees, and their parts.
use Rattle.sym_core.specs.declared.TheConstants.{MOST_BYTES}
use Rattle.std.specs.Prelude.{◌≡◌, ℕ, ◌<◌, ◌≤◌, ◌+◌, ◌-◌, ◌*◌, List, [], ◌∷◌, take, drop, length, Bool, true, false, cond, nat_eq}
use Rattle.sym_print.specs.declared.layout.Item.{Item}
use Rattle.sym_print.specs.declared.layout.Part.{Part}
use Rattle.sym_print.specs.declared.layout.Part.TheVariants as part
use Rattle.sym_print.specs.declared.detail.Detail.{Detail}
use Rattle.sym_print.specs.Unshared.{Unshared}
use Rattle.sym_print.specs.Unfold.{PartOf, text, printed_parts, printed}
use Rattle.sym_print.specs.Stacked.{Stacked}
use Rattle.sym_print.specs.Held.{Held}
use Rattle.cpp_term.specs.Term as term
use Rattle.cpp_term.specs.Term.{Term}
use Rattle.cpp_grammar.specs.Answer as answer
use Rattle.cpp_grammar.specs.Items as heads
use Rattle.cpp_term.specs.Items as items
use Rattle.cpp_grammar.specs.Term as plain
use Rattle.cpp_grammar.specs.Term.{Qualifiers}
use Rattle.cpp_grammar.specs.Parts.{blank_last, qualifier_text}
use Rattle.cpp_term.specs.Parts.{not_empty, own_piece, text_part, says, parts}
use Rattle.cpp_term.specs.Ranks.{rank}
use Rattle.cpp_term.specs.Erased.{erase, CarriesArguments}
use Rattle.cpp_tree.specs.declared.node.Node.{Node}
use Rattle.cpp_tree.specs.declared.node.Piece.{Piece}
use Rattle.cpp_layout.specs.declared.context.Context.{Context}
use Rattle.cpp_tree.specs.Nodes.{Stored, Table, over, trees, tree_at, tree_of, piece_of, tree_if_there, under_kept, bytes_at, IsWithin, IsAliasBelow, IsTable}
use Rattle.cpp_term.specs.Reargued.{reargued}
use Rattle.cpp_layout.specs.Texts.{fixed_text}
use Rattle.cpp_layout.specs.Pointers.{run_text}

-- a symbol that was read: its bytes, its nodes, the node of the whole, and how many rows and steps reading took
pub record ReadSymbol : Type 0 where
  pub bytes : List ℕ
  pub table : Stored
  pub root : ℕ
  pub rows : ℕ
  pub steps : ℕ

-- the table of a symbol that was read
abbrev pub table_of : ReadSymbol → Table
table_of y = over y.bytes y.table

-- What holds of each symbol that was read: its nodes are a table; the root is the node of the whole; each free parameter of the
-- whole carries its argument; there are at most as many thunks as nodes; and each count is within its bound.
pub record IsRead (y : ReadSymbol) : Type 0 where
  pub table : IsTable (table_of y)
  pub root : y.root < length y.table.nodes
  pub whole : (encoding : Term) × (suffix : List ℕ) × (tree_at (trees (table_of y)) y.root ≡ term.symbol encoding suffix)
  pub carries : CarriesArguments (tree_at (trees (table_of y)) y.root)
  pub fits : length y.bytes ≤ MOST_BYTES
  pub rows : y.rows ≤ 4 * length y.bytes + 4
  pub nodes : length y.table.nodes ≤ 2 * length y.bytes + 8
  pub thunks : length y.table.thunks ≤ length y.table.nodes
  pub steps : y.steps ≤ 32 * length y.bytes + 48
  pub counted : y.rows ≤ y.steps

-- the forms by their numbers
abbrev pub form_of : (form at : ℕ) → heads.Form
form_of form at =
    cond (nat_eq form 0) heads.left (cond (nat_eq form 1) heads.right (cond (nat_eq form 2) heads.first (cond (nat_eq form 3) heads.more
    (cond (nat_eq form 4) heads.low (cond (nat_eq form 5) heads.base (cond (nat_eq form 6) heads.piece (cond (nat_eq form 7) heads.full
    (cond (nat_eq form 8) heads.bare (cond (nat_eq form 9) heads.root (cond (nat_eq form 11) (heads.declared at) (heads.expand at)))))))))))

abbrev pub tree_in : (form : ℕ) → Term → Term
tree_in form t = cond (nat_eq form 6) (own_piece t) t

abbrev pub context_of : Context → items.Context
context_of c = record { index = c.index }

-- a tree as it is shown: each of its free parameters carries the context's argument, if there is one
abbrev pub shown_in : List Term → Context → Term → Term
shown_in ts c t = reargued (tree_if_there ts c.argument) t

abbrev pub printed_tree : ReadSymbol → Context → (node : ℕ) → Term
printed_tree y c node = shown_in (trees (table_of y)) c (tree_at (trees (table_of y)) node)

-- a type of an encoding, re-read under the argument that the word `under` names, if it names one
abbrev pub type_shown : ReadSymbol → (under node : ℕ) → Term
type_shown y under node = reargued (tree_if_there (trees (table_of y)) (under_kept under)) (tree_at (trees (table_of y)) node)

abbrev pub node_shown : ReadSymbol → Context → Node → Term
node_shown y c n = shown_in (trees (table_of y)) c (tree_of y.bytes y.table.thunks (trees (table_of y)) n)

abbrev pub piece_shown : ReadSymbol → Context → Piece → Term
piece_shown y c p = shown_in (trees (table_of y)) c (piece_of y.bytes (trees (table_of y)) p)

-- the code's item as an item of trees
abbrev pub item_in : List Term → (node form at : ℕ) → Context → items.Item
item_in ts node form at c = record { tree = tree_in form (shown_in ts c (tree_at ts node)); form = form_of form at; context = context_of c }

abbrev pub item_of : Table → Item Context → items.Item
item_of y i = item_in (trees y) i.node i.form i.at i.ctx

abbrev pub bytes_of : Table → Part Context → List ℕ
bytes_of y (part.Sub i) = []
bytes_of y (part.Symbol span) = bytes_at y.bytes span
bytes_of y (part.List span) = take (span.to - span.from) (drop span.from run_text)
bytes_of y (part.Fixed number) = fixed_text number
bytes_of y (part.Own bytes count) = take count bytes

abbrev pub MayCome : Table → Part Context → Type 0
MayCome y (part.Sub i) = (i.node < length y.nodes) × IsAliasBelow (length y.nodes) i.ctx.argument
MayCome y (part.Symbol span) = IsWithin span y.bytes × (span.from < span.to)
MayCome y (part.List span) = (span.from < span.to) × (span.to ≤ length run_text)
MayCome y (part.Fixed number) = 0 < length (fixed_text number)
MayCome y (part.Own bytes count) = (0 < count) × (count ≤ 24) × (length bytes ≡ 24)

-- the part has these bytes of its own
abbrev pub IsOwn : Part Context → List ℕ → Type 0
IsOwn (part.Own bytes count) own = (take count bytes ≡ own) × (count ≡ length own) × (length bytes ≡ 24)
IsOwn _ own = ⊥

-- ## What the cases of the code push

-- an item, and one of two texts after it, by a test
abbrev pub marked : Bool → PartOf items.Item → (if_so if_not : List ℕ) → List (PartOf items.Item)
marked true i if_so if_not = i ∷ text if_so ∷ []
marked false i if_so if_not = i ∷ text if_not ∷ []

-- one item by itself, or other parts, by a test
abbrev pub referred : Bool → (whole : PartOf items.Item) → List (PartOf items.Item) → List (PartOf items.Item)
referred true whole others = whole ∷ []
referred false whole others = others

-- a text before the others, by a test
abbrev pub text_if : Bool → List ℕ → List (PartOf items.Item) → List (PartOf items.Item)
text_if true t others = text t ∷ others
text_if false t others = others

-- the qualifiers after a type: none after a reference, and with the blank last before a bracket
abbrev pub qualifiers_behind : (reference function : Bool) → Qualifiers → List (PartOf items.Item)
qualifiers_behind true function q = []
qualifiers_behind false true q = text_part (blank_last (qualifier_text q))
qualifiers_behind false false q = text_part (qualifier_text q)

-- the suffix of a clone in parentheses, if there is one
abbrev pub clone_suffix : List ℕ → List (PartOf items.Item)
clone_suffix [] = []
clone_suffix (b ∷ bs) = says " (" ∷ text (b ∷ bs) ∷ says ")" ∷ []

-- a piece that is no source name
abbrev pub IsNoSource : Piece → Type 0
IsNoSource (Piece.Source internal bytes) = ⊥
IsNoSource _ = Unit {0}

-- Generated by tools/trees.py. The node is no name
abbrev pub IsNoName : Node → Type 0
IsNoName (Node.Alone p) = ⊥
IsNoName (Node.InStd p) = ⊥
IsNoName (Node.Within prefix p) = ⊥
IsNoName (Node.Instance template arguments) = ⊥
IsNoName (Node.Local e entity d) = ⊥
IsNoName (Node.Holder name) = ⊥
IsNoName (Node.Tagged of_structor name tag) = ⊥
IsNoName (Node.Abbreviation letter) = ⊥
IsNoName (Node.Parameter k a) = ⊥
IsNoName (Node.Reargued t a) = ⊥
IsNoName _ = Unit {0}

-- Generated by tools/trees.py. The node is no type
abbrev pub IsNoType : Node → Type 0
IsNoType (Node.Alone p) = ⊥
IsNoType (Node.InStd p) = ⊥
IsNoType (Node.Within prefix p) = ⊥
IsNoType (Node.Instance template arguments) = ⊥
IsNoType (Node.Local e entity d) = ⊥
IsNoType (Node.Holder name) = ⊥
IsNoType (Node.Tagged of_structor name tag) = ⊥
IsNoType (Node.Abbreviation letter) = ⊥
IsNoType (Node.Parameter k a) = ⊥
IsNoType (Node.Builtin letter) = ⊥
IsNoType (Node.BuiltinWithD letter) = ⊥
IsNoType (Node.Vendor bytes) = ⊥
IsNoType (Node.Pointer t) = ⊥
IsNoType (Node.Lvalue t) = ⊥
IsNoType (Node.Rvalue t) = ⊥
IsNoType (Node.Array digits t) = ⊥
IsNoType (Node.Bounded bound t) = ⊥
IsNoType (Node.FunctionType c n m returned parameters) = ⊥
IsNoType (Node.MemberPointer class t) = ⊥
IsNoType (Node.Qualified q t) = ⊥
IsNoType (Node.Vector digits t) = ⊥
IsNoType (Node.Complex t) = ⊥
IsNoType (Node.SizedFloat digits end) = ⊥
IsNoType (Node.Constrained letter concept) = ⊥
IsNoType (Node.Reargued t a) = ⊥
IsNoType _ = Unit {0}

-- ## A symbol as a layout

-- what an item prints, with nothing shared
abbrev pub unshared_of : ReadSymbol → Item Context → Unshared
unshared_of y i = printed (parts i.ctx.detail) rank (item_of (table_of y) i)

-- the bytes of a part that is no item
abbrev pub bytes_of_part : ReadSymbol → Part Context → List ℕ
bytes_of_part y p = bytes_of (table_of y) p

-- the parts that the layout may be asked for
abbrev pub MayBeAsked : ReadSymbol → Part Context → Type 0
MayBeAsked y p = IsTable (table_of y) × MayCome (table_of y) p

-- the tree of a symbol that was read, where a parameter is only its number
abbrev pub whole_of : ReadSymbol → plain.Term
whole_of y = erase (tree_at (trees (table_of y)) y.root)

-- what a symbol prints
abbrev pub shown_symbol : Detail → ReadSymbol → Unshared
shown_symbol detail y = answer.shown detail (answer.root_item (whole_of y))

-- ## Lists of parts

-- what parts print in a detail
abbrev pub shown : Detail → List (PartOf items.Item) → Unshared
shown d others = printed_parts (printed (parts d) rank) (not_empty others)

-- A list holds these parts above `below`, the first one last; they may be asked for, and the list's capacity is unchanged.
pub record Shows (y : ReadSymbol) (d : Detail) (below held : Held Context) (others : List (PartOf items.Item)) : Type 0 where
  pub stacked : Stacked (unshared_of y) (bytes_of_part y) (MayCome (table_of y)) below.items held.items (shown d others)
  pub capacity : held.capacity ≡ below.capacity
