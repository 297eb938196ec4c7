-- The trees that nodes denote.
use Rattle.std.specs.Prelude.{◌≡◌, ℕ, zero, suc, ◌<◌, ◌≤◌, ◌-◌, ◌+◌, List, [], ◌∷◌, ◌++◌, length, get_or, slice_get, slice_range, Bool, true, false, Option, None, Some}
use Rattle.std.specs.List.{All}
use Rattle.sym_core.specs.declared.Span.{Span}
use Rattle.cpp_grammar.specs.Term as values
use Rattle.cpp_grammar.specs.Items as heads
use Rattle.cpp_grammar.specs.Scope as scope
use Rattle.cpp_term.specs.Term as term
use Rattle.cpp_term.specs.Term.{Term}
use Rattle.cpp_term.specs.Scope.{pack_length, free_in, arguments_of, without_tags, has_return_type, count, element, has_pack}
use Rattle.cpp_term.specs.Items as items
use Rattle.cpp_term.specs.Reargued as again
use Rattle.cpp_term.specs.Reargued.{reargued, given_alone, bare, head_from, is_empty_with}
use Rattle.cpp_tree.specs.declared.node.Qualifiers.{Qualifiers}
use Rattle.cpp_tree.specs.declared.node.Mark.{Mark}
use Rattle.cpp_tree.specs.declared.node.Signed.{Signed}
use Rattle.cpp_tree.specs.declared.node.Adjustment.{Adjustment}
use Rattle.cpp_tree.specs.declared.node.Thunk.{Thunk}
use Rattle.cpp_tree.specs.declared.node.Piece.{Piece}
use Rattle.cpp_tree.specs.declared.node.Node.{Node}
use Rattle.cpp_tree.specs.declared.node.Head.{Head}
use Rattle.cpp_tree.specs.declared.node.Placed.{Placed}
use Rattle.cpp_tree.specs.declared.node.HeadClass.{HeadClass}
use Rattle.cpp_tree.specs.declared.node.HeadFrom.{HeadFrom}
use Rattle.cpp_tree.specs.declared.node.Free.{Free}
use Rattle.cpp_tree.specs.declared.node.ByArgument.{ByArgument}
use Rattle.cpp_tree.specs.declared.node.Entry.{Entry}

-- what is stored: the nodes, and what thunks adjust; how many of each fit without taking memory; and the highest number
-- of each at the times when the table was begun again
pub record Stored : Type 0 where
  pub nodes : List Entry
  pub thunks : List Thunk
  pub node_room : ℕ
  pub thunk_room : ℕ
  pub most : ℕ
  pub most_thunks : ℕ

-- a table: what is stored, and the bytes of its symbol
pub record Table : Type 0 where
  pub bytes : List ℕ
  pub nodes : List Entry
  pub thunks : List Thunk

abbrev pub over : (bytes : List ℕ) → Stored → Table
over bytes stored = record { bytes = bytes; nodes = stored.nodes; thunks = stored.thunks }

abbrev pub tree_at : List Term → ℕ → Term
tree_at ts i = get_or ts i term.absent

-- ## Values

abbrev pub bytes_at : List ℕ → Span → List ℕ
bytes_at s span = slice_range s span.from span.to

abbrev pub IsWithin : Span → List ℕ → Type 0
IsWithin span s = (span.from ≤ span.to) × (span.to ≤ length s)

abbrev pub qualifiers_of : Qualifiers → values.Qualifiers
qualifiers_of q = record { restrict = q.restrict; volatile = q.volatile; const = q.const_ }

abbrev pub mark_of : Mark → values.RefQualifier
mark_of Mark.Any = values.any_value
mark_of Mark.Lvalue = values.lvalue_only
mark_of Mark.Rvalue = values.rvalue_only
mark_of Mark.ExplicitObject = values.explicit_object

abbrev pub signed_of : List ℕ → Signed → values.Signed
signed_of s n = record { negative = n.negative; digits = bytes_at s n.digits }

unfoldable pub adjustment_of : List ℕ → Adjustment → values.Adjustment
adjustment_of s (Adjustment.NonVirtual n) = values.non_virtual (signed_of s n)
adjustment_of s (Adjustment.ByTable m n) = values.by_table (signed_of s m) (signed_of s n)

unfoldable pub thunk_of : List ℕ → Option Thunk → values.Thunk
thunk_of s (Some (Thunk.Adjusting a)) = values.adjusting (adjustment_of s a)
thunk_of s (Some (Thunk.Covariant a b)) = values.covariant (adjustment_of s a) (adjustment_of s b)
thunk_of s None = values.adjusting (values.non_virtual (record { negative = false; digits = [] }))

abbrev pub discriminator_of : List ℕ → Option Span → Option (List ℕ)
discriminator_of s None = None
discriminator_of s (Some digits) = Some (bytes_at s digits)

-- ## Trees

-- the tree of a node, if one is given
unfoldable pub tree_if_there : List Term → Option ℕ → Option Term
tree_if_there ts None = None
tree_if_there ts (Some i) = Some (tree_at ts i)

-- the node that a word denotes: the word is the node's number plus one, or 0 for no node
unfoldable pub under_kept : ℕ → Option ℕ
under_kept zero = None
under_kept (suc n) = Some n

unfoldable pub piece_of : List ℕ → List Term → Piece → Term
piece_of s ts (Piece.Source internal bytes) = term.source internal (bytes_at s bytes)
piece_of s ts (Piece.Operator first second) = term.operator first second
piece_of s ts (Piece.LiteralOperator bytes) = term.literal_operator (bytes_at s bytes)
piece_of s ts (Piece.Constructor digit) = term.constructor digit
piece_of s ts (Piece.Destructor digit) = term.destructor digit
piece_of s ts (Piece.Inheriting digit base) = term.inheriting digit (tree_at ts base)
piece_of s ts (Piece.Lambda parameters number) = term.lambda (tree_at ts parameters) number
piece_of s ts (Piece.GenericLambda parameters number) = term.generic_lambda (tree_at ts parameters) number
piece_of s ts (Piece.Unnamed number) = term.unnamed number
piece_of s ts Piece.StringLiteral = term.string_literal
piece_of s ts (Piece.Conversion t) = term.conversion (tree_at ts t)
piece_of s ts (Piece.Enumeration t name) = term.enumeration (tree_at ts t) (bytes_at s name)
piece_of s ts (Piece.Bindings names) = term.bindings (tree_at ts names)
piece_of s ts Piece.Absent = term.absent

-- Generated by tools/trees.py.
unfoldable pub tree_of : List ℕ → List Thunk → List Term → Node → Term
tree_of s us ts Node.Absent = term.absent
tree_of s us ts Node.Nil = term.nil
tree_of s us ts (Node.Function name q m returned parameters under) = term.function (tree_at ts name) (qualifiers_of q) (mark_of m) (reargued (tree_if_there ts (under_kept under)) (tree_at ts returned)) (reargued (tree_if_there ts (under_kept under)) (tree_at ts parameters))
tree_of s us ts (Node.Object name q m) = term.object (tree_at ts name) (qualifiers_of q) (mark_of m)
tree_of s us ts (Node.Special letter t) = term.special letter (tree_at ts t)
tree_of s us ts (Node.Thunk u e) = term.thunk (thunk_of s (slice_get us u)) (tree_at ts e)
tree_of s us ts (Node.OfName letter name q m) = term.of_name letter (tree_at ts name) (qualifiers_of q) (mark_of m)
tree_of s us ts (Node.Construction derived digits parent) = term.construction (tree_at ts derived) (bytes_at s digits) (tree_at ts parent)
tree_of s us ts (Node.CloneOf letter e) = term.clone letter (tree_at ts e)
tree_of s us ts (Node.Alone p) = term.alone (piece_of s ts p)
tree_of s us ts (Node.InStd p) = term.in_std (piece_of s ts p)
tree_of s us ts (Node.Within prefix p) = term.within (tree_at ts prefix) (piece_of s ts p)
tree_of s us ts (Node.Instance template arguments) = term.instance (tree_at ts template) (tree_at ts arguments)
tree_of s us ts (Node.Local e entity d) = term.local (tree_at ts e) (tree_at ts entity) (discriminator_of s d)
tree_of s us ts (Node.Holder name) = term.holder (tree_at ts name)
tree_of s us ts (Node.Tagged of_structor name tag) = term.tagged of_structor (tree_at ts name) (bytes_at s tag)
tree_of s us ts (Node.OfDefault digits entity) = term.of_default (bytes_at s digits) (tree_at ts entity)
tree_of s us ts (Node.Abbreviation letter) = term.abbreviation letter
tree_of s us ts (Node.Parameter k a) = term.parameter k (tree_at ts a)
tree_of s us ts (Node.Declaring heads parameters) = term.declaring (tree_at ts heads) (tree_at ts parameters)
tree_of s us ts (Node.Builtin letter) = term.builtin (letter ∷ [])
tree_of s us ts (Node.BuiltinWithD letter) = term.builtin (68 ∷ letter ∷ [])
tree_of s us ts (Node.SizedFloat digits end) = term.sized_float (bytes_at s digits) end
tree_of s us ts (Node.Constrained letter concept) = term.constrained letter (tree_at ts concept)
tree_of s us ts (Node.Vendor bytes) = term.vendor (bytes_at s bytes)
tree_of s us ts (Node.Pointer t) = term.pointer (tree_at ts t)
tree_of s us ts (Node.Lvalue t) = term.lvalue (tree_at ts t)
tree_of s us ts (Node.Rvalue t) = term.rvalue (tree_at ts t)
tree_of s us ts (Node.Array digits t) = term.array (bytes_at s digits) (tree_at ts t)
tree_of s us ts (Node.Bounded bound t) = term.bounded (tree_at ts bound) (tree_at ts t)
tree_of s us ts (Node.MemberPointer class t) = term.member_pointer (tree_at ts class) (tree_at ts t)
tree_of s us ts (Node.FunctionType c n m returned parameters) = term.function_type c n (mark_of m) (tree_at ts returned) (tree_at ts parameters)
tree_of s us ts (Node.Qualified q t) = term.qualified (qualifiers_of q) (tree_at ts t)
tree_of s us ts (Node.Vector digits t) = term.vector (bytes_at s digits) (tree_at ts t)
tree_of s us ts (Node.Complex t) = term.complex (tree_at ts t)
tree_of s us ts (Node.Decltype operand) = term.decltype (tree_at ts operand)
tree_of s us ts (Node.Expansion pattern) = term.expansion (tree_at ts pattern)
tree_of s us ts (Node.Integer t n) = term.integer (tree_at ts t) (signed_of s n)
tree_of s us ts (Node.Boolean b) = term.boolean b
tree_of s us ts Node.NullPointer = term.null_pointer
tree_of s us ts (Node.EncodingLiteral e) = term.encoding_literal (tree_at ts e)
tree_of s us ts (Node.AddressOf e) = term.address_of (tree_at ts e)
tree_of s us ts (Node.Operation one two u w) = term.operation one two (tree_at ts u) (tree_at ts w)
tree_of s us ts (Node.FunctionParameter digits) = term.function_parameter (bytes_at s digits)
tree_of s us ts (Node.Pack elements) = term.pack (tree_at ts elements)
tree_of s us ts (Node.Cell first rest) = term.list (tree_at ts first) (tree_at ts rest)
tree_of s us ts (Node.Whole e suffix) = term.symbol (tree_at ts e) (bytes_at s suffix)
tree_of s us ts (Node.Reargued t a) = reargued (Some (tree_at ts a)) (tree_at ts t)

unfoldable pub trees_onto : List ℕ → List Thunk → List Term → List Entry → List Term
trees_onto s us ts [] = ts
trees_onto s us ts (e ∷ es) = trees_onto s us (ts ++ tree_of s us ts e.node ∷ []) es

abbrev pub trees : Table → List Term
trees y = trees_onto y.bytes y.thunks [] y.nodes

-- ## What nodes are

-- Generated by tools/trees.py.
unfoldable pub is_encoding : Node → Bool
is_encoding (Node.Function name q m returned parameters under) = true
is_encoding (Node.Object name q m) = true
is_encoding (Node.Special letter t) = true
is_encoding (Node.Thunk u e) = true
is_encoding (Node.OfName letter name q m) = true
is_encoding (Node.Construction derived digits parent) = true
is_encoding (Node.CloneOf letter e) = true
is_encoding _ = false

-- ## What nodes are made of

abbrev pub IsPieceBelow : List ℕ → ℕ → Piece → Type 0
IsPieceBelow s n (Piece.Source internal bytes) = IsWithin bytes s
IsPieceBelow s n (Piece.LiteralOperator bytes) = IsWithin bytes s
IsPieceBelow s n (Piece.Inheriting digit base) = base < n
IsPieceBelow s n (Piece.Lambda parameters number) = parameters < n
IsPieceBelow s n (Piece.GenericLambda parameters number) = parameters < n
IsPieceBelow s n (Piece.Conversion t) = t < n
IsPieceBelow s n (Piece.Enumeration t name) = (t < n) × IsWithin name s
IsPieceBelow s n (Piece.Bindings names) = names < n
IsPieceBelow s n _ = Unit {0}

abbrev pub IsAliasBelow : ℕ → Option ℕ → Type 0
IsAliasBelow n None = Unit {0}
IsAliasBelow n (Some i) = i < n

abbrev pub IsSpan : List ℕ → Option Span → Type 0
IsSpan s None = Unit {0}
IsSpan s (Some span) = IsWithin span s

-- Generated by tools/trees.py. A node is made of earlier ones and of bytes of the symbol
abbrev pub IsBelow : List ℕ → (held n : ℕ) → Node → Type 0
IsBelow s held n (Node.Function name q m returned parameters under) = (name < n) × (returned < n) × (parameters < n) × IsAliasBelow n (under_kept under)
IsBelow s held n (Node.Object name q m) = name < n
IsBelow s held n (Node.Special letter t) = t < n
IsBelow s held n (Node.Thunk u e) = (u < held) × (e < n)
IsBelow s held n (Node.OfName letter name q m) = name < n
IsBelow s held n (Node.Construction derived digits parent) = (derived < n) × IsWithin digits s × (parent < n)
IsBelow s held n (Node.CloneOf letter e) = e < n
IsBelow s held n (Node.Alone p) = IsPieceBelow s n p
IsBelow s held n (Node.InStd p) = IsPieceBelow s n p
IsBelow s held n (Node.Within prefix p) = (prefix < n) × IsPieceBelow s n p
IsBelow s held n (Node.Instance template arguments) = (template < n) × (arguments < n)
IsBelow s held n (Node.Local e entity d) = (e < n) × (entity < n) × IsSpan s d
IsBelow s held n (Node.Holder name) = name < n
IsBelow s held n (Node.Tagged of_structor name tag) = (name < n) × IsWithin tag s
IsBelow s held n (Node.OfDefault digits entity) = IsWithin digits s × (entity < n)
IsBelow s held n (Node.Parameter k a) = a < n
IsBelow s held n (Node.Declaring heads parameters) = (heads < n) × (parameters < n)
IsBelow s held n (Node.SizedFloat digits end) = IsWithin digits s
IsBelow s held n (Node.Constrained letter concept) = concept < n
IsBelow s held n (Node.Vendor bytes) = IsWithin bytes s
IsBelow s held n (Node.Pointer t) = t < n
IsBelow s held n (Node.Lvalue t) = t < n
IsBelow s held n (Node.Rvalue t) = t < n
IsBelow s held n (Node.Array digits t) = IsWithin digits s × (t < n)
IsBelow s held n (Node.Bounded bound t) = (bound < n) × (t < n)
IsBelow s held n (Node.MemberPointer class t) = (class < n) × (t < n)
IsBelow s held n (Node.FunctionType c e m returned parameters) = (returned < n) × (parameters < n)
IsBelow s held n (Node.Qualified q t) = t < n
IsBelow s held n (Node.Vector digits t) = IsWithin digits s × (t < n)
IsBelow s held n (Node.Complex t) = t < n
IsBelow s held n (Node.Decltype operand) = operand < n
IsBelow s held n (Node.Expansion pattern) = pattern < n
IsBelow s held n (Node.Integer t v) = (t < n) × IsWithin v.digits s
IsBelow s held n (Node.EncodingLiteral e) = e < n
IsBelow s held n (Node.AddressOf e) = e < n
IsBelow s held n (Node.Operation one two u w) = (u < n) × (w < n)
IsBelow s held n (Node.FunctionParameter digits) = IsWithin digits s
IsBelow s held n (Node.Pack elements) = elements < n
IsBelow s held n (Node.Cell first rest) = (first < n) × (rest < n)
IsBelow s held n (Node.Whole e suffix) = (e < n) × IsWithin suffix s
IsBelow s held n (Node.Reargued t a) = (t < n) × (a < n)
IsBelow s held n _ = Unit {0}

abbrev pub IsAdjustmentWithin : List ℕ → Adjustment → Type 0
IsAdjustmentWithin s (Adjustment.NonVirtual n) = IsWithin n.digits s
IsAdjustmentWithin s (Adjustment.ByTable m n) = IsWithin m.digits s × IsWithin n.digits s

abbrev pub IsThunkWithin : List ℕ → Thunk → Type 0
IsThunkWithin s (Thunk.Adjusting a) = IsAdjustmentWithin s a
IsThunkWithin s (Thunk.Covariant a b) = IsAdjustmentWithin s a × IsAdjustmentWithin s b

-- ## What is noted of a tree

unfoldable pub free_is : Free → scope.Free
free_is Free.None = scope.none_free
free_is (Free.One k) = scope.one_free k
free_is (Free.Several m) = scope.several_free m

-- whether some parameters are free
unfoldable pub has_free : scope.Free → Bool
has_free scope.none_free = false
has_free _ = true

unfoldable pub head_of : Head → heads.Head
head_of Head.Plain = heads.plain_head
head_of Head.FunctionOrArray = heads.funarr
head_of Head.Lvalue = heads.lref
head_of Head.Rvalue = heads.rref

unfoldable pub tree_under : List Term → Placed → Term
tree_under ts p = reargued (tree_if_there ts p.under) (tree_at ts p.node)

unfoldable pub class_is : List Term → HeadClass → items.HeadClass
class_is ts (HeadClass.Known h) = items.known (head_of h)
class_is ts (HeadClass.OfElement elements) = items.of_element (tree_under ts elements)
class_is ts (HeadClass.CollapsedOfElement elements) = items.collapsed_of_element (tree_under ts elements)

abbrev pub IsPlacedBelow : ℕ → Placed → Type 0
IsPlacedBelow n p = (p.node < n) × IsAliasBelow n p.under

abbrev pub IsClassBelow : ℕ → HeadClass → Type 0
IsClassBelow n (HeadClass.Known h) = Unit {0}
IsClassBelow n (HeadClass.OfElement elements) = IsPlacedBelow n elements
IsClassBelow n (HeadClass.CollapsedOfElement elements) = IsPlacedBelow n elements

unfoldable pub placed_if_there : List Term → Option Placed → Option Term
placed_if_there ts None = None
placed_if_there ts (Some a) = Some (tree_under ts a)

abbrev pub IsPlacedThere : ℕ → Option Placed → Type 0
IsPlacedThere n None = Unit {0}
IsPlacedThere n (Some a) = IsPlacedBelow n a

-- the tree of a name without its tags: its own where none are noted
unfoldable pub untagged_is : List Term → Term → Option Placed → Term
untagged_is ts t None = t
untagged_is ts t (Some p) = tree_under ts p

unfoldable pub head_noted : again.HeadFrom → HeadFrom
head_noted again.of_its_own = HeadFrom.Own
head_noted again.of_argument = HeadFrom.Argument
head_noted again.collapsed_of_argument = HeadFrom.Collapsed

-- how a tree depends on another argument
unfoldable pub by_argument_of : Term → ByArgument
by_argument_of t = record { is_bare = bare t; head = head_noted (head_from t); empty_with = is_empty_with true t; empty_without = is_empty_with false t }

-- nothing in a tree depends on another argument
abbrev pub by_none : Bool → ByArgument
by_none empty = record { is_bare = false; head = HeadFrom.Own; empty_with = empty; empty_without = empty }

unfoldable pub is_again : Node → Bool
is_again (Node.Reargued t a) = true
is_again _ = false

-- the entry of a node; past the last node, that of the absent tree
abbrev pub entry_at : List Entry → ℕ → Entry
entry_at es i = get_or es i (record { node = Node.Absent; packs = None; free = Free.None; is_empty = false; by_argument = by_none false; class = HeadClass.Known Head.Plain; arguments = None; untagged = None; returns = false; count = 0; run = 0; has_pack = false })

-- the tree of an alias isn't an alias itself
abbrev pub IsFlat : List Entry → Node → Type 0
IsFlat es (Node.Reargued t a) = is_again (entry_at es t).node ≡ false
IsFlat es _ = Unit {0}

-- if a tree's head is that of its one parameter, the given argument is that parameter's own, not a list
abbrev pub IsLone : (given t : Term) → Type 0
IsLone a t = (head_from t ≡ again.of_its_own → ⊥) → given_alone a (free_in t) ≡ a

abbrev pub IsSettled : List Term → Node → Type 0
IsSettled ts (Node.Reargued t a) = IsLone (tree_at ts a) (tree_at ts t)
IsSettled ts _ = Unit {0}

-- What holds of the node at a place: all that is noted follows from its tree. A cell's run is how many nodes right before the
-- cell are the later cells of its list, so that an element is found by a subtraction.
pub record IsEntry (y : Table) (ts : List Term) (i : ℕ) (e : Entry) : Type 0 where
  pub built : tree_at ts i ≡ tree_of y.bytes y.thunks ts e.node
  pub below : IsBelow y.bytes (length y.thunks) i e.node
  pub packs : e.packs ≡ pack_length (tree_at ts i)
  pub free : free_is e.free ≡ free_in (tree_at ts i)
  pub empty : e.is_empty ≡ items.is_empty items.closed (tree_at ts i)
  pub by_argument : e.by_argument ≡ by_argument_of (tree_at ts i)
  pub flat : IsFlat y.nodes e.node
  pub class : class_is ts e.class ≡ items.class_of (tree_at ts i)
  pub class_below : IsClassBelow i e.class
  pub arguments : placed_if_there ts e.arguments ≡ arguments_of (tree_at ts i)
  pub arguments_below : IsPlacedThere i e.arguments
  pub untagged : untagged_is ts (tree_at ts i) e.untagged ≡ without_tags (tree_at ts i)
  pub untagged_below : IsPlacedThere i e.untagged
  pub returns : e.returns ≡ has_return_type (tree_at ts i)
  pub counted : e.count ≡ count (tree_at ts i)
  pub count_below : e.count ≤ i
  pub runs : (k n : ℕ) → k < e.run → element (tree_at ts i) (suc k + n) ≡ element (tree_at ts (i - suc k)) n
  pub run_below : e.run ≤ i
  pub pack_told : e.has_pack ≡ has_pack (tree_at ts i)

-- The first four nodes are the absent tree, the empty list, the empty pack, and the builtin type auto.
pub record IsTable (y : Table) : Type 0 where
  pub fixed : 3 < length y.nodes
  pub no_tree : tree_at (trees y) 0 ≡ term.absent
  pub no_list : tree_at (trees y) 1 ≡ term.nil
  pub no_elements : tree_at (trees y) 2 ≡ term.pack term.nil
  pub auto : tree_at (trees y) 3 ≡ items.auto
  pub adjusting : All (IsThunkWithin y.bytes) y.thunks
  pub many : length (trees y) ≡ length y.nodes
  pub each : (i : ℕ) → i < length y.nodes → IsEntry y (trees y) i (entry_at y.nodes i)

-- ## One more node

-- The node is made of existing ones, and what is noted of it holds of its tree.
pub record IsNoted (y : Table) (e : Entry) : Type 0 where
  pub below : IsBelow y.bytes (length y.thunks) (length y.nodes) e.node
  pub packs : e.packs ≡ pack_length (tree_of y.bytes y.thunks (trees y) e.node)
  pub free : free_is e.free ≡ free_in (tree_of y.bytes y.thunks (trees y) e.node)
  pub empty : e.is_empty ≡ items.is_empty items.closed (tree_of y.bytes y.thunks (trees y) e.node)
  pub by_argument : e.by_argument ≡ by_argument_of (tree_of y.bytes y.thunks (trees y) e.node)
  pub flat : IsFlat y.nodes e.node
  pub class : class_is (trees y) e.class ≡ items.class_of (tree_of y.bytes y.thunks (trees y) e.node)
  pub class_below : IsClassBelow (length y.nodes) e.class
  pub arguments : placed_if_there (trees y) e.arguments ≡ arguments_of (tree_of y.bytes y.thunks (trees y) e.node)
  pub arguments_below : IsPlacedThere (length y.nodes) e.arguments
  pub untagged : untagged_is (trees y) (tree_of y.bytes y.thunks (trees y) e.node) e.untagged ≡ without_tags (tree_of y.bytes y.thunks (trees y) e.node)
  pub untagged_below : IsPlacedThere (length y.nodes) e.untagged
  pub returns : e.returns ≡ has_return_type (tree_of y.bytes y.thunks (trees y) e.node)
  pub counted : e.count ≡ count (tree_of y.bytes y.thunks (trees y) e.node)
  pub count_below : e.count ≤ length y.nodes
  pub runs : (k n : ℕ) → k < e.run → element (tree_of y.bytes y.thunks (trees y) e.node) (suc k + n) ≡ element (tree_at (trees y) (length y.nodes - suc k)) n
  pub run_below : e.run ≤ length y.nodes
  pub pack_told : e.has_pack ≡ has_pack (tree_of y.bytes y.thunks (trees y) e.node)

abbrev pub with_entry : Table → Entry → Table
with_entry y e = record { bytes = y.bytes; nodes = y.nodes ++ e ∷ []; thunks = y.thunks }

abbrev pub with_thunk : Table → Thunk → Table
with_thunk y u = record { bytes = y.bytes; nodes = y.nodes; thunks = y.thunks ++ u ∷ [] }
