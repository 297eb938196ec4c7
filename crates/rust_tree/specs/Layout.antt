-- What the items of a symbol's nodes print.
use Rattle.std.specs.Prelude.{◌≡◌, ℕ, ◌+◌, ◌-◌, ◌*◌, ◌<◌, ◌≤◌, ◌^◌, List, [], ◌∷◌, length, take, codes, Bool, true, false, ◌==◌, if◌then◌else◌, Option, Some, None, slice_get}
use Rattle.sym_print.specs.Unshared.{Unshared, done}
use Rattle.sym_print.specs.Building.{◌also◌}
use Rattle.sym_print.specs.Stacked.{Stacked}
use Rattle.sym_print.specs.Held.{Held}
use Rattle.sym_print.specs.declared.layout.Item.{Item}
use Rattle.sym_print.specs.declared.layout.Part.{Part}
use Rattle.sym_print.specs.declared.layout.Part.TheVariants as part
use Rattle.rust_tree.specs.declared.context.Context.{Context}
use Rattle.sym_print.specs.declared.detail.Detail.{Detail}
use Rattle.rust_tree.specs.declared.form.Form.{Form}
use Rattle.rust_tree.specs.Forms.{form_of}
use Rattle.rust_tree.specs.Texts.{fixed_text}
use Rattle.rust_tree.specs.Symbol as tree
use Rattle.rust_tree.specs.Tree.{Tree}
use Rattle.rust_tree.specs.Shown.{path_parts, type_parts, arguments_from, types_from, bounds_from, bound_parts, bindings_from, constant_parts, lifetime_parts, names_from, signature_parts, is_unit, symbol_parts}
use Rattle.rust_tree.specs.Nodes.{Table, trees, bytes_at, path_in, arguments_in, type_in, types_in, bounds_in, bindings_in, constant_in, symbol_in, IsPath, IsArguments, IsType, IsTypes, IsBounds, IsBindings, IsConstant, IsSymbol, IsWithin, most_bound}

-- a symbol that was read: its bytes, its nodes with the text list, the node of the whole, the rows of its shape and the steps
pub record ReadSymbol : Type 0 where
  pub bytes : List ℕ
  pub table : Table
  pub root : ℕ
  pub rows : ℕ
  pub steps : ℕ

-- the trees of a symbol's nodes
abbrev pub trees_of : ReadSymbol → List Tree
trees_of y = trees y.bytes y.table.nodes

-- an item that may be missing, as its parts
abbrev pub parts_in : Option Unshared → Unshared
parts_in None = done
parts_in (Some parts) = parts

-- the lifetime at the front of arguments
abbrev pub lifetime_in : tree.Arguments → ℕ
lifetime_in (tree.lifetime_argument lifetime rest) = lifetime
lifetime_in _ = 0

-- how many lifetimes the type binds
abbrev pub binder_in : tree.Ty → ℕ
binder_in (tree.function binder is_unsafe abi parameters returned) = binder
binder_in (tree.dyn binder _ lifetime) = binder
binder_in _ = 0

-- a function's type without its binder; the bound lifetimes include those of the binder
abbrev pub signature_in : Context → tree.Ty → Unshared
signature_in c (tree.function binder is_unsafe abi parameters returned) =
    signature_parts is_unsafe abi (types_from c.detail c.bound [] parameters) (is_unit returned) (type_parts c.detail c.bound returned)
signature_in c _ = done

-- the bound at the front of bounds
abbrev pub bound_in : Context → tree.Bounds → Unshared
bound_in c (tree.more_bounds path bindings rest) = bound_parts c.detail c.bound path bindings
bound_in c _ = done

-- the names of a binder's lifetimes from this one on
abbrev pub names_in : (bound at binder : ℕ) → Unshared
names_in bound at binder = parts_in (names_from (if at == 0 then [] else codes ", ") (bound + at) (binder - at))

-- what a node's tree prints in a form
abbrev pub shown : Form → Option Tree → (at : ℕ) → Context → Unshared
shown Form.Root t at c = symbol_parts c.detail (symbol_in t)
shown Form.ValuePath t at c = path_parts c.detail c.bound true (path_in t)
shown Form.PlainPath t at c = path_parts c.detail c.bound false (path_in t)
shown Form.Ty t at c = type_parts c.detail c.bound (type_in t)
shown Form.Constant t at c = constant_parts (constant_in t)
shown Form.FirstArgument t at c = parts_in (arguments_from c.detail c.bound [] (arguments_in t))
shown Form.MoreArguments t at c = parts_in (arguments_from c.detail c.bound (codes ", ") (arguments_in t))
shown Form.Lifetime t at c = lifetime_parts c.bound (lifetime_in (arguments_in t))
shown Form.FirstType t at c = parts_in (types_from c.detail c.bound [] (types_in t))
shown Form.MoreTypes t at c = parts_in (types_from c.detail c.bound (codes ", ") (types_in t))
shown Form.Signature t at c = signature_in c (type_in t)
shown Form.Names t at c = names_in c.bound at (binder_in (type_in t))
shown Form.FirstBound t at c = parts_in (bounds_from c.detail c.bound [] (bounds_in t))
shown Form.MoreBounds t at c = parts_in (bounds_from c.detail c.bound (codes " + ") (bounds_in t))
shown Form.Bound t at c = bound_in c (bounds_in t)
shown Form.FirstBinding t at c = parts_in (bindings_from c.detail c.bound [] (bindings_in t))
shown Form.MoreBindings t at c = parts_in (bindings_from c.detail c.bound (codes ", ") (bindings_in t))

-- what an item prints, with nothing shared
abbrev pub unshared_of : ReadSymbol → Item Context → Unshared
unshared_of y i = shown (form_of i.form) (slice_get (trees_of y) i.node) i.at i.ctx

-- the bytes of a part that is no item
abbrev pub bytes_of_part : ReadSymbol → Part Context → List ℕ
bytes_of_part y (part.Sub i) = []
bytes_of_part y (part.Symbol span) = bytes_at y.bytes span
bytes_of_part y (part.List span) = bytes_at y.table.text span
bytes_of_part y (part.Fixed number) = fixed_text number
bytes_of_part y (part.Own bytes count) = take count bytes

-- the node is of a sort that can be shown in the form
abbrev pub HasForm : List Tree → (node : ℕ) → Form → Type 0
HasForm all node Form.Root = (symbol : tree.Symbol) × IsSymbol all node symbol
HasForm all node Form.ValuePath = (path : tree.Path) × IsPath all node path
HasForm all node Form.PlainPath = (path : tree.Path) × IsPath all node path
HasForm all node Form.Ty = (type : tree.Ty) × IsType all node type
HasForm all node Form.Constant = (constant : tree.Constant) × IsConstant all node constant
HasForm all node Form.FirstArgument = (arguments : tree.Arguments) × IsArguments all node arguments
HasForm all node Form.MoreArguments = (arguments : tree.Arguments) × IsArguments all node arguments
HasForm all node Form.Lifetime = (arguments : tree.Arguments) × IsArguments all node arguments
HasForm all node Form.FirstType = (types : tree.Tys) × IsTypes all node types
HasForm all node Form.MoreTypes = (types : tree.Tys) × IsTypes all node types
HasForm all node Form.Signature = (type : tree.Ty) × IsType all node type
HasForm all node Form.Names = (type : tree.Ty) × IsType all node type
HasForm all node Form.FirstBound = (bounds : tree.Bounds) × IsBounds all node bounds
HasForm all node Form.MoreBounds = (bounds : tree.Bounds) × IsBounds all node bounds
HasForm all node Form.Bound = (bounds : tree.Bounds) × IsBounds all node bounds
HasForm all node Form.FirstBinding = (bindings : tree.Bindings) × IsBindings all node bindings
HasForm all node Form.MoreBindings = (bindings : tree.Bindings) × IsBindings all node bindings

-- Each node up to this one may bind 1000 lifetimes, and those of a signature are bound already. So the number of bound
-- lifetimes stays far below 64 bits.
abbrev pub levels : Form → (node : ℕ) → ℕ
levels Form.Signature node = node
levels _ node = node + 1

abbrev pub HasDepth : Form → (node bound : ℕ) → Type 0
HasDepth form node bound = bound + most_bound * levels form node ≤ most_bound * 2 ^ 32

-- the parts that the layout may be asked for
abbrev pub MayCome : ReadSymbol → Part Context → Type 0
MayCome y (part.Sub i) = HasForm (trees_of y) i.node (form_of i.form) × HasDepth (form_of i.form) i.node i.ctx.bound
MayCome y (part.Symbol span) = IsWithin span y.bytes × (span.from < span.to)
MayCome y (part.List span) = IsWithin span y.table.text × (span.from < span.to)
MayCome y (part.Fixed number) = 0 < length (fixed_text number)
MayCome y (part.Own bytes count) = (0 < count) × (count ≤ 24) × (length bytes ≡ 24)

-- ## Lists of parts

-- The parts above `below` in a list may be asked for, and print what is shown. The first part comes last in the list.
pub record Shows (y : ReadSymbol) (below held : Held Context) (shown : Unshared) : Type 0 where
  pub stacked : Stacked (unshared_of y) (bytes_of_part y) (MayCome y) below.items held.items shown
  pub capacity : held.capacity ≡ below.capacity

-- whether a list isn't empty
abbrev pub any_arguments : tree.Arguments → Bool
any_arguments tree.no_arguments = false
any_arguments _ = true

abbrev pub any_types : tree.Tys → Bool
any_types tree.no_types = false
any_types _ = true

abbrev pub any_bounds : tree.Bounds → Bool
any_bounds tree.no_bounds = false
any_bounds _ = true

abbrev pub any_bindings : tree.Bindings → Bool
any_bindings tree.no_bindings = false
any_bindings _ = true

abbrev pub is_empty : List ℕ → Bool
is_empty [] = true
is_empty (_ ∷ _) = false

-- an item before the parts after it, if the item is to be added
abbrev pub item_if : Bool → Unshared → Unshared → Unshared
item_if true parts rest = parts also rest
item_if false parts rest = rest

-- the part has these bytes of its own
abbrev pub IsOwn : Part Context → List ℕ → Type 0
IsOwn (part.Own bytes count) text = (take count bytes ≡ text) × (count ≡ length text) × (length bytes ≡ 24)
IsOwn _ text = ⊥

-- what a symbol shows
abbrev pub shown_symbol : Detail → ReadSymbol → Unshared
shown_symbol detail y = symbol_parts detail (symbol_in (slice_get (trees_of y) y.root))
