-- The pieces of a Rust symbol that are taken apart later, and the marks that they lead to.
use Rattle.std.specs.Prelude.{ℕ, ◌+◌, ◌*◌, ◌<◌, ◌≤◌, List, length}
use Rattle.rust_tree.specs.declared.context.Context.{Context}
use Rattle.rust_tree.specs.Layout.{ReadSymbol, unshared_of, bytes_of_part, MayCome}
use Rattle.sym_print.specs.declared.layout.Item.{Item}
use Rattle.sym_print.specs.declared.layout.Part.{Part}
use Rattle.sym_print.specs.Joined.{joined}
use Rattle.sym_print.specs.Unshared.{Unshared, cost_of, steps_of}
use Rattle.sym_parts.specs.Marked.{Marked}
use Rattle.sym_parts.specs.Split as split
use Rattle.sym_parts.specs.Tasks as tasks
use Rattle.sym_parts.specs.declared.task.Task.{Task}
use Rattle.rust_parts.specs.Roles.{elements, scope, name}
use Rattle.rust_parts.specs.Sorts.{path_at}
use Rattle.rust_parts.specs.declared.apart.Apart.{Apart}
use Rattle.rust_parts.specs.declared.apart.Apart.TheVariants as apart

-- what parts print
abbrev pub printed_by : ReadSymbol → List (Part Context) → Unshared
printed_by y parts = joined (unshared_of y) (bytes_of_part y) parts

-- an item that may be requested, and costs at most this much
abbrev pub IsPayable : ReadSymbol → (most : ℕ) → Item Context → Type 0
IsPayable y most i = split.IsPayable (unshared_of y) (bytes_of_part y) (MayCome y) most i

-- parts that may be requested, and cost at most this much
abbrev pub ArePayable : ReadSymbol → (most : ℕ) → List (Part Context) → Type 0
ArePayable y most parts = split.ArePayable (unshared_of y) (bytes_of_part y) (MayCome y) most parts

-- the marks of a piece that is taken apart later
unfoldable pub marked_of : ReadSymbol → Apart → Marked
marked_of y (apart.Name lists node i) = name lists (path_at y node) (unshared_of y i)
marked_of y (apart.Scope lists node i) = scope lists (path_at y node) (unshared_of y i)
marked_of y (apart.Elements list number i) = elements list number (unshared_of y i)

-- A piece of the symbol. Its item costs at most this much, and its count has room for all that the item prints.
unfoldable pub IsApart : ReadSymbol → (most : ℕ) → Apart → Type 0
IsApart y most (apart.Name lists node i) = (node < length y.table.nodes) × IsPayable y most i × (lists + cost_of (unshared_of y i) ≤ most)
IsApart y most (apart.Scope lists node i) = (node < length y.table.nodes) × IsPayable y most i × (lists + cost_of (unshared_of y i) ≤ most)
IsApart y most (apart.Elements list number i) = IsPayable y most i × (number + cost_of (unshared_of y i) ≤ most)

-- how many steps a piece takes at most
unfoldable pub weight_of : ReadSymbol → Apart → ℕ
weight_of y (apart.Name lists node i) = 4 * steps_of (unshared_of y i)
weight_of y (apart.Scope lists node i) = 4 * steps_of (unshared_of y i)
weight_of y (apart.Elements list number i) = 4 * steps_of (unshared_of y i)

-- tasks were added before the old ones; they lead to these marks, and take this many steps at most
abbrev pub Grows : ReadSymbol → (most : ℕ) → (old new : List (Task Apart)) → Marked → (steps : ℕ) → Type 0
Grows y most old new m steps = tasks.Grows (marked_of y) (IsApart y most) (weight_of y) old new m steps
