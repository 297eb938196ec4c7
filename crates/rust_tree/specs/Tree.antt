-- What one node of a symbol denotes.
use Rattle.std.specs.Prelude.{ℕ, max, Option, Some, None}
use Rattle.rust_tree.specs.Symbol.{Path, Arguments, Ty, Tys, Bounds, Bindings, Constant, Symbol}
use Rattle.rust_tree.specs.Need.{need, need_of_arguments, need_of_type, need_of_types, need_of_bounds, need_of_bindings}

pub data Tree : Type 0 where
  of_path : Path → Tree
  of_arguments : Arguments → Tree
  of_type : Ty → Tree
  of_types : Tys → Tree
  of_bounds : Bounds → Tree
  of_bindings : Bindings → Tree
  of_constant : Constant → Tree
  of_symbol : Symbol → Tree

abbrev pub need_of_other : Option Path → ℕ
need_of_other None = 0
need_of_other (Some path) = need path

-- how many enclosing bound lifetimes close the tree
unfoldable pub need_of_tree : Tree → ℕ
need_of_tree (of_path path) = need path
need_of_tree (of_arguments arguments) = need_of_arguments arguments
need_of_tree (of_type type) = need_of_type type
need_of_tree (of_types types) = need_of_types types
need_of_tree (of_bounds bounds) = need_of_bounds bounds
need_of_tree (of_bindings bindings) = need_of_bindings bindings
need_of_tree (of_constant constant) = 0
need_of_tree (of_symbol symbol) = max (need symbol.path) (need_of_other symbol.instantiating)
