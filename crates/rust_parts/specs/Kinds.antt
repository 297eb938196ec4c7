-- What a Rust name is.
use Rattle.std.specs.Prelude.{ℕ, true, false, ◌==◌, ◌&&◌, nat_le, if◌then◌else◌}
use Rattle.rust_tree.specs.Symbol.{Path, Symbol, crate_root, nested, generic}
use Rattle.rust_tree.specs.Layout.{is_empty}
use Rattle.sym_parts.specs.declared.kind.NameKind.{NameKind}
use Rattle.sym_parts.specs.declared.kind.NameKind.TheVariants as kind

-- The kind of a name by the letter of its namespace, C, S, v or t. Functions, constants and statics share the letter v.
unfoldable pub kind_of_letter : ℕ → NameKind
kind_of_letter letter =
    if letter == 67 then kind.Closure else (if letter == 83 then kind.Shim else (if letter == 118 then kind.Value else (if letter == 116 then kind.Type else kind.Item)))

-- The kind of a path. A path with arguments, or with a lower-case letter and an empty name (not shown), has its parent's kind.
unfoldable pub kind_of_path : Path → NameKind
kind_of_path (nested namespace parent own) =
    elim (nat_le 97 namespace && is_empty own.name.bytes) [ true ↦ kind_of_path parent | false ↦ kind_of_letter namespace ]
kind_of_path (generic parent args) = kind_of_path parent
kind_of_path (crate_root own) = kind.Crate
kind_of_path path = kind.Impl

-- the kind of a whole symbol
unfoldable pub kind_of_symbol : Symbol → NameKind
kind_of_symbol symbol = kind_of_path symbol.path
