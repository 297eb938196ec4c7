-- What a legacy Rust name is.
use Rattle.std.specs.Prelude.{ℕ, List, Bool, codes, length, ◌==◌, ◌&&◌, if◌then◌else◌}
use Rattle.rust_legacy.specs.Path.{Path, begins_with}
use Rattle.sym_parts.specs.declared.kind.NameKind.{NameKind}
use Rattle.sym_parts.specs.declared.kind.NameKind.TheVariants as kind
use Rattle.legacy_parts.specs.Roles.{last_of, shown}

-- the text is {{closure}}
abbrev pub is_closure : (shown : List ℕ) → Bool
is_closure shown = begins_with (codes "{{closure}}") shown && (length shown == 11)

-- the kind of a path: a closure if its last name's text says so, otherwise a value (function, constant or static: names don't
-- tell which)
unfoldable pub kind_of_path : Path → NameKind
kind_of_path path = if is_closure (shown (last_of path.names)) then kind.Closure else kind.Value
