-- Which parts the text of a legacy Rust name has: the text with marks, by the names of its path.
use Rattle.std.specs.Prelude.{ℕ, List, [], ◌∷◌, codes, if◌then◌else◌}
use Rattle.rust_legacy.specs.Path.{Path, begins_with}
use Rattle.rust_legacy.specs.Text.{shown_name, suffix_parts}
use Rattle.sym_print.specs.Unshared.{text_of}
use Rattle.sym_parts.specs.Marked.{Marked, done, text, marked, ◌before◌}
use Rattle.sym_parts.specs.Plain.{alone, only, suffixed}
use Rattle.sym_parts.specs.declared.role.Role.{Role}
use Rattle.sym_parts.specs.declared.role.Role.TheVariants as role

-- what a name is shown as
abbrev pub shown : List ℕ → List ℕ
shown name = text_of (shown_name name)

-- what the first name of a scope is: an implementation, whose text begins with <, or a crate
unfoldable pub root_role : (shown : List ℕ) → Role
root_role shown = if begins_with (codes "<") shown then role.Impl else role.Crate

-- the last name
abbrev pub last_of : List (List ℕ) → List ℕ
last_of [] = []
last_of (name ∷ []) = name
last_of (name ∷ next ∷ rest) = last_of (next ∷ rest)

-- names except for the last one, each after two colons; they are no parts of their own
unfoldable pub before_last : List (List ℕ) → Marked
before_last [] = done
before_last (name ∷ []) = done
before_last (name ∷ next ∷ rest) = text (codes "::") (text (shown name) (before_last (next ∷ rest)))

-- The names of a path: the last one is the base, and those before it are its scope, whose first name is a part.
unfoldable pub names_marked : List (List ℕ) → Marked
names_marked [] = done
names_marked (name ∷ []) = alone role.Base only (shown name) done
names_marked (name ∷ next ∷ rest) =
    marked role.Scope only (alone (root_role (shown name)) only (shown name) (before_last (next ∷ rest)))
    (text (codes "::") (alone role.Base only (shown (last_of (next ∷ rest))) done))

-- a whole path, whose suffix has parentheses around it
unfoldable pub path_marked : Path → Marked
path_marked path = names_marked path.names before suffixed (suffix_parts path.suffix)
