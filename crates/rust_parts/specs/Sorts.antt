-- What the sorts of paths say: which paths they are, and how their texts are marked.
use Rattle.std.specs.Prelude.{◌≡◌, ℕ, ◌+◌, ◌<◌, slice_get}
use Rattle.rust_tree.specs.Symbol.{Path, Arguments, Identifier, crate_root, inherent_impl, trait_impl, trait_definition, nested, generic}
use Rattle.rust_tree.specs.Nodes.{path_in}
use Rattle.rust_tree.specs.Layout.{ReadSymbol, trees_of}
use Rattle.rust_tree.specs.Fields.{number_in, text_in}
use Rattle.rust_tree.specs.Views.{fields_at}
use Rattle.sym_print.specs.Unshared.{Unshared, item, bytes}
use Rattle.sym_parts.specs.Marked.{Marked, ◌before◌}
use Rattle.sym_parts.specs.Plain.{only, plain, whole}
use Rattle.sym_parts.specs.declared.role.Role.TheVariants as role
use Rattle.rust_parts.specs.Roles.{arguments, implementation, scope, scoped, name}
use Rattle.rust_parts.specs.declared.sorts.PathSort.{PathSort}
use Rattle.rust_parts.specs.declared.sorts.PathSort.TheVariants as sort

-- the path of a node
abbrev pub path_at : ReadSymbol → (node : ℕ) → Path
path_at y node = path_in (slice_get (trees_of y) node)

abbrev pub IsImplementation : Path → Type 0
IsImplementation (inherent_impl disambiguator path type) = Unit {0}
IsImplementation (trait_impl disambiguator path type implemented) = Unit {0}
IsImplementation (trait_definition type implemented) = Unit {0}
IsImplementation _ = ⊥

-- the path of a node is of this sort; its parent is an earlier node
abbrev pub IsSort : ReadSymbol → (node : ℕ) → PathSort → Type 0
IsSort y node sort.Crate = (own : Identifier) × (path_at y node ≡ crate_root own)
IsSort y node sort.Implementation = IsImplementation (path_at y node)
IsSort y node (sort.Nested parent) =
    (parent < node)
    × ((own : Identifier) × (own.name.bytes ≡ text_in (fields_at y node)) × (path_at y node ≡ nested (number_in (fields_at y node) 0) (path_at y parent) own))
IsSort y node (sort.Generic parent) = (parent < node) × ((args : Arguments) × (path_at y node ≡ generic (path_at y parent) args))

-- the scope of a name, before this many lists of arguments, by the sort of the scope's path
unfoldable pub scope_by : ReadSymbol → (lists : ℕ) → PathSort → Unshared → Marked
scope_by y lists (sort.Nested parent) (item one rest) = scope lists (path_at y parent) one before plain rest
scope_by y lists (sort.Generic parent) (item one rest) = scope (lists + 1) (path_at y parent) one before arguments lists rest
scope_by y lists sort.Crate printed = whole role.Crate only printed
scope_by y lists path printed = implementation printed

-- a name, before this many lists of arguments, by the sort of its path
unfoldable pub name_by : ReadSymbol → (lists : ℕ) → PathSort → Unshared → Marked
name_by y lists (sort.Nested parent) (item one (bytes colons rest)) = scoped (scope lists (path_at y parent) one) colons rest
name_by y lists (sort.Nested parent) (item one rest) = name lists (path_at y parent) one before plain rest
name_by y lists (sort.Generic parent) (item one rest) = name (lists + 1) (path_at y parent) one before arguments lists rest
name_by y lists path printed = scope_by y lists path printed

-- the sort names nodes of the table
abbrev pub IsBelow : (count : ℕ) → PathSort → Type 0
IsBelow count (sort.Nested parent) = parent < count
IsBelow count (sort.Generic parent) = parent < count
IsBelow count _ = Unit {0}
