-- What is noted about the places of a symbol.
use Rattle.std.specs.Prelude.{◌≡◌, ◌⊎◌, List, Option, Some, None, slice_get, get_or, ℕ}
use Rattle.rust_tree.specs.Symbol as tree
use Rattle.rust_tree.specs.Tree.{Tree, of_type}
use Rattle.rust_tree.specs.Nodes.{IsPath, IsConstant}
use Rattle.rust_grammar.specs.Value as value
use Rattle.rust_grammar.specs.Value.{Value, Ended}
use Rattle.rust_grammar.specs.Unfold.{ended_at, as_path}
use Rattle.rust_references.specs.declared.targets.Target.{Target}

-- what is noted about a place: what began there and has ended; a path may have ended as a type
abbrev pub IsNoted : List Tree → Target → Option Value → Type 0
IsNoted all Target.Nothing found = found ≡ None
IsNoted all (Target.Path node) found =
    (path : tree.Path) × IsPath all node path × ((found ≡ Some (value.a_path path)) ⊎ (found ≡ Some (value.a_type (tree.path_type path))))
IsNoted all (Target.Type node) found =
    (type : tree.Ty) × (slice_get all node ≡ Some (of_type type)) × (as_path (Some (value.a_type type)) ≡ None) × (found ≡ Some (value.a_type type))
IsNoted all (Target.Constant node) found = (constant : tree.Constant) × IsConstant all node constant × (found ≡ Some (value.a_constant constant))

abbrev pub AreNoted : List Tree → List Target → List Ended → Type 0
AreNoted all targets ended = (place : ℕ) → IsNoted all (get_or targets place Target.Nothing) (ended_at ended place)
