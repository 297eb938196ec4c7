-- What a back reference names: the node that it resolves to, or why there is none.
use Rattle.std.specs.Prelude.{◌≡◌, ℕ, List, Option, Some, Result, Ok, Err}
use Rattle.sym_core.specs.declared.refusal.Refusal.{Refusal}
use Rattle.rust_tree.specs.Symbol as tree
use Rattle.rust_tree.specs.Tree.{Tree}
use Rattle.rust_tree.specs.Nodes.{IsPath, IsType, IsConstant}
use Rattle.rust_grammar.specs.Value as value
use Rattle.rust_grammar.specs.Value.{Value}
use Rattle.rust_grammar.specs.Unfold.{At, as_path, as_type, as_constant, ends_path, ends_type, ends_constant, refers_to_path, refers_to_type, refers_to_constant}
use Rattle.rust_references.specs.Targets.{IsNoted}
use Rattle.rust_references.specs.declared.targets.Target.{Target}

abbrev pub NamesPath : List Tree → Target → At → Option Value → Result ℕ Refusal → Type 0
NamesPath all found at known (Ok node) =
    (path : tree.Path) × IsPath all node path × IsNoted all found (Some (value.a_path path)) × (refers_to_path at (as_path known) ≡ ends_path at path)
NamesPath all found at known (Err e) = refers_to_path at (as_path known) ≡ Err e

abbrev pub NamesType : List Tree → Target → At → Option Value → Result ℕ Refusal → Type 0
NamesType all found at known (Ok node) =
    (type : tree.Ty) × IsType all node type × IsNoted all found (Some (value.a_type type)) × (refers_to_type at (as_type known) ≡ ends_type at type)
NamesType all found at known (Err e) = refers_to_type at (as_type known) ≡ Err e

abbrev pub NamesConstant : List Tree → Target → At → Option Value → Result ℕ Refusal → Type 0
NamesConstant all found at known (Ok node) =
    (constant : tree.Constant) × IsConstant all node constant × IsNoted all found (Some (value.a_constant constant))
    × (refers_to_constant at (as_constant known) ≡ ends_constant at constant)
NamesConstant all found at known (Err e) = refers_to_constant at (as_constant known) ≡ Err e
