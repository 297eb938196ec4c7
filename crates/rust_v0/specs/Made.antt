-- What a rule makes (a part, or a node that is to be added), and the claim that this is the meaning of the rule.
use Rattle.std.specs.Prelude.{◌≡◌, ℕ, List, Result, Ok, Err}
use Rattle.sym_core.specs.declared.refusal.Refusal.{Refusal}
use Rattle.rust_tree.specs.Symbol as tree
use Rattle.rust_tree.specs.Tree.{Tree, of_path, of_arguments, of_type, of_types, of_bounds, of_bindings, of_constant, of_symbol}
use Rattle.rust_tree.specs.Nodes.{Table, Makes, trees, IsArguments, IsBounds, IsBindings}
use Rattle.rust_grammar.specs.Value as value
use Rattle.rust_grammar.specs.Value.{Value}
use Rattle.rust_grammar.specs.Unfold.{At, Meaning, plain, ends_path, ends_type, ends_constant}
use Rattle.rust_v0.specs.PartValues.{Ground, IsPart}
use Rattle.rust_v0.specs.declared.operands.TheConstants.{EMPTY_ARGUMENTS, EMPTY_BOUNDS, EMPTY_BINDINGS}
use Rattle.rust_v0.specs.declared.part.Part as part
use Rattle.rust_tree.specs.declared.node.Node as node

pub data Made : Type 0 where
  Part : part.Part → Made
  Node : node.Node → Made

-- what parts refer to: the symbol, and the text list and the trees of a table
abbrev pub ground : List ℕ → Table → Ground
ground s table = record { symbol = s; text = table.text; all = trees s table.nodes }

-- the first nodes are the empty lists
pub record HasLists (ground : Ground) : Type 0 where
  pub arguments : IsArguments ground.all EMPTY_ARGUMENTS tree.no_arguments
  pub bounds : IsBounds ground.all EMPTY_BOUNDS tree.no_bounds
  pub bindings : IsBindings ground.all EMPTY_BINDINGS tree.no_bindings

-- A tree has been made. If it is a path, a type or a constant, it has ended.
abbrev pub ends_tree : At → Tree → Meaning
ends_tree at (of_path path) = ends_path at path
ends_tree at (of_type type) = ends_type at type
ends_tree at (of_constant constant) = ends_constant at constant
ends_tree at (of_arguments arguments) = plain at (value.some_arguments arguments)
ends_tree at (of_types types) = plain at (value.some_types types)
ends_tree at (of_bounds bounds) = plain at (value.some_bounds bounds)
ends_tree at (of_bindings bindings) = plain at (value.some_bindings bindings)
ends_tree at (of_symbol symbol) = plain at (value.a_symbol symbol)

-- what was made denotes what the rule means
abbrev pub MadeGives : List ℕ → Table → At → Result Made Refusal → Meaning → Type 0
MadeGives s table at (Ok (Made.Part part)) read = (value : Value) × (read ≡ plain at value) × IsPart (ground s table) part value
MadeGives s table at (Ok (Made.Node node)) read = (t : Tree) × (read ≡ ends_tree at t) × Makes s table node t
MadeGives s table at (Err e) read = read ≡ Err e
