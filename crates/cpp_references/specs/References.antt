-- What references name, in the form in which the code answers.
use Rattle.std.specs.Prelude.{ℕ, List, Bool, true, false, nat_eq, Option, Some, None, Result, Ok, Err}
use Rattle.sym_core.specs.declared.refusal.Refusal.{Refusal}
use Rattle.sym_link.specs.Reading.{Found}
use Rattle.sym_link.specs.Unfold.{found}
use Rattle.cpp_term.specs.Reargued.{reargued}
use Rattle.cpp_term.specs.Term.{Term}
use Rattle.cpp_term.specs.References.{appended}
use Rattle.cpp_term.specs.Values as values
use Rattle.cpp_term.specs.Values.{State, Value, Around}
use Rattle.cpp_tree.specs.Nodes.{Stored, tree_at}
use Rattle.cpp_tree.specs.declared.node.Node.{Node}
use Rattle.cpp_references.specs.declared.candidates.Candidate.{Candidate}
use Rattle.cpp_references.specs.Around.{tree_of_node, candidate_of}

unfoldable pub packs_read : State → Result (Option ℕ) Refusal → Result State Refusal
packs_read state (Ok packs) = Ok (record state { packs = packs })
packs_read state (Err e) = Err e

unfoldable pub maybe_candidate : List Term → Option Candidate → Option values.Candidate
maybe_candidate ts None = None
maybe_candidate ts (Some c) = Some (candidate_of ts c)

unfoldable pub node_read : List Term → State → Result (ℕ × Option ℕ) Refusal → Result (Found Value State) Refusal
node_read ts state (Ok r) = Ok (found (values.tree (tree_at ts r.0) true) (record state { packs = r.1 }))
node_read ts state (Err e) = Err e

-- a parameter that became a candidate, by its node
unfoldable pub parameter_read : Around → List ℕ → Stored → State → Result (Node × Option ℕ) Refusal → Result State Refusal
parameter_read around s y state (Ok r) = Ok (appended around (tree_of_node s y r.0) (record state { packs = r.1 }))
parameter_read around s y state (Err e) = Err e

-- a tree re-read with the argument at this node: the argument that is meant here, or the list of a scope's arguments
unfoldable pub argument_read : List Term → Term → State → Result (ℕ × Option ℕ) Refusal → Result (Found Value State) Refusal
argument_read ts t state (Ok r) = Ok (found (values.tree (reargued (Some (tree_at ts r.0)) t) true) (record state { packs = r.1 }))
argument_read ts t state (Err e) = Err e

unfoldable pub function_node : Node → Bool
function_node (Node.FunctionType c_linkage noexcept m returned parameters) = true
function_node _ = false

unfoldable pub module_node : Node → Bool
module_node (Node.Operation one two u w) = nat_eq one 87
module_node _ = false
