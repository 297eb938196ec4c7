-- What is read from nodes and from references.
use Rattle.std.specs.Prelude.{ℕ, zero, suc, ◌<◌, List, [], ◌∷◌, Bool, true, false, not, ◌||◌, ◌&&◌, nat_eq, Option, Some, None, Ok}
use Rattle.cpp_grammar.specs.Standing.{is_code}
use Rattle.cpp_term.specs.Term as term
use Rattle.cpp_term.specs.Term.{Term, absent, nil}
use Rattle.cpp_term.specs.Scope.{has_return_type}
use Rattle.cpp_term.specs.Rescoping.{first_head, rest_of}
use Rattle.cpp_term.specs.Meaning.{is_void, is_nil, parameters}
use Rattle.cpp_grammar.specs.Values as plain
use Rattle.cpp_grammar.specs.Values.{by_all, by_gcc, by_clang, by_some}
use Rattle.cpp_term.specs.References.{appended, appended_by}
use Rattle.cpp_term.specs.Values as values
use Rattle.cpp_term.specs.Values.{State, Value, Around, tree_of, qualifiers_of, ref_of}
use Rattle.cpp_tree.specs.Nodes.{Stored, tree_at, tree_if_there, IsAliasBelow}
use Rattle.cpp_term.specs.Between.{Continuation, after}
use Rattle.cpp_link.specs.declared.part.Step.{Step}
use Rattle.cpp_link.specs.declared.part.Marks.{Marks}
use Rattle.cpp_references.specs.declared.around.Surroundings.{Surroundings}
use Rattle.cpp_tree.specs.declared.node.Node.{Node}
use Rattle.cpp_tree.specs.declared.node.Piece.{Piece}
use Rattle.cpp_references.specs.declared.again.OpenedNode.{OpenedNode}
use Rattle.cpp_link.specs.declared.signatures.Split.{Split}
use Rattle.cpp_term.specs.Reargued.{reargued}
use Rattle.cpp_references.specs.Around.{counted_of}
use Rattle.cpp_link.specs.Parts.{trees_in, tree_of_node, around_of}
unfoldable pub use Rattle.cpp_references.specs.References.{packs_read, maybe_candidate, node_read, parameter_read}

-- ## Nodes

unfoldable pub void_node : Node → Bool
void_node (Node.Builtin letter) = nat_eq letter 118
void_node _ = false

unfoldable pub nil_node : Node → Bool
nil_node Node.Nil = true
nil_node _ = false

unfoldable pub instance_node : Node → Bool
instance_node (Node.Instance template arguments) = true
instance_node _ = false

-- which compilers count the name before the arguments of an inherited constructor or of a concept
unfoldable pub held_node : Node → plain.Counted
held_node (Node.Within prefix piece) = by_gcc
held_node (Node.Instance template arguments) = by_gcc
held_node (Node.Alone piece) = by_clang
held_node (Node.InStd piece) = by_clang
held_node _ = by_some

-- the candidate of an inherited constructor, which GCC counts after its base class: the absent node
unfoldable pub constructor_by : plain.Counted → Option ℕ
constructor_by by_gcc = Some 0
constructor_by counted = None

-- whether an S may name the node at the front of a nested name, or under qualifiers
unfoldable pub node_fits : Node → (is_prefix is_qualified : Bool) → Bool
node_fits Node.Absent is_prefix is_qualified = false
node_fits (Node.Holder name) is_prefix is_qualified = is_prefix
node_fits (Node.Lvalue inner) is_prefix is_qualified = not is_qualified
node_fits (Node.Rvalue inner) is_prefix is_qualified = not is_qualified
node_fits _ is_prefix is_qualified = true

-- the head of a tree, by its node
unfoldable pub piece_head : Piece → ℕ
piece_head (Piece.Lambda parameters number) = 2
piece_head (Piece.GenericLambda parameters number) = 2
piece_head _ = 1

unfoldable pub node_head : Node → ℕ
node_head (Node.Alone piece) = piece_head piece
node_head (Node.InStd piece) = piece_head piece
node_head (Node.Within prefix piece) = piece_head piece
node_head (Node.Parameter number argument) = 3
node_head (Node.Pointer inner) = 4
node_head (Node.Lvalue inner) = 5
node_head (Node.Rvalue inner) = 6
node_head (Node.Array digits element) = 7
node_head (Node.MemberPointer class member) = 8
node_head (Node.FunctionType c_linkage noexcept mark returned parameters) = 9
node_head (Node.Qualified qualifiers inner) = 10
node_head (Node.Expansion pattern) = 11
node_head _ = 0

-- the head of the type after k others
unfoldable pub nth_head : ℕ → (types : Term) → ℕ
nth_head zero types = first_head types
nth_head (suc k) types = nth_head k (rest_of types)

-- an operation whose operator is a comma
unfoldable pub comma_node : Node → Bool
comma_node (Node.Operation first second left right) = is_code 99 109 first second
comma_node _ = false

-- an operation whose operator is a comma, > or >>
unfoldable pub ending_node : Node → Bool
ending_node (Node.Operation first second left right) = is_code 99 109 first second || is_code 103 116 first second || is_code 114 115 first second
ending_node _ = false

-- the first element of a nonempty list and its other elements, and the argument that both are under
unfoldable pub cell_under : Node → Option ℕ → Option Split
cell_under (Node.Cell first rest) under = Some (record { first = first; rest = rest; under = under })
cell_under _ under = None

unfoldable pub split_of : OpenedNode → Option Split
split_of list = cell_under list.node list.under

abbrev pub IsSplitThere : ℕ → Split → Type 0
IsSplitThere n items = (items.first < n) × ((items.rest < n) × IsAliasBelow n items.under)

-- the parameters among the items of a list, given its first element and the others
unfoldable pub parameters_by : List Term → Option Split → Term → Term
parameters_by ts None items = items
parameters_by ts (Some l) items = elim (is_void (tree_at ts l.first) && is_nil (tree_at ts l.rest)) [ true ↦ nil | false ↦ items ]

-- an encoding of this name and these items
unfoldable pub encoding_by : List Term → Value → Option Split → (items : Term) → Term
encoding_by ts name None items = term.object (tree_of name) (qualifiers_of name) (ref_of name)
encoding_by ts name (Some l) items = elim (has_return_type (tree_of name)) [
  | true ↦ term.function (tree_of name) (qualifiers_of name) (ref_of name) (reargued (tree_if_there ts l.under) (tree_at ts l.first)) (reargued (tree_if_there ts l.under) (parameters (tree_at ts l.rest)))
  | false ↦ term.function (tree_of name) (qualifiers_of name) (ref_of name) absent (parameters items)
]

-- the state with one more candidate, counted by these compilers: the tree of this node, if one is given
unfoldable pub with_candidate : plain.Counted → Around → List Term → Option ℕ → State → State
with_candidate counted around ts None state = state
with_candidate by_all around ts (Some n) state = appended around (tree_at ts n) state
with_candidate counted around ts (Some n) state = appended_by counted around (tree_at ts n) state

-- the state with up to two more candidates, one after the other
unfoldable pub with_marks : Around → List Term → Marks → State → State
with_marks around ts marks state = with_candidate (counted_of marks.second_by) around ts marks.second (with_candidate (counted_of marks.first_by) around ts marks.first state)

-- ## Steps

-- the values after the first
unfoldable pub behind_first : List Value → List Value
behind_first [] = []
behind_first (v ∷ vs) = vs

unfoldable pub named_if : Bool → Around → Term → (listed : Bool) → Around
named_if false around t listed = around
named_if true around t listed = after t listed around

unfoldable pub appended_if : Bool → Around → Term → State → State
appended_if false around t state = state
appended_if true around t state = appended around t state

-- the result of a step, before a part with these surroundings, after these values
unfoldable pub goes_on : List ℕ → Stored → Surroundings → List Value → State → Option ℕ → Step → Continuation
goes_on s y kept vs state before (Step.Go candidate then packs) =
    Ok (record { values = vs; context = around_of (trees_in s y) then; state = with_candidate by_all (around_of (trees_in s y) kept) (trees_in s y) candidate (record state { packs = packs }) })
goes_on s y kept vs state before (Step.Named node listed is_name) =
    Ok (record { values = values.tree (tree_at (trees_in s y) node) listed ∷ behind_first vs; context = named_if is_name (around_of (trees_in s y) kept) (tree_at (trees_in s y) node) listed; state = record state { packs = before } })
goes_on s y kept vs state before (Step.Made node listed is_name is_candidate packs) =
    Ok (record {
      values = values.tree (tree_of_node s y node) listed ∷ behind_first vs;
      context = named_if is_name (around_of (trees_in s y) kept) (tree_of_node s y node) listed;
      state = appended_if is_candidate (around_of (trees_in s y) kept) (tree_of_node s y node) (record state { packs = packs });
    })
