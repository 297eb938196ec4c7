-- The values that parts denote: functions of the nodes.
use Rattle.std.specs.Prelude.{ℕ, ◌<◌, List, [], ◌∷◌, true, false, Some, None}
use Rattle.cpp_term.specs.Term as term
use Rattle.cpp_term.specs.Term.{Term}
use Rattle.cpp_term.specs.Values as values
use Rattle.cpp_term.specs.Standing.{in_parentheses}
use Rattle.cpp_term.specs.Values.{Value, Around}
use Rattle.cpp_tree.specs.Nodes as nodes
use Rattle.cpp_tree.specs.Nodes.{Stored, tree_at, bytes_at, IsWithin, IsPieceBelow, IsBelow, IsAdjustmentWithin, IsThunkWithin}
use Rattle.cpp_link.specs.declared.part.Part.{Part}
use Rattle.cpp_link.specs.declared.part.Outcome.{Outcome}
use Rattle.cpp_link.specs.declared.part.Step.{Step}
use Rattle.cpp_link.specs.declared.candidates.Candidates.{Candidates}
use Rattle.cpp_link.specs.Counting.{IsCounted}
pub use Rattle.cpp_references.specs.Around.{trees_in, tree_of_node, scope_of, name_of, packs_of, IsClosed, candidate_of, candidates_of, IsPrefixThere, AreNodesThere, IsKeptThere}
unfoldable pub use Rattle.cpp_references.specs.Around.{prefix_of, arguments_in, is_lambda, is_constraint, is_literal, showing_in, prefix_in, packs_in, around_of}

-- ## Values

-- the value that a part denotes
unfoldable pub value_of : List ℕ → List Term → Part → Value
value_of s ts Part.Nothing = values.nothing_there
value_of s ts (Part.Letter byte) = values.letter byte
value_of s ts (Part.Text span) = values.text (bytes_at s span)
value_of s ts (Part.Signed n) = values.signed (nodes.signed_of s n)
value_of s ts (Part.Adjusted a) = values.adjusted (nodes.adjustment_of s a)
value_of s ts (Part.Tree node listed) = values.tree (tree_at ts node) listed
value_of s ts (Part.Piece p) = values.piece (nodes.piece_of s ts p)
value_of s ts (Part.Named node q m) = values.named (tree_at ts node) (nodes.qualifiers_of q) (nodes.mark_of m)
value_of s ts (Part.Pair letter left right) = values.pair letter (tree_at ts left) (tree_at ts right)
value_of s ts (Part.Signature list m) = values.signature (tree_at ts list) (nodes.mark_of m)

unfoldable pub values_of : List ℕ → List Term → List Part → List Value
values_of s ts [] = []
values_of s ts (p ∷ ps) = value_of s ts p ∷ values_of s ts ps

abbrev pub value_in : List ℕ → Stored → Part → Value
value_in s y p = value_of s (trees_in s y) p

abbrev pub values_in : List ℕ → Stored → List Part → List Value
values_in s y ps = values_of s (trees_in s y) ps

-- the value of an outcome: that of its part, whether or not the part's node is made yet
unfoldable pub outcome_value : List ℕ → Stored → Outcome → Value
outcome_value s y (Outcome.Given part) = value_in s y part
outcome_value s y (Outcome.There node listed) = values.tree (tree_at (trees_in s y) node) listed
outcome_value s y (Outcome.Made node listed) = values.tree (tree_of_node s y node) listed
outcome_value s y (Outcome.Entity node q m) = values.named (tree_of_node s y node) (nodes.qualifiers_of q) (nodes.mark_of m)
outcome_value s y (Outcome.Items node m) = values.signature (tree_of_node s y node) (nodes.mark_of m)
outcome_value s y (Outcome.Thunk thunk encoding) = values.tree (term.thunk (nodes.thunk_of s (Some thunk)) (tree_at (trees_in s y) encoding)) true
outcome_value s y (Outcome.Character letter value) = values.tree (term.integer (term.builtin (68 ∷ letter ∷ [])) (nodes.signed_of s value)) true
outcome_value s y (Outcome.MadeOperand letter None node) = values.pair letter (tree_of_node s y node) term.absent
outcome_value s y (Outcome.MadeOperand letter (Some left) node) = values.pair letter (tree_at (trees_in s y) left) (tree_of_node s y node)
outcome_value s y (Outcome.Enclosed first rest) = values.tree (term.list (in_parentheses (tree_at (trees_in s y) first)) (tree_at (trees_in s y) rest)) true
outcome_value s y (Outcome.Applied name arguments) = values.tree (term.instance (tree_of_node s y name) (tree_at (trees_in s y) arguments)) false
outcome_value s y (Outcome.Lambda first rest number) = values.piece (term.lambda (term.list (tree_at (trees_in s y) first) (tree_at (trees_in s y) rest)) number)
outcome_value s y (Outcome.Declaring heads number) = values.piece (term.lambda (term.declaring (tree_at (trees_in s y) heads) term.nil) number)
outcome_value s y (Outcome.DeclaringLambda heads first rest number) =
    values.piece (term.lambda (term.declaring (tree_at (trees_in s y) heads) (term.list (tree_at (trees_in s y) first) (tree_at (trees_in s y) rest))) number)

-- ## Parts that exist

abbrev pub IsThere : List ℕ → ℕ → Part → Type 0
IsThere s n (Part.Text span) = IsWithin span s
IsThere s n (Part.Signed v) = IsWithin v.digits s
IsThere s n (Part.Adjusted a) = IsAdjustmentWithin s a
IsThere s n (Part.Tree node listed) = node < n
IsThere s n (Part.Piece p) = IsPieceBelow s n p
IsThere s n (Part.Named node q m) = node < n
IsThere s n (Part.Signature list m) = list < n
IsThere s n (Part.Pair letter left right) = (left < n) × (right < n)
IsThere s n _ = Unit {0}

abbrev pub AreThere : List ℕ → ℕ → List Part → Type 0
AreThere s n [] = Unit {0}
AreThere s n (p ∷ ps) = IsThere s n p × AreThere s n ps

abbrev pub IsOutcomeThere : List ℕ → (held n : ℕ) → Outcome → Type 0
IsOutcomeThere s held n (Outcome.Given part) = IsThere s n part
IsOutcomeThere s held n (Outcome.There node listed) = node < n
IsOutcomeThere s held n (Outcome.Made node listed) = IsBelow s held n node
IsOutcomeThere s held n (Outcome.Entity node q m) = IsBelow s held n node
IsOutcomeThere s held n (Outcome.Items node m) = IsBelow s held n node
IsOutcomeThere s held n (Outcome.Thunk thunk encoding) = IsThunkWithin s thunk × (encoding < n)
IsOutcomeThere s held n (Outcome.Character letter value) = IsWithin value.digits s
IsOutcomeThere s held n (Outcome.MadeOperand letter left node) = nodes.IsAliasBelow n left × IsBelow s held n node
IsOutcomeThere s held n (Outcome.Enclosed first rest) = (first < n) × (rest < n)
IsOutcomeThere s held n (Outcome.Applied name arguments) = IsBelow s held n name × (arguments < n)
IsOutcomeThere s held n (Outcome.Lambda first rest number) = (first < n) × (rest < n)
IsOutcomeThere s held n (Outcome.Declaring heads number) = heads < n
IsOutcomeThere s held n (Outcome.DeclaringLambda heads first rest number) = (heads < n) × (first < n) × (rest < n)

-- each candidate is an existing node, and the candidates are numbered in both lists
abbrev pub AreCandidatesThere : ℕ → Candidates → Type 0
AreCandidatesThere n cs = AreNodesThere n cs.list.items × IsCounted cs

abbrev pub IsStepThere : List ℕ → (held n : ℕ) → Step → Type 0
IsStepThere s held n (Step.Go candidate then packs) = nodes.IsAliasBelow n candidate × IsKeptThere n then
IsStepThere s held n (Step.Named node listed is_name) = node < n
IsStepThere s held n (Step.Made node listed is_name is_candidate packs) = IsBelow s held n node
