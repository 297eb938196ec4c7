-- What surrounds a part of a symbol and which trees a substitution may name, over the existing nodes.
use Rattle.std.specs.Prelude.{◌≡◌, ℕ, ◌<◌, List, [], ◌∷◌, map, Bool, true, false, Option, None, Some, IfSome}
use Rattle.cpp_term.specs.Term.{Term}
use Rattle.cpp_term.specs.Scope.{is_open}
use Rattle.cpp_term.specs.Values as values
use Rattle.cpp_term.specs.Values.{Around}
use Rattle.cpp_tree.specs.Nodes as nodes
use Rattle.cpp_tree.specs.Nodes.{Stored, over, tree_at, trees}
use Rattle.cpp_tree.specs.declared.node.Node.{Node}
use Rattle.cpp_references.specs.declared.around.Prefix.{Prefix}
use Rattle.cpp_references.specs.declared.around.Scope.{Scope}
use Rattle.cpp_references.specs.declared.around.Naming.{Naming}
use Rattle.cpp_references.specs.declared.around.Surroundings.{Surroundings}
use Rattle.cpp_references.specs.declared.candidates.Candidate.{Candidate}
use Rattle.cpp_references.specs.declared.candidates.Counted.{Counted}
use Rattle.cpp_grammar.specs.Values as plain

-- the trees of the nodes, and that of a node which isn't made yet
abbrev pub trees_in : List ℕ → Stored → List Term
trees_in s y = trees (over s y)

abbrev pub tree_of_node : List ℕ → Stored → Node → Term
tree_of_node s y node = nodes.tree_of s y.thunks (trees_in s y) node

-- ## What surrounds a part

-- the arguments that parameters name
unfoldable pub arguments_in : Scope → ℕ → Option ℕ
arguments_in Scope.Arguments node = Some node
arguments_in _ node = None

unfoldable pub is_lambda : Scope → Bool
is_lambda Scope.Lambda = true
is_lambda Scope.Constraint = true
is_lambda Scope.Literal = true
is_lambda _ = false

unfoldable pub is_constraint : Scope → Bool
is_constraint Scope.Constraint = true
is_constraint _ = false

unfoldable pub is_literal : Scope → Bool
is_literal Scope.Literal = true
is_literal _ = false

-- whether the part is shown
unfoldable pub showing_in : Scope → plain.Showing
showing_in Scope.Constraint = plain.in_constraint
showing_in Scope.Literal = plain.at_literal
showing_in _ = plain.shown

-- the name so far
unfoldable pub prefix_in : Naming → ℕ → Prefix
prefix_in Naming.Outermost node = Prefix.Outermost
prefix_in Naming.Unlisted node = Prefix.Behind node false
prefix_in Naming.Listed node = Prefix.Behind node true

-- the length of the packs, if there are any
unfoldable pub packs_in : Bool → ℕ → Option ℕ
packs_in false many = None
packs_in true many = Some many

unfoldable pub prefix_of : List Term → Prefix → values.Prefix
prefix_of ts Prefix.Outermost = values.outermost
prefix_of ts (Prefix.Behind node listed) = values.behind (tree_at ts node) listed

abbrev pub scope_of : Surroundings → Option ℕ
scope_of kept = arguments_in kept.scope kept.arguments

abbrev pub name_of : Surroundings → Prefix
name_of kept = prefix_in kept.naming kept.name

abbrev pub packs_of : Surroundings → Option ℕ
packs_of kept = packs_in kept.has_packs kept.pack_length

unfoldable pub around_of : List Term → Surroundings → Around
around_of ts kept = record { scope = nodes.tree_if_there ts (scope_of kept); encoding = kept.encoding; in_lambda = is_lambda kept.scope; in_expansion = kept.in_expansion; prefix = prefix_of ts (name_of kept); showing = showing_in kept.scope }

-- no parameter is free in the arguments that are named
abbrev pub IsClosed : Around → Type 0
IsClosed around = IfSome around.scope (λ a. is_open a ≡ false)

-- ## Candidates

unfoldable pub counted_of : Counted → plain.Counted
counted_of Counted.ByAll = plain.by_all
counted_of Counted.ByNewer = plain.by_newer
counted_of Counted.ByGcc = plain.by_gcc
counted_of Counted.ByClang = plain.by_clang
counted_of Counted.BySome = plain.by_some

abbrev pub candidate_of : List Term → Candidate → values.Candidate
candidate_of ts c = record { tree = tree_at ts c.node; encoding = c.encoding; in_lambda = c.in_lambda; counted = counted_of c.counted }

abbrev pub candidates_of : List Term → List Candidate → List values.Candidate
candidates_of ts cs = map (candidate_of ts) cs

-- ## What exists

abbrev pub IsPrefixThere : ℕ → Prefix → Type 0
IsPrefixThere n Prefix.Outermost = Unit {0}
IsPrefixThere n (Prefix.Behind node listed) = node < n

abbrev pub IsKeptThere : ℕ → Surroundings → Type 0
IsKeptThere n kept = nodes.IsAliasBelow n (scope_of kept) × IsPrefixThere n (name_of kept)

abbrev pub AreNodesThere : ℕ → List Candidate → Type 0
AreNodesThere n [] = Unit {0}
AreNodesThere n (c ∷ cs) = (c.node < n) × AreNodesThere n cs
