-- The candidates of substitutions, and the rules of references (ABI 5.1.8, 5.1.10).
use Rattle.std.specs.Prelude.{ℕ, [], ◌∷◌, ◌++◌, Bool, true, false, not, ◌||◌, ◌&&◌, nat_eq, nat_lt, Option, Some, None, Result, Ok, Err}
use Rattle.sym_core.specs.declared.refusal.Refusal.{Refusal}
use Rattle.sym_core.specs.declared.refusal.Refusal.TheVariants.{BadReference}
use Rattle.sym_link.specs.Reading.{Found, ◌>>=◌}
use Rattle.sym_link.specs.Unfold.{found}
use Rattle.cpp_grammar.specs.Term.{Term, function_type, parameter, operation}
use Rattle.cpp_grammar.specs.Scope.{count, element, is_open, length_if_pack, pack_length}
use Rattle.cpp_grammar.specs.Values.{Counted, by_all, Candidate, State, Around, prefix_tree, prefix_listed, Value, tree, tree_of, is_listed}

-- ## Candidates

-- one candidate more, which is counted by these compilers
abbrev pub appended_by : Counted → Around → Term → State → State
appended_by counted around t state = record state { candidates = state.candidates ++ (record { tree = t; encoding = around.encoding; in_lambda = around.in_lambda; counted = counted } ∷ []) }

unfoldable pub appended : Around → Term → State → State
appended around t state = appended_by by_all around t state

unfoldable pub is_function_type : Term → Bool
is_function_type (function_type c_linkage noexcept ref returned parameters) = true
is_function_type _ = false

-- a type is a candidate once it's complete, unless it's builtin, an abbreviation or what a substitution denotes; these are
-- marked as listed
unfoldable pub with_type : Around → Value → State → State
with_type around v state = elim (is_listed v) [ true ↦ state | false ↦ appended around (tree_of v) state ]

-- a function type is no candidate under qualifiers written before it
unfoldable pub with_unqualified : Around → Value → State → State
with_unqualified around v state = elim (is_function_type (tree_of v)) [ true ↦ state | false ↦ with_type around v state ]

-- the name so far is a candidate once something is added to it: a further piece, or arguments
unfoldable pub with_prefix : Around → State → State
with_prefix around state = elim (prefix_listed around.prefix) [ true ↦ state | false ↦ appended around (prefix_tree around.prefix) state ]

-- ## References

-- A tree that holds packs is under an expansion, and its packs have the length of the earlier packs in the expansion.
unfoldable pub with_packs : ℕ → Bool → Option ℕ → State → Result State Refusal
with_packs place in_expansion None state = Ok state
with_packs place false (Some m) state = Err (BadReference place)
with_packs place true (Some m) state = elim state.packs [
  | None ↦ Ok (record state { packs = Some m })
  | Some n ↦ elim (nat_eq m n) [ true ↦ Ok state | false ↦ Err (BadReference place) ]
]

unfoldable pub packs_in : Option Term → Term → Option ℕ
packs_in None t = None
packs_in (Some scope) t = pack_length scope t

-- a module's name, which only the wide grammar makes: an operation whose code begins with a W
unfoldable pub is_module : Term → Bool
is_module (operation one two u w) = nat_eq one 87
is_module _ = false

-- A substitution names a candidate that is no module. One with free parameters was made in the same encoding, and isn't named
-- in a lambda's signature.
unfoldable pub substituted : Around → ℕ → Option Candidate → State → Result (Found Value State) Refusal
substituted around place None state = Err (BadReference place)
substituted around place (Some c) state =
    elim (is_module c.tree || (is_open c.tree && (around.in_lambda || not (nat_eq c.encoding around.encoding)))) [
      | true ↦ Err (BadReference place)
      | false ↦ with_packs place around.in_expansion (packs_in around.scope c.tree) state >>= λ s. Ok (found (tree c.tree true) s)
    ]

-- A parameter names an argument of the scope, and is a candidate.
unfoldable pub parameter_named : Around → ℕ → ℕ → State → Result State Refusal
parameter_named around place k state = elim around.scope [
  | None ↦ Err (BadReference place)
  | Some arguments ↦ elim (nat_lt k (count arguments)) [
    | false ↦ Err (BadReference place)
    | true ↦ with_packs place around.in_expansion (length_if_pack (element arguments k)) state >>= λ s. Ok (appended around (parameter k) s)
  ]
]
