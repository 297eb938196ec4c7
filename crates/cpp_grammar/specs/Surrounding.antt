-- What surrounds the parts of a production, and the name that grows from part to part: each piece is added to the name so far.
use Rattle.std.specs.Prelude.{ℕ, List, [], ◌∷◌, Bool, true, false, None, Result, Ok}
use Rattle.sym_core.specs.declared.refusal.Refusal.{Refusal}
use Rattle.sym_core.specs.declared.NumberKind.TheVariants.{Decimal}
use Rattle.sym_core.specs.Value.{counted_value}
use Rattle.sym_link.specs.Reading.{Next, ◌>>=◌}
use Rattle.cpp_grammar.specs.Term.{Term, alone, within, instance, tagged, parameter, inheriting, nil}
use Rattle.cpp_grammar.specs.Scope.{arguments_of, is_structor}
use Rattle.cpp_grammar.specs.Values.{State, Prefix, outermost, behind, shown, Around, Value, nothing_there, tree, named, pair, tree_of, is_there, text_of}
use Rattle.cpp_grammar.specs.References.{parameter_named}

-- ## What surrounds a part

-- inside an encoding that begins here, in its name
unfoldable pub in_name : ℕ → Around
in_name place = record { scope = None; encoding = place; in_lambda = false; in_expansion = false; prefix = outermost; showing = shown }

-- in the types of an encoding with this name
unfoldable pub in_types : ℕ → Term → Around
in_types place name = record { scope = arguments_of name; encoding = place; in_lambda = false; in_expansion = false; prefix = outermost; showing = shown }

unfoldable pub in_signature : Around → Around
in_signature around = record { scope = None; encoding = around.encoding; in_lambda = true; in_expansion = around.in_expansion; prefix = outermost; showing = around.showing }

unfoldable pub under_expansion : Around → Around
under_expansion around = record { scope = around.scope; encoding = around.encoding; in_lambda = around.in_lambda; in_expansion = true; prefix = around.prefix; showing = around.showing }

unfoldable pub after : Term → Bool → Around → Around
after t listed around = record { scope = around.scope; encoding = around.encoding; in_lambda = around.in_lambda; in_expansion = around.in_expansion; prefix = behind t listed; showing = around.showing }

unfoldable pub inside : Around → Around
inside around = record { scope = around.scope; encoding = around.encoding; in_lambda = around.in_lambda; in_expansion = around.in_expansion; prefix = outermost; showing = around.showing }

-- the name so far with one more piece
unfoldable pub extended : Prefix → Term → Term
extended outermost piece = alone piece
extended (behind t listed) piece = within t piece

-- a name with one more tag
unfoldable pub with_tag : Term → List ℕ → Term
with_tag t tag = tagged (is_structor t) t tag

-- A name, with arguments if there are some. If a name follows instead, that name is this one with tags, perhaps with
-- arguments after the tags, and replaces it.
unfoldable pub applied : Term → Value → Term
applied t (named u qualifiers ref) = u
applied t v = elim (is_there v) [ true ↦ instance t (tree_of v) | false ↦ t ]

unfoldable pub no_items : Value → Term
no_items nothing_there = nil
no_items v = tree_of v

-- The name of a constructor that is inherited from a base class, with its own arguments where it has some.
unfoldable pub inherited : Prefix → (digit : ℕ) → (base : Value) → Value
inherited prefix digit (pair letter own base) = tree (instance (extended prefix (inheriting digit base)) own) false
inherited prefix digit base = tree (extended prefix (inheriting digit (tree_of base))) false

-- these values so far, these surroundings of the next part, and this state before it
abbrev pub Continuation : Type 0
Continuation = Result (Next Value State Around) Refusal

abbrev pub next : List Value → Around → State → Continuation
next vs around state = Ok (record { values = vs; context = around; state = state })

-- a finished name precedes its arguments
unfoldable pub named_so_far : Around → Term → List Value → State → Continuation
named_so_far around t vs state = next (tree t false ∷ vs) (after t false around) state

-- a name that is a candidate already, or never becomes one
unfoldable pub listed_so_far : Around → Term → List Value → State → Continuation
listed_so_far around t vs state = next (tree t true ∷ vs) (after t true around) state

-- a parameter is tested, and becomes a candidate, where its number ends
unfoldable pub parameter_so_far : Around → (place : ℕ) → ℕ → List Value → State → Continuation
parameter_so_far around place k vs state = parameter_named around place k state >>= λ s. listed_so_far around (parameter k) vs s

-- a parameter in an expression is tested in the same way, and becomes no candidate
unfoldable pub argument_so_far : Around → (place : ℕ) → ℕ → State → Continuation
argument_so_far around place k state = parameter_named around place k state >>= λ s. next (tree (parameter k) true ∷ []) around (record s { candidates = state.candidates })

unfoldable pub index_of : Value → ℕ
index_of v = counted_value Decimal (text_of v)
