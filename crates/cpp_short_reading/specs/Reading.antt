-- The reading by which the short way goes. It is that of the ABI's grammar in all but two points: where the wide grammar is read,
-- a substitution names what it names there, and a lambda has the parameters that it has there.
use Rattle.std.specs.Prelude.{ℕ, ◌-◌, List, [], ◌∷◌, Bool, true, false, slice_get, Option, Result, Ok}
use Rattle.sym_core.specs.declared.refusal.Refusal.{Refusal}
use Rattle.sym_core.specs.declared.NumberKind.TheVariants.{Seq36}
use Rattle.sym_core.specs.Value.{counted_value}
use Rattle.sym_shape.specs.Tree.{Tree}
use Rattle.sym_link.specs.Reading.{Found, Reading, ◌>>=◌}
use Rattle.sym_link.specs.Unfold.{found, unfold_tree}
use Rattle.cpp_grammar.specs.declared.production.Production.{Production}
use Rattle.cpp_grammar.specs.Term.{Term, lambda}
use Rattle.cpp_grammar.specs.Values.{Candidate, State, Around, Value, nothing_there, text, piece, text_of, part}
use Rattle.cpp_grammar.specs.References.{substituted}
use Rattle.cpp_grammar.specs.Between.{between}
use Rattle.cpp_grammar.specs.Meaning.{meaning}
use Rattle.cpp_grammar.specs.Unfolding.{opening, close, production_at, byte_of, first_around, first_state, first_tree, unfold_cpp}
use Rattle.cpp_grammar.specs.Rescoping.{substituted_wide, lambda_with, unfold_wide}

-- what a substitution for this candidate names
unfoldable pub named_by : (is_wide : Bool) → Around → (place : ℕ) → Option Candidate → State → Result (Found Value State) Refusal
named_by true around place c state = substituted_wide around place c state
named_by false around place c state = substituted around place c state

-- a lambda with these parameters: by the wide grammar they may be its own
unfoldable pub lambda_by : (is_wide : Bool) → (parameters : Term) → (number : ℕ) → Term
lambda_by true parameters number = lambda_with parameters number
lambda_by false parameters number = lambda parameters number

abbrev pub as_lambda_by : (is_wide : Bool) → Value → Value
as_lambda_by is_wide (piece (lambda parameters number)) = piece (lambda_by is_wide parameters number)
as_lambda_by is_wide v = v

-- What a production denotes, once its parts are read. Only these two productions depend on the grammar, so that any other one closes
-- as it does by the ABI's, whichever grammar is read.
abbrev pub close_by : Production → (is_wide : Bool) → (byte : ℕ) → Around → (place : ℕ) → (began : State) → List Value → State → Result (Found Value State) Refusal
close_by Production.Substitution is_wide byte around place began vs state =
    named_by is_wide around (place - 1) (slice_get state.candidates (counted_value Seq36 (text_of (part vs 0)))) state
close_by Production.Lambda is_wide byte around place began vs state = Ok (found (as_lambda_by is_wide (meaning Production.Lambda byte around vs)) state)
close_by production is_wide byte around place began vs state = close production byte around place began vs state

-- C++ as a language for the short way
unfoldable pub cpp_by : (is_wide : Bool) → Reading Value State Around
cpp_by is_wide = record {
  rowless = nothing_there ∷ [];
  token = λ place t state. Ok (found (text t.own) state);
  begin = λ rule parts. opening (production_at rule.rule.number) parts rule.place rule.before;
  between = λ rule known state. between (production_at rule.rule.number) rule.context rule.place known state;
  close = λ rule known state. close_by (production_at rule.rule.number) is_wide (byte_of rule.taken) rule.context rule.place rule.before known state;
}

-- the tree that a symbol of this shape denotes by this reading
unfoldable pub unfold_by : (is_wide : Bool) → Tree → Result Term Refusal
unfold_by is_wide shape = unfold_tree (cpp_by is_wide) first_around 0 shape first_state >>= λ whole. Ok (first_tree whole.value)

-- the tree that it denotes by the reading of the grammar itself
unfoldable pub unfold_own : (is_wide : Bool) → Tree → Result Term Refusal
unfold_own true shape = unfold_wide shape
unfold_own false shape = unfold_cpp shape
