-- A step of C++ keeps the number of values.
use Rattle.std.proofs.Common.{◌≡◌, refl, ◌-◌, ℕ, suc, List, [], ◌∷◌, length, cond, true, Result, Ok, Err}
use Rattle.std.specs.Result.{IfOk}
use Rattle.sym_core.specs.declared.refusal.Refusal.{Refusal}
use Rattle.sym_link.specs.Reading.{◌>>=◌}
use Rattle.cpp_grammar.specs.declared.production.Production.{Production}
use Rattle.cpp_term.specs.Term.{parameter}
use Rattle.cpp_term.specs.Values.{State, Value, tree, Around, part}
use Rattle.cpp_term.specs.References.{parameter_named}
use Rattle.cpp_grammar.specs.Row.{Action, quiet, goes, becomes, tests, holds, unread, before_part}
use Rattle.cpp_grammar.specs.Rows.{row_of}
use Rattle.cpp_term.specs.Between.{between, next, listed_so_far, parameter_so_far, argument_so_far, argument_at, index_of}
use Rattle.cpp_term.specs.Meant.{done, made, replaced, tested}

pub parameter_counts : (around : Around) (place k : ℕ) (vs : List Value) (state : State) → IfOk (parameter_so_far around place k vs state) (λ next. length next.values ≡ suc (length vs))
unfolding parameter_so_far listed_so_far
parameter_counts around place k vs state = go (parameter_named around place k state)
  where
    go : (o : Result State Refusal) → IfOk (o >>= λ s. listed_so_far around (parameter k (argument_at around k)) vs s) (λ next. length next.values ≡ suc (length vs))
    go (Ok s) = refl
    go (Err e) = tt

pub argument_counts : (around : Around) (place k : ℕ) (state : State) → IfOk (argument_so_far around place k state) (λ next. length next.values ≡ 1)
unfolding argument_so_far
argument_counts around place k state = go (parameter_named around place k state)
  where
    go : (o : Result State Refusal) → IfOk (o >>= λ s. next (tree (parameter k (argument_at around k)) true ∷ []) around (record s { candidates = state.candidates })) (λ next. length next.values ≡ 1)
    go (Ok s) = refl
    go (Err e) = tt

replaced_counts : (t : Value) (vs : List Value) → length (replaced t vs) ≡ length vs
unfolding replaced
replaced_counts t [] = refl
replaced_counts t (v ∷ vs) = refl

done_counts : (b : Action) (around : Around) (place : ℕ) (vs : List Value) (state : State) → IfOk (done b around place vs state) (λ next. length next.values ≡ length vs)
unfolding done tested
done_counts quiet around place vs state = refl
done_counts (goes gain w) around place vs state = refl
done_counts (becomes m is_in is_name is_candidate) around place vs state = replaced_counts (tree (made 0 around vs m) is_in) vs
done_counts (tests after_t is_name) around place vs state = go (parameter_named around (cond after_t (place - 1) place) (index_of (part vs 0)) state)
  where
    go : (o : Result State Refusal) → IfOk (o >>= λ s. tested is_name around (parameter (index_of (part vs 0)) (argument_at around (index_of (part vs 0)))) vs s state) (λ next. length next.values ≡ length vs)
    go (Ok s) = replaced_counts (tree (parameter (index_of (part vs 0)) (argument_at around (index_of (part vs 0)))) true) vs
    go (Err e) = tt
done_counts holds around place vs state = tt
done_counts unread around place vs state = tt

pub between_counts : (p : Production) (around : Around) (place : ℕ) (vs : List Value) (state : State) → IfOk (between p around place vs state) (λ next. length next.values ≡ length vs)
unfolding between
between_counts p around place vs state = done_counts (before_part (row_of p) (length vs)) around place vs state
