-- Named arguments are those of a name without free parameters: neither their list nor any of them has a free parameter.
use Rattle.cpp_link.proofs.Basics.{◌≡◌, subst, ℕ, ◌-◌, List, [], ◌∷◌, length, Bool, true, false, ◌&&◌, cond, Option, Some, None, Result, Ok, Err, IfOk, Refusal, BadReference, counted_value, Seq36, Next, ◌>>=◌, Production, Where, as_before, in_its_name, in_its_types, in_a_signature, under_it, nameless, after_part, after_the_name, Action, quiet, goes, becomes, tests, holds, unread, before_part, row_of, Term, holder, parameter, auto, generic_number, State, Around, prefix_tree, Value, tree, tree_of, text_of, part, parameter_named, Continuation, in_name, in_types, in_signature, under_expansion, after, inside, listed_so_far, parameter_so_far, argument_so_far, argument_at, index_of, next, between, made, around_part, tested, done, parameter_here, argument_here, generic_so_far, with_holder, is_instance, holder_so_far, module_named, module_so_far, in_constraint_of, is_unseen, in_literal, is_passed_over, passed_over, name_around, types_around, between_wide, is_open, at_literal, IsClosed}
use Rattle.cpp_references.proofs.Arguments.{closed_are}

-- ## What surrounds the next part

abbrev GoesClosed : Continuation → Type 0
GoesClosed going = IfOk going (λ n. IsClosed n.context)

around_closed : (w : Where) (around : Around) (place : ℕ) (vs : List Value) → IsClosed around → IsClosed (around_part around place vs w)
unfolding around_part in_name in_types in_signature under_expansion after inside
around_closed as_before around place vs closed = closed
around_closed in_its_name around place vs closed = tt
around_closed in_its_types around place vs closed = closed_are (tree_of (part vs 0))
around_closed in_a_signature around place vs closed = tt
around_closed under_it around place vs closed = closed
around_closed nameless around place vs closed = closed
around_closed (after_part k listing) around place vs closed = closed
around_closed after_the_name around place vs closed = closed

name_closed : (is_name : Bool) (around : Around) (t : Term) (is_in : Bool) → IsClosed around → IsClosed (cond is_name (after t is_in around) around)
unfolding after
name_closed true around t is_in closed = closed
name_closed false around t is_in closed = closed

done_closed : (b : Action) (around : Around) (place : ℕ) (vs : List Value) (state : State) → IsClosed around → GoesClosed (done b around place vs state)
unfolding done tested
done_closed quiet around place vs state closed = closed
done_closed (goes gain w) around place vs state closed = around_closed w around place vs closed
done_closed (becomes m is_in is_name is_candidate) around place vs state closed = name_closed is_name around (made 0 around vs m) is_in closed
done_closed (tests after_t is_name) around place vs state closed = by (parameter_named around (cond after_t (place - 1) place) (index_of (part vs 0)) state)
  where
    t : Term
    t = parameter (index_of (part vs 0)) (argument_at around (index_of (part vs 0)))

    by : (r : Result State Refusal) → GoesClosed (r >>= λ s. tested is_name around t vs s state)
    by (Ok s) = name_closed is_name around t true closed
    by (Err e) = tt
done_closed holds around place vs state closed = tt
done_closed unread around place vs state closed = tt

goes_closed : (p : Production) (around : Around) (place : ℕ) (vs : List Value) (state : State) → IsClosed around → GoesClosed (between p around place vs state)
unfolding between
goes_closed p around place vs state closed = done_closed (before_part (row_of p) (length vs)) around place vs state closed

-- what surrounds the next part is closed too
pub between_closed : (p : Production) (around : Around) (place : ℕ) (vs : List Value) (state : State) (n : Next Value State Around) → between p around place vs state ≡ Ok n → IsClosed around → IsClosed n.context
between_closed p around place vs state n is closed = subst (λ going. GoesClosed going) is (goes_closed p around place vs state closed)

here_closed : (around : Around) (place k : ℕ) (state : State) → IsClosed around → GoesClosed (parameter_here around place k [] state)
unfolding parameter_here generic_so_far parameter_so_far listed_so_far after
here_closed around place k state closed = by around.in_lambda
  where
    named_closed : (r : Result State Refusal) → GoesClosed (r >>= λ s. listed_so_far around (parameter k (argument_at around k)) [] s)
    named_closed (Ok s) = closed
    named_closed (Err e) = tt

    by : (b : Bool) → GoesClosed (elim b as (λ _. Continuation) [ true ↦ generic_so_far around k [] state | false ↦ parameter_so_far around place k [] state ])
    by true = closed
    by false = named_closed (parameter_named around place k state)

argument_here_closed : (around : Around) (place k : ℕ) (state : State) → IsClosed around → GoesClosed (argument_here around place k state)
unfolding argument_here argument_so_far
argument_here_closed around place k state closed = by around.in_lambda
  where
    named_closed : (r : Result State Refusal) → GoesClosed (r >>= λ s. next (tree (parameter k (argument_at around k)) true ∷ []) around (record s { candidates = state.candidates }))
    named_closed (Ok s) = closed
    named_closed (Err e) = tt

    by : (b : Bool) → GoesClosed (elim b as (λ _. Continuation) [ true ↦ next (tree (parameter (generic_number k) auto) true ∷ []) around state | false ↦ argument_so_far around place k state ])
    by true = closed
    by false = named_closed (parameter_named around place k state)

holder_closed : (around : Around) (place : ℕ) (state : State) → IsClosed around → GoesClosed (holder_so_far around place state)
unfolding holder_so_far listed_so_far after
holder_closed around place state closed = by (is_instance (prefix_tree around.prefix))
  where
    by : (b : Bool) → GoesClosed (elim b as (λ _. Continuation) [
      | true ↦ Err (BadReference place)
      | false ↦ listed_so_far around (holder (prefix_tree around.prefix)) [] (with_holder around (holder (prefix_tree around.prefix)) state)
    ])
    by true = tt
    by false = closed

module_closed : (around : Around) (place number : ℕ) (state : State) → IsClosed around → GoesClosed (module_so_far around place number state)
unfolding module_so_far listed_so_far after
module_closed around place number state closed = by (module_named number state)
  where
    by : (o : Option Term) → GoesClosed (elim o as (λ _. Continuation) [ None ↦ Err (BadReference place) | Some t ↦ listed_so_far around t [] state ])
    by None = tt
    by (Some t) = closed

literal_closed : (around : Around) → IsClosed around → IsClosed (in_literal around)
unfolding in_literal
literal_closed around closed = by (is_unseen around)
  where
    by : (b : Bool) → IsClosed (elim b as (λ _. Around) [ true ↦ record around { showing = at_literal } | false ↦ around ])
    by true = closed
    by false = closed

name_around_closed : (around : Around) (place : ℕ) → IsClosed (name_around around place)
unfolding name_around passed_over in_name
name_around_closed around place = by (is_passed_over around)
  where
    by : (b : Bool) → IsClosed (elim b as (λ _. Around) [ true ↦ passed_over place | false ↦ in_name place ])
    by true = tt
    by false = tt

types_around_closed : (around : Around) (place : ℕ) (name : Term) → IsClosed (types_around around place name)
unfolding types_around passed_over in_types
types_around_closed around place name = by (is_passed_over around && is_open name)
  where
    by : (b : Bool) → IsClosed (elim b as (λ _. Around) [ true ↦ passed_over place | false ↦ in_types place name ])
    by true = tt
    by false = closed_are name

wide_goes_closed : (p : Production) (around : Around) (place : ℕ) (vs : List Value) (state : State) → IsClosed around → GoesClosed (between_wide p around place vs state)
unfolding between_wide inside in_constraint_of
wide_goes_closed Production.Parameter around place (v ∷ []) state closed = here_closed around place (index_of v) state closed
wide_goes_closed Production.NestParameter around place (v ∷ []) state closed = here_closed around place (index_of v) state closed
wide_goes_closed Production.ParameterArgument around place (v ∷ []) state closed = here_closed around (place - 1) (index_of v) state closed
wide_goes_closed Production.ParameterExpression around place (v ∷ []) state closed = argument_here_closed around (place - 1) (index_of v) state closed
wide_goes_closed Production.HeldArguments around place [] state closed = closed
wide_goes_closed Production.DeclaredFirst around place [] state closed = closed
wide_goes_closed Production.Constraint around place [] state closed = tt
wide_goes_closed Production.EncodingLiteral around place (v ∷ []) state closed = literal_closed around closed
wide_goes_closed Production.Encoding around place [] state closed = name_around_closed around place
wide_goes_closed Production.Encoding around place (v ∷ []) state closed = types_around_closed around place (tree_of v)
wide_goes_closed Production.Holder around place (v ∷ []) state closed = holder_closed around place state closed
wide_goes_closed Production.NamedModule around place (v ∷ []) state closed = module_closed around (place - 1) (counted_value Seq36 (text_of v)) state closed
wide_goes_closed p around place vs state closed = goes_closed p around place vs state closed

pub wide_between_closed : (p : Production) (around : Around) (place : ℕ) (vs : List Value) (state : State) (n : Next Value State Around) → between_wide p around place vs state ≡ Ok n → IsClosed around → IsClosed n.context
wide_between_closed p around place vs state n is closed = subst (λ going. GoesClosed going) is (wide_goes_closed p around place vs state closed)
