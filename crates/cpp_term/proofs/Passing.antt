-- An encoding is passed over only as a part of a literal in a constraint. So no other part is read where an encoding is
-- passed over.
use Rattle.cpp_term.proofs.Basics.{◌≡◌, refl, ap, sym, ◌∙◌, ℕ, ◌-◌, List, [], ◌∷◌, length, Bool, true, false, ◌&&◌, cond, ◌⊎◌, inl, inr, Ok, Err, BadReference, Seq36, counted_value, Next, Production, Term, holder, parameter, is_at_literal, State, Around, prefix_tree, prefix_listed, Value, tree, tree_of, text_of, part, appended, parameter_named, Continuation, in_name, in_types, in_signature, under_expansion, after, inside, next, listed_so_far, parameter_so_far, argument_so_far, index_of, between, Where, in_its_name, in_its_types, Action, quiet, goes, becomes, tests, holds, unread, before_part, made, around_part, packs_within, gained, replaced, tested, done, row_of, is_open, either, if_there, ok_same, behind_bind, is_nothing, Way, abi_way, wide_way}
use Rattle.cpp_grammar.specs.Rescoping.{generic_number, generic_so_far, parameter_here, argument_here, with_holder, is_instance, holder_so_far, with_held, module_named, module_so_far, in_constraint_of, is_unseen, in_literal, is_passed_over, passed_over, name_around, types_around, between_wide}

-- an encoding that begins here isn't passed over
abbrev pub IsSeen : Around → Type 0
IsSeen around = is_at_literal around.showing ≡ false

unfoldable pub is_literal : Production → Bool
is_literal Production.EncodingLiteral = true
is_literal _ = false

-- this part is the encoding of a literal in a constraint
abbrev pub IsLiteral : (own : Bool) → Production → Around → List Value → Type 0
IsLiteral own p around vs = (own ≡ true) × (is_literal p ≡ true) × (is_unseen around ≡ true) × (is_nothing vs ≡ false)

pub record Sees (w : Way) : Type 0 where
  pub unpassed : (around : Around) → IsSeen around → w.passes around ≡ false
  pub onward : (p : Production) (around : Around) (place : ℕ) (vs : List Value) (state : State) (n : Next Value State Around) → IsSeen around → w.between p around place vs state ≡ Ok n → IsSeen n.context ⊎ IsLiteral w.own p around vs
  -- the values of a literal's parts stay as they are
  pub keeps : (around : Around) (place : ℕ) (vs : List Value) (state : State) (n : Next Value State Around) → w.between Production.EncodingLiteral around place vs state ≡ Ok n → n.values ≡ vs

next_seen : (vs : List Value) (around : Around) (state : State) (n : Next Value State Around) → IsSeen around → ◌≡◌ {A = Continuation} (next vs around state) (Ok n) → IsSeen n.context
next_seen vs around state n seen e = let whole : Next Value State Around = record { values = vs; context = around; state = state } in ap (λ m. is_at_literal m.context.showing) (sym (ok_same whole n e)) ∙ seen

part_seen : (w : Where) (around : Around) (place : ℕ) (vs : List Value) → IsSeen around → IsSeen (around_part around place vs w)
unfolding around_part in_name in_types in_signature under_expansion after inside is_at_literal
part_seen in_its_name around place vs seen = refl
part_seen in_its_types around place vs seen = refl
part_seen _ around place vs seen = seen

named_seen : (is_name : Bool) (t : Term) (is_in : Bool) (around : Around) → IsSeen around → IsSeen (cond is_name (after t is_in around) around)
unfolding after
named_seen true t is_in around seen = seen
named_seen false t is_in around seen = seen

done_seen : (b : Action) (around : Around) (place : ℕ) (vs : List Value) (state : State) (n : Next Value State Around) → IsSeen around → done b around place vs state ≡ Ok n → IsSeen n.context
unfolding done tested
done_seen quiet around place vs state n seen e = next_seen vs around state n seen e
done_seen (goes gain w) around place vs state n seen e = next_seen vs (around_part around place vs w) (packs_within w (gained gain around vs _ state)) n (part_seen w around place vs seen) e
done_seen (becomes m is_in is_name is_candidate) around place vs state n seen e =
    let t = made 0 around vs m in
    next_seen (replaced (tree t is_in) vs) (cond is_name (after t is_in around) around) (cond is_candidate (appended around t state) state) n (named_seen is_name t is_in around seen) e
done_seen (tests after_t is_name) around place vs state n seen e =
    let k = index_of (part vs 0) in
    let b = behind_bind (parameter_named around (cond after_t (place - 1) place) k state) (λ s. tested is_name around (parameter k) vs s state) n e in
    next_seen (replaced (tree (parameter k) true) vs) (cond is_name (after (parameter k) true around) around) (cond is_name b.value (record b.value { candidates = state.candidates })) n (named_seen is_name (parameter k) true around seen) b.next
done_seen holds around place vs state n seen e = let clash : ◌≡◌ {A = Continuation} (Err (BadReference place)) (Ok n) = e in absurd cc
done_seen unread around place vs state n seen e = let clash : ◌≡◌ {A = Continuation} (Err (BadReference place)) (Ok n) = e in absurd cc

between_seen : (p : Production) (around : Around) (place : ℕ) (vs : List Value) (state : State) (n : Next Value State Around) → IsSeen around → between p around place vs state ≡ Ok n → IsSeen n.context
unfolding between
between_seen p around place vs state n seen e = done_seen (before_part (row_of p) (length vs)) around place vs state n seen e

-- ## The reading of the wide grammar

listed_seen : (t : Term) (around : Around) (state : State) (n : Next Value State Around) → IsSeen around → listed_so_far around t [] state ≡ Ok n → IsSeen n.context
unfolding listed_so_far
listed_seen t around state n seen e = next_seen (tree t true ∷ []) (after t true around) state n (named_seen true t true around seen) e

here_seen : (around : Around) (place k : ℕ) (state : State) (n : Next Value State Around) → IsSeen around → parameter_here around place k [] state ≡ Ok n → IsSeen n.context
unfolding parameter_here parameter_so_far generic_so_far
here_seen around place k state n seen e =
    either {A = Continuation} (λ x. x ≡ Ok n → IsSeen n.context) around.in_lambda _ _
    (λ is h. listed_seen (parameter (generic_number k)) around (appended around (parameter (generic_number k)) state) n seen h)
    (λ is h. let b = behind_bind (parameter_named around place k state) (λ s. listed_so_far around (parameter k) [] s) n h in listed_seen (parameter k) around b.value n seen b.next) e

argument_seen : (around : Around) (place k : ℕ) (state : State) (n : Next Value State Around) → IsSeen around → argument_here around place k state ≡ Ok n → IsSeen n.context
unfolding argument_here argument_so_far
argument_seen around place k state n seen e =
    either {A = Continuation} (λ x. x ≡ Ok n → IsSeen n.context) around.in_lambda _ _
    (λ is h. next_seen (tree (parameter (generic_number k)) true ∷ []) around state n seen h)
    (λ is h.
    let b = behind_bind (parameter_named around place k state) (λ s. next (tree (parameter k) true ∷ []) around (record s { candidates = state.candidates })) n h in
    next_seen (tree (parameter k) true ∷ []) around (record b.value { candidates = state.candidates }) n seen b.next) e

holder_seen : (around : Around) (place : ℕ) (state : State) (n : Next Value State Around) → IsSeen around → holder_so_far around place state ≡ Ok n → IsSeen n.context
unfolding holder_so_far
holder_seen around place state n seen e =
    let t = holder (prefix_tree around.prefix) in
    either {A = Continuation} (λ x. x ≡ Ok n → IsSeen n.context) (is_instance (prefix_tree around.prefix)) (Err (BadReference place)) (listed_so_far around t [] (with_holder around t state)) (λ is h. absurd cc)
    (λ is h. listed_seen t around (with_holder around t state) n seen h) e

module_seen : (around : Around) (place number : ℕ) (state : State) (n : Next Value State Around) → IsSeen around → module_so_far around place number state ≡ Ok n → IsSeen n.context
unfolding module_so_far
module_seen around place number state n seen e =
    if_there {B = Continuation} (λ x. x ≡ Ok n → IsSeen n.context) (module_named number state) (Err (BadReference place)) (λ t. listed_so_far around t [] state) (λ h. absurd cc) (λ t is h. listed_seen t around state n seen h) e

literal_seen : (around : Around) (v : Value) (state : State) (n : Next Value State Around) → IsSeen around → ◌≡◌ {A = Continuation} (next (v ∷ []) (in_literal around) state) (Ok n) → IsSeen n.context ⊎ IsLiteral true Production.EncodingLiteral around (v ∷ [])
unfolding in_literal is_literal is_nothing
literal_seen around v state n seen e =
    either {A = Around} (λ c. ◌≡◌ {A = Continuation} (next (v ∷ []) c state) (Ok n) → IsSeen n.context ⊎ IsLiteral true Production.EncodingLiteral around (v ∷ [])) (is_unseen around) _ around
    (λ unseen h. inr (refl, refl, unseen, refl)) (λ other h. inl (next_seen (v ∷ []) around state n seen h)) e

wide_goes_seen : (p : Production) (around : Around) (place : ℕ) (vs : List Value) (state : State) (n : Next Value State Around) → IsSeen around → between_wide p around place vs state ≡ Ok n → IsSeen n.context ⊎ IsLiteral true p around vs
unfolding between_wide name_around types_around passed_over in_name in_types inside in_constraint_of is_at_literal
wide_goes_seen Production.Parameter around place (v ∷ []) state n seen e = inl (here_seen around place (index_of v) state n seen e)
wide_goes_seen Production.NestParameter around place (v ∷ []) state n seen e = inl (here_seen around place (index_of v) state n seen e)
wide_goes_seen Production.ParameterArgument around place (v ∷ []) state n seen e = inl (here_seen around (place - 1) (index_of v) state n seen e)
wide_goes_seen Production.ParameterExpression around place (v ∷ []) state n seen e = inl (argument_seen around (place - 1) (index_of v) state n seen e)
wide_goes_seen Production.HeldArguments around place [] state n seen e =
    inl (next_seen [] (inside around) (with_held (prefix_listed around.prefix) around (prefix_tree around.prefix) state) n seen e)
wide_goes_seen Production.DeclaredFirst around place [] state n seen e = inl (next_seen [] around state n seen e)
wide_goes_seen Production.Holder around place (v ∷ []) state n seen e = inl (holder_seen around place state n seen e)
wide_goes_seen Production.Constraint around place [] state n seen e = inl (next_seen [] (in_constraint_of around) state n refl e)
wide_goes_seen Production.EncodingLiteral around place (v ∷ []) state n seen e = literal_seen around v state n seen e
wide_goes_seen Production.Encoding around place [] state n seen e =
    inl (either {A = Around} (λ c. ◌≡◌ {A = Continuation} (next [] c state) (Ok n) → IsSeen n.context) (is_passed_over around) _ _ (λ is h. next_seen [] (passed_over place) state n refl h) (λ is h. next_seen [] (in_name place) state n refl h) e)
wide_goes_seen Production.Encoding around place (v ∷ []) state n seen e =
    inl (either {A = Around} (λ c. ◌≡◌ {A = Continuation} (next (v ∷ []) c state) (Ok n) → IsSeen n.context) (is_passed_over around && is_open (tree_of v)) _ _
    (λ is h. next_seen (v ∷ []) (passed_over place) state n refl h) (λ is h. next_seen (v ∷ []) (in_types place (tree_of v)) state n refl h) e)
wide_goes_seen Production.NamedModule around place (v ∷ []) state n seen e = inl (module_seen around (place - 1) (counted_value Seq36 (text_of v)) state n seen e)
wide_goes_seen p around place vs state n seen e = inl (between_seen p around place vs state n seen e)

next_keeps : (vs : List Value) (around : Around) (state : State) (n : Next Value State Around) → ◌≡◌ {A = Continuation} (next vs around state) (Ok n) → n.values ≡ vs
next_keeps vs around state n e = let whole : Next Value State Around = record { values = vs; context = around; state = state } in ap (λ m. m.values) (sym (ok_same whole n e))

literal_keeps : (around : Around) (place : ℕ) (vs : List Value) (state : State) (n : Next Value State Around) → between Production.EncodingLiteral around place vs state ≡ Ok n → n.values ≡ vs
unfolding between
literal_keeps around place [] state n e = next_keeps [] around state n e
literal_keeps around place (v ∷ []) state n e = next_keeps (v ∷ []) around state n e
literal_keeps around place (v ∷ u ∷ vs) state n e = next_keeps (v ∷ u ∷ vs) around state n e

wide_literal_keeps : (around : Around) (place : ℕ) (vs : List Value) (state : State) (n : Next Value State Around) → between_wide Production.EncodingLiteral around place vs state ≡ Ok n → n.values ≡ vs
unfolding between_wide
wide_literal_keeps around place [] state n e = literal_keeps around place [] state n e
wide_literal_keeps around place (v ∷ []) state n e = next_keeps (v ∷ []) (in_literal around) state n e
wide_literal_keeps around place (v ∷ u ∷ vs) state n e = literal_keeps around place (v ∷ u ∷ vs) state n e

pub abi_sees : Sees abi_way
unfolding abi_way
abi_sees = record { unpassed = λ around seen. refl; onward = λ p around place vs state n seen e. inl (between_seen p around place vs state n seen e); keeps = literal_keeps }

never : (b s : Bool) → s ≡ false → (b && s) ≡ false
never true s h = h
never false s h = refl

pub wide_sees : Sees wide_way
unfolding wide_way is_passed_over
wide_sees = record { unpassed = λ around seen. never around.in_lambda (is_at_literal around.showing) seen; onward = wide_goes_seen; keeps = wide_literal_keeps }
