-- A well shaped symbol is refused only for a bad token.
use Rattle.cpp_grammar.proofs.Basics.{ℕ, ◌+◌, ◌-◌, ◌^◌, List, [], ◌∷◌, ◌++◌, length, Bool, true, false, not, ◌||◌, ◌&&◌, cond, nat_eq, nat_lt, slice_get, Option, Some, None, Result, Ok, Err, IfErr, Refusal, Seq36, counted_value, Tree, Forest, branch, empty, token, fixed, nothing, grown, spell, Open, ◌>>=◌, found, alone, standing, unfold_tree, unfold_forest, IsBadToken, Production, Term, parameter, count, element, is_list, has_pack, length_if_pack, is_open, pack_length, Free, none_free, one_free, several_free, free_in, Lists, both_lists, longer_list, shorter_list, no_list, Candidate, State, Around, prefix_tree, Value, tree, text_of, part, local_number, appended, with_packs, packs_in, is_module, substituted, parameter_named, listed_so_far, parameter_so_far, index_of, between, next, argument_so_far, Action, quiet, goes, becomes, tests, holds, unread, before_part, tested as tested_, done, row_of, generic_so_far, parameter_here, is_foreign, in_scope, under_scope, with_free, restated, substituted_wide, numbered, place_in, named_in, left_at, with_lists, listed_by, opening_wide, is_instance, holder_so_far, module_named, module_so_far, between_wide, close_wide, cpp_wide, unfold_wide, argument_here, last_token, number_tested, opening, close, production_at, byte_of, cpp, first_around, first_state, first_tree, unfold_cpp}
use Rattle.cpp_grammar.proofs.Chosen.{either, if_there}
use Rattle.cpp_grammar.proofs.Ways.{Way, reading_by, abi_way, wide_way}

-- the result is a refusal only for a bad token
abbrev IsBad : {A : Type 0} → Result A Refusal → Type 0
IsBad r = IfErr r IsBadToken

bad_bind : {A B : Type 0} (m : Result A Refusal) (k : A → Result B Refusal) → IsBad m → ((x : A) → IsBad (k x)) → IsBad (m >>= k)
bad_bind (Ok x) k h g = g x
bad_bind (Err e) k h g = h

packs_bad : (place : ℕ) (inside : Bool) (o : Option ℕ) (state : State) → IsBad (with_packs place inside o state)
unfolding with_packs
packs_bad place inside None state = tt
packs_bad place false (Some m) state = tt
packs_bad place true (Some m) state = if_there IsBad state.packs _ _ tt (λ n is. either IsBad (nat_eq m n) _ _ (λ h. tt) (λ h. tt))

substituted_bad : (around : Around) (place : ℕ) (o : Option Candidate) (state : State) → IsBad (substituted around place o state)
unfolding substituted
substituted_bad around place None state = tt
substituted_bad around place (Some c) state =
    either IsBad (is_module c.tree || (is_open c.tree && (around.in_lambda || not (nat_eq c.encoding around.encoding)))) _ _ (λ h. tt)
    (λ h. bad_bind (with_packs place around.in_expansion (packs_in around.scope c.tree) state) (λ s. Ok (found (tree c.tree true) s))
    (packs_bad place around.in_expansion (packs_in around.scope c.tree) state) (λ s. tt))

named_bad : (around : Around) (place k : ℕ) (state : State) → IsBad (parameter_named around place k state)
unfolding parameter_named
named_bad around place k state =
    if_there IsBad around.scope _ _ tt (λ arguments is. either IsBad (nat_lt k (count arguments)) _ _
    (λ h. bad_bind (with_packs place around.in_expansion (length_if_pack (element arguments k)) state) (λ s. Ok (appended around (parameter k) s))
    (packs_bad place around.in_expansion (length_if_pack (element arguments k)) state) (λ s. tt))
    (λ h. tt))

parameter_bad : (around : Around) (place k : ℕ) (vs : List Value) (state : State) → IsBad (parameter_so_far around place k vs state)
unfolding parameter_so_far listed_so_far
parameter_bad around place k vs state = bad_bind (parameter_named around place k state) (λ s. listed_so_far around (parameter k) vs s) (named_bad around place k state) (λ s. tt)

argument_bad : (around : Around) (place k : ℕ) (state : State) → IsBad (argument_so_far around place k state)
unfolding argument_so_far
argument_bad around place k state =
    bad_bind (parameter_named around place k state) (λ s. next (tree (parameter k) true ∷ []) around (record s { candidates = state.candidates })) (named_bad around place k state) (λ s. tt)

number_bad : (place : ℕ) (digits : List ℕ) (state : State) → IsBad (number_tested place digits state)
unfolding number_tested
number_bad place digits state = either IsBad (nat_lt (local_number digits) (2 ^ 64)) _ _ (λ h. tt) (λ h. tt)

opening_bad : (p : Production) (parts : Forest) (place : ℕ) (state : State) → IsBad (opening p parts place state)
unfolding opening
opening_bad Production.Lambda parts place state = number_bad (place - 1) (last_token parts []) state
opening_bad Production.Unnamed parts place state = number_bad (place - 1) (last_token parts []) state
opening_bad _ parts place state = tt

done_bad : (b : Action) (around : Around) (place : ℕ) (vs : List Value) (state : State) → IsBad (done b around place vs state)
unfolding done tested_
done_bad quiet around place vs state = tt
done_bad (goes gain w) around place vs state = tt
done_bad (becomes m is_in is_name is_candidate) around place vs state = tt
done_bad (tests after_t is_name) around place vs state =
    let k = index_of (part vs 0) in
    let at = cond after_t (place - 1) place in
    bad_bind (parameter_named around at k state) (λ s. tested_ is_name around (parameter k) vs s state) (named_bad around at k state) (λ s. tt)
done_bad holds around place vs state = tt
done_bad unread around place vs state = tt

between_bad : (p : Production) (around : Around) (place : ℕ) (vs : List Value) (state : State) → IsBad (between p around place vs state)
unfolding between
between_bad p around place vs state = done_bad (before_part (row_of p) (length vs)) around place vs state

close_bad : (p : Production) (byte : ℕ) (around : Around) (place : ℕ) (began : State) (vs : List Value) (state : State) → IsBad (close p byte around place began vs state)
unfolding close
close_bad Production.Substitution byte around place began vs state = substituted_bad around (place - 1) (slice_get state.candidates (counted_value Seq36 (text_of (part vs 0)))) state
close_bad Production.Inheriting byte around place began vs state = tt
close_bad _ byte around place began vs state = tt

-- ## The reading of the wide grammar

here_bad : (around : Around) (place k : ℕ) (state : State) → IsBad (parameter_here around place k [] state)
unfolding parameter_here generic_so_far listed_so_far
here_bad around place k state = either IsBad around.in_lambda _ _ (λ h. tt) (λ h. parameter_bad around place k [] state)

argument_here_bad : (around : Around) (place k : ℕ) (state : State) → IsBad (argument_here around place k state)
unfolding argument_here
argument_here_bad around place k state = either IsBad around.in_lambda _ _ (λ h. tt) (λ h. argument_bad around place k state)

scope_bad : (around : Around) (place : ℕ) (t : Term) (k : ℕ) (state : State) → IsBad (in_scope around place t k state)
unfolding in_scope
scope_bad around place t k state =
    if_there IsBad around.scope _ _ tt (λ arguments is. either IsBad (nat_lt k (count arguments) && not (is_list (element arguments k))) _ _
    (λ h. bad_bind (with_packs place around.in_expansion (pack_length arguments t) state) (λ s. Ok (found (tree t true) s)) (packs_bad place around.in_expansion (pack_length arguments t) state)
    (λ s. tt)) (λ h. tt))

under_bad : (around : Around) (place : ℕ) (t : Term) (m : ℕ) (state : State) → IsBad (under_scope around place t m state)
unfolding under_scope
under_bad around place t m state = if_there IsBad around.scope _ _ tt (λ arguments is. either IsBad (nat_lt m (count arguments) && not (has_pack arguments)) _ _ (λ h. tt) (λ h. tt))

free_bad : (free : Free) (around : Around) (place : ℕ) (t : Term) (state : State) → IsBad (with_free free around place t state)
unfolding with_free
free_bad none_free around place t state = tt
free_bad (one_free k) around place t state = scope_bad around place t k state
free_bad (several_free m) around place t state = under_bad around place t m state

restated_bad : (around : Around) (place : ℕ) (t : Term) (state : State) → IsBad (restated around place t state)
unfolding restated
restated_bad around place t state = either IsBad around.in_lambda _ _ (λ h. tt) (λ h. free_bad (free_in t) around place t state)

wide_substituted_bad : (around : Around) (place : ℕ) (o : Option Candidate) (state : State) → IsBad (substituted_wide around place o state)
unfolding substituted_wide
wide_substituted_bad around place None state = tt
wide_substituted_bad around place (Some c) state = either IsBad (is_foreign around c) _ _ (λ h. restated_bad around place c.tree state) (λ h. substituted_bad around place (Some c) state)

listed_bad : (lists : Lists) (around : Around) (place number : ℕ) (state : State) → IsBad (listed_by lists around place number state)
unfolding listed_by
listed_bad longer_list around place number state = wide_substituted_bad around place (named_in false state.candidates number) state
listed_bad shorter_list around place number state = wide_substituted_bad around place (named_in true state.candidates number) state
listed_bad both_lists around place number state = tt
listed_bad no_list around place number state = tt

numbered_bad : (around : Around) (place number : ℕ) (state : State) → IsBad (numbered around place number state)
unfolding numbered
numbered_bad around place number state =
    let lists = left_at place number state in
    either IsBad (nat_eq (place_in false state.candidates number) (place_in true state.candidates number)) _ _ (λ h. wide_substituted_bad around place (named_in false state.candidates number) state)
    (λ h. listed_bad lists around place number (with_lists lists state))

wide_opening_bad : (p : Production) (around : Around) (parts : Forest) (place : ℕ) (state : State) → IsBad (opening_wide p around parts place state)
unfolding opening_wide
wide_opening_bad Production.NestTemplate around parts place state = tt
wide_opening_bad Production.QualifiedPlain around parts place state = tt
wide_opening_bad Production.Items around parts place state = tt
wide_opening_bad Production.NestNext around parts place state = tt
wide_opening_bad Production.NestEnd around parts place state = tt
wide_opening_bad p around parts place state = opening_bad p parts place state

holder_bad : (around : Around) (place : ℕ) (state : State) → IsBad (holder_so_far around place state)
unfolding holder_so_far listed_so_far
holder_bad around place state = either IsBad (is_instance (prefix_tree around.prefix)) _ _ (λ h. tt) (λ h. tt)

module_bad : (around : Around) (place number : ℕ) (state : State) → IsBad (module_so_far around place number state)
unfolding module_so_far listed_so_far
module_bad around place number state = if_there IsBad (module_named number state) _ _ tt (λ t is. tt)

wide_between_bad : (p : Production) (around : Around) (place : ℕ) (vs : List Value) (state : State) → IsBad (between_wide p around place vs state)
unfolding between_wide
wide_between_bad Production.NestParameter around place (v ∷ []) state = here_bad around place (index_of v) state
wide_between_bad Production.Parameter around place (v ∷ []) state = here_bad around place (index_of v) state
wide_between_bad Production.ParameterArgument around place (v ∷ []) state = here_bad around (place - 1) (index_of v) state
wide_between_bad Production.ParameterExpression around place (v ∷ []) state = argument_here_bad around (place - 1) (index_of v) state
wide_between_bad Production.HeldArguments around place [] state = tt
wide_between_bad Production.Constraint around place [] state = tt
wide_between_bad Production.EncodingLiteral around place (v ∷ []) state = tt
wide_between_bad Production.Encoding around place [] state = tt
wide_between_bad Production.Encoding around place (v ∷ []) state = tt
wide_between_bad Production.DeclaredFirst around place [] state = tt
wide_between_bad Production.Holder around place (v ∷ []) state = holder_bad around place state
wide_between_bad Production.NamedModule around place (v ∷ []) state = module_bad around (place - 1) (counted_value Seq36 (text_of v)) state
wide_between_bad p around place vs state = between_bad p around place vs state

wide_close_bad : (p : Production) (byte : ℕ) (around : Around) (place : ℕ) (began : State) (vs : List Value) (state : State) → IsBad (close_wide p byte around place began vs state)
unfolding close_wide
wide_close_bad Production.Substitution byte around place began vs state = numbered_bad around (place - 1) (counted_value Seq36 (text_of (part vs 0))) state
wide_close_bad Production.Lambda byte around place began vs state = tt
wide_close_bad Production.Encoding byte around place began vs state = tt
wide_close_bad Production.EncodingLiteral byte around place began vs state = tt
wide_close_bad Production.Inheriting byte around place began vs state = tt
wide_close_bad Production.Holder byte around place began vs state = tt
wide_close_bad p byte around place began vs state = close_bad p byte around place began vs state

-- ## Either reading

module _ (w : Way) (opening_is_bad : (p : Production) (around : Around) (parts : Forest) (place : ℕ) (state : State) → IsBad (w.opening p around parts place state))
    (between_is_bad : (p : Production) (around : Around) (place : ℕ) (vs : List Value) (state : State) → IsBad (w.between p around place vs state))
    (close_is_bad : (p : Production) (byte : ℕ) (around : Around) (place : ℕ) (began : State) (vs : List Value) (state : State) → IsBad (w.close p byte around place began vs state)) where
  mutual
    unfolding reading_by

    tree_bad : (t : Tree) (around : Around) (place : ℕ) (state : State) → IsBad (unfold_tree (reading_by w) around place t state)
    tree_bad (branch rule taken parts) around place state =
        let whole = standing rule taken place around state in
        let p = production_at rule.number in
        bad_bind (w.opening p around parts place state) (λ begun. unfold_forest (reading_by w) whole [] (place + length taken) parts begun >>= λ inner. w.close p (byte_of taken) around place state inner.value inner.state >>= alone)
        (opening_is_bad p around parts place state)
        (λ begun. bad_bind (unfold_forest (reading_by w) whole [] (place + length taken) parts begun) (λ inner. w.close p (byte_of taken) around place state inner.value inner.state >>= alone)
        (forest_bad parts whole [] (place + length taken) begun)
        (λ inner. bad_bind (w.close p (byte_of taken) around place state inner.value inner.state) alone (close_is_bad p (byte_of taken) around place state inner.value inner.state) (λ one. tt)))
    tree_bad empty around place state = tt
    tree_bad (token t) around place state = tt
    tree_bad (fixed byte) around place state = tt

    forest_bad : (f : Forest) (rule : Open State Around) (vs : List Value) (place : ℕ) (state : State) → IsBad (unfold_forest (reading_by w) rule vs place f state)
    forest_bad nothing rule vs place state = tt
    forest_bad (grown t f) rule vs place state =
        bad_bind (w.between (production_at rule.rule.number) rule.context rule.place vs state)
        (λ next. unfold_tree (reading_by w) next.context place t next.state >>= λ part. unfold_forest (reading_by w) rule (next.values ++ part.value) (place + length (spell t)) f part.state)
        (between_is_bad (production_at rule.rule.number) rule.context rule.place vs state)
        (λ next. bad_bind (unfold_tree (reading_by w) next.context place t next.state) (λ part. unfold_forest (reading_by w) rule (next.values ++ part.value) (place + length (spell t)) f part.state)
        (tree_bad t next.context place next.state) (λ part. forest_bad f rule (next.values ++ part.value) (place + length (spell t)) part.state))

pub refused_for_a_token : (shape : Tree) → IfErr (unfold_cpp shape) IsBadToken
unfolding unfold_cpp cpp reading_by abi_way
refused_for_a_token shape = bad_bind (unfold_tree cpp first_around 0 shape first_state) (λ whole. Ok (first_tree whole.value)) (tree_bad abi_way (λ p around parts place state. opening_bad p parts place state) between_bad close_bad shape first_around 0 first_state) (λ whole. tt)

pub wide_refused_for_a_token : (shape : Tree) → IfErr (unfold_wide shape) IsBadToken
unfolding unfold_wide cpp_wide reading_by wide_way
wide_refused_for_a_token shape = bad_bind (unfold_tree cpp_wide first_around 0 shape first_state) (λ whole. Ok (first_tree whole.value)) (tree_bad wide_way wide_opening_bad wide_between_bad wide_close_bad shape first_around 0 first_state) (λ whole. tt)
