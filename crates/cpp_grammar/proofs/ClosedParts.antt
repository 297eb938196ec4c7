-- The steps between the parts of a production leave closed trees closed.
use Rattle.cpp_grammar.proofs.Basics.{◌≡◌, refl, sym, ◌∙◌, subst, ℕ, ◌-◌, List, [], ◌∷◌, length, Bool, true, false, not, ◌&&◌, cond, nat_eq, Option, Some, None, Ok, Err, BadReference, Seq36, counted_value, true≢false, false≢true, Next, ◌>>=◌, Production, in_constraint_of, is_unseen, in_literal, generic_number, generic_so_far, parameter_here, argument_here, with_holder, is_instance, holder_so_far, with_held, place_in, named_in, named_by_both, module_of, module_named, module_so_far, between_wide, Term, holder, parameter, is_open, Candidate, State, Around, prefix_tree, prefix_listed, Value, nothing_there, tree, tree_of, text_of, part, appended, is_module, parameter_named, in_signature, under_expansion, after, inside, Continuation, listed_so_far, parameter_so_far, argument_so_far, index_of, next, between, Where, as_before, in_its_name, in_its_types, in_a_signature, under_it, nameless, after_part, after_the_name, Action, quiet, goes, becomes, tests, holds, unread, before_part, made, is_listing, around_part, packs_within, gained, replaced, tested, done, row_of}
use Rattle.cpp_grammar.proofs.Ways.{has_signature}
use Rattle.cpp_grammar.proofs.Chosen.{either}
use Rattle.cpp_grammar.proofs.Steps.{second_of_both, all_pass, step_passes, is_here, goes_here}
use Rattle.cpp_grammar.proofs.ClosedValues.{all_where, Good, AllGood, GoodPrefix, held, good_nothing, good_part, good_prefix, made_tree_good}
use Rattle.cpp_grammar.proofs.Declared.{read_of, read_abi}
use Rattle.cpp_grammar.proofs.ClosedStates.{Bare, Within, IsOld, AllOld, old_get, Grows, grows_same, grows_one, grows_held, grows_packs, before_arguments_grow, gained_grows, parameter_good, parameter_grows, ok_same, behind_bind}

-- what surrounds a part in the same encoding
pub record Fits (own : Bool) (around inner : Around) : Type 0 where
  pub encoding : inner.encoding ≡ around.encoding
  pub scope : around.scope ≡ None → inner.scope ≡ None
  pub back : Bare own inner → inner.in_lambda ≡ false → Bare own around × (around.in_lambda ≡ false)
  pub prefix : GoodPrefix (Bare own inner) inner.prefix

-- the inputs of the next part, where the values so far are closed under a condition
pub record Goes (own : Bool) (s : Type 0) (around : Around) (at : ℕ) (state : State) (n : Next Value State Around) : Type 0 where
  pub values : AllGood s n.values
  pub grows : Grows own around at state n.state
  pub fits : Fits own around n.context
  pub bare : s → Bare own n.context

-- likewise, under the condition that no parameters are named
abbrev GoesOn : (own : Bool) → Around → (at : ℕ) → State → Next Value State Around → Type 0
GoesOn own around at state n = Goes own (Bare own around) around at state n

goes_by : (own : Bool) (s : Type 0) (around : Around) (at : ℕ) (state : State) (vs : List Value) (inner : Around) (new : State) (n : Next Value State Around) →
    AllGood s vs → Grows own around at state new → Fits own around inner → (s → Bare own inner) → ◌≡◌ {A = Continuation} (Ok (record { context = inner; values = vs; state = new })) (Ok n) → Goes own s around at state n
goes_by own s around at state vs inner new n values grows fits bare e =
    let whole : Next Value State Around = record { context = inner; values = vs; state = new } in
    subst (λ x. Goes own s around at state x) (ok_same whole n e) (record { values = values; grows = grows; fits = fits; bare = bare })

-- the surroundings of a part that is in no signature of its own
record FitsBare (own : Bool) (around inner : Around) : Type 0 where
  fits : Fits own around inner
  bare : Bare own around → Bare own inner

goes_to : (own : Bool) (around : Around) (at : ℕ) (state : State) (vs : List Value) (inner : Around) (new : State) (n : Next Value State Around) →
    AllGood (Bare own around) vs → Grows own around at state new → FitsBare own around inner → ◌≡◌ {A = Continuation} (Ok (record { context = inner; values = vs; state = new })) (Ok n) → GoesOn own around at state n
goes_to own around at state vs inner new n values grows fits e = goes_by own (Bare own around) around at state vs inner new n values grows fits.fits fits.bare e

fits_same : (own : Bool) (around : Around) → GoodPrefix (Bare own around) around.prefix → FitsBare own around around
fits_same own around pre = record { fits = record { encoding = refl; scope = λ h. h; back = λ h f. (h, f); prefix = pre }; bare = λ h. h }

fits_after : (own : Bool) (around : Around) (t : Term) (listed : Bool) → Good (Bare own around) t → FitsBare own around (after t listed around)
unfolding after
fits_after own around t listed good = record { fits = record { encoding = refl; scope = λ h. h; back = λ h f. (h, f); prefix = good }; bare = λ h. h }

fits_inside : (own : Bool) (around : Around) → FitsBare own around (inside around)
unfolding inside
fits_inside own around = record { fits = record { encoding = refl; scope = λ h. h; back = λ h f. (h, f); prefix = tt }; bare = λ h. h }

fits_expansion : (own : Bool) (around : Around) → GoodPrefix (Bare own around) around.prefix → FitsBare own around (under_expansion around)
unfolding under_expansion
fits_expansion own around pre = record { fits = record { encoding = refl; scope = λ h. h; back = λ h f. (h, f); prefix = pre }; bare = λ h. h }

fits_signature : (own : Bool) (around : Around) → Fits own around (in_signature around)
unfolding in_signature
fits_signature own around = record { encoding = refl; scope = λ h. refl; back = λ h f. absurd (true≢false f); prefix = tt }

fits_constraint : (around : Around) → Fits true around (in_constraint_of around)
unfolding in_constraint_of
fits_constraint around = record { encoding = refl; scope = λ h. refl; back = λ h f. absurd (true≢false f); prefix = tt }

fits_literal : (around : Around) → GoodPrefix (Bare true around) around.prefix → FitsBare true around (in_literal around)
unfolding in_literal
fits_literal around pre =
    either (FitsBare true around) (is_unseen around) _ _ (λ is. record { fits = record { encoding = refl; scope = λ h. h; back = λ h f. (h, f); prefix = pre }; bare = λ h. h }) (λ is. fits_same true around pre)

-- a production whose parts are in the encoding around it
abbrev pub StaysInside : Production → Type 0
StaysInside Production.Encoding = ⊥
StaysInside Production.Special = ⊥
StaysInside Production.OtherSpecial = ⊥
StaysInside _ = Unit {0}

replaced_good : (s : Type 0) (v : Value) (vs : List Value) → Good s (held v) → AllGood s vs → AllGood s (replaced v vs)
unfolding replaced
replaced_good s v [] good all = tt
replaced_good s v (w ∷ ws) good all = (good, all.1)

-- the first value becomes a tree, which may be the name so far
becomes_goes : (own : Bool) (around : Around) (at : ℕ) (state : State) (t : Term) (is_in is_name : Bool) (vs : List Value) (new : State) (n : Next Value State Around) → GoodPrefix (Bare own around) around.prefix →
    Good (Bare own around) t → AllGood (Bare own around) vs → Grows own around at state new →
    ◌≡◌ {A = Continuation} (Ok (record { context = cond is_name (after t is_in around) around; values = replaced (tree t is_in) vs; state = new })) (Ok n) → GoesOn own around at state n
unfolding held
becomes_goes own around at state t is_in true vs new n pre good all grows e =
    goes_to own around at state (replaced (tree t is_in) vs) (after t is_in around) new n (replaced_good (Bare own around) (tree t is_in) vs good all) grows (fits_after own around t is_in good) e
becomes_goes own around at state t is_in false vs new n pre good all grows e =
    goes_to own around at state (replaced (tree t is_in) vs) around new n (replaced_good (Bare own around) (tree t is_in) vs good all) grows (fits_same own around pre) e

candidate_grows : (own : Bool) (around : Around) (at : ℕ) (t : Term) (state : State) (is_candidate : Bool) → Good (Bare own around) t → Grows own around at state (cond is_candidate (appended around t state) state)
candidate_grows own around at t state true good = grows_one own around at t state good
candidate_grows own around at t state false good = grows_same own around at state state refl

-- unless the parameter is the name so far, the candidates stay as they are
kept_grows : (own : Bool) (around : Around) (at : ℕ) (state now : State) (is_name : Bool) → Grows own around at state now → Grows own around at state (cond is_name now (record now { candidates = state.candidates }))
kept_grows own around at state now true grows = grows
kept_grows own around at state now false grows = grows_same own around at state (record now { candidates = state.candidates }) refl

tests_goes : (own : Bool) (around : Around) (place at : ℕ) (state : State) (k : ℕ) (is_name : Bool) (vs : List Value) (n : Next Value State Around) → GoodPrefix (Bare own around) around.prefix → AllGood (Bare own around) vs →
    (parameter_named around place k state >>= λ s. tested is_name around (parameter k) vs s state) ≡ Ok n → GoesOn own around at state n
unfolding tested
tests_goes own around place at state k is_name vs n pre all e =
    let b = behind_bind (parameter_named around place k state) (λ s. tested is_name around (parameter k) vs s state) n e in
    let named = parameter_grows own around place k at state b.value b.is in
    becomes_goes own around at state (parameter k) true is_name vs (cond is_name b.value (record b.value { candidates = state.candidates })) n pre (parameter_good own around k named.scoped) all
    (kept_grows own around at state b.value is_name named.grows) b.next

-- what surrounds a part that is in the encoding around it, and in no signature
around_fits : (own : Bool) (w : Where) (around : Around) (place : ℕ) (vs : List Value) → is_here w ≡ true → GoodPrefix (Bare own around) around.prefix → AllGood (Bare own around) vs → FitsBare own around (around_part around place vs w)
unfolding is_here around_part
around_fits own in_its_name around place vs here pre all = absurd (false≢true here)
around_fits own in_its_types around place vs here pre all = absurd (false≢true here)
around_fits own in_a_signature around place vs here pre all = absurd (false≢true here)
around_fits own as_before around place vs here pre all = fits_same own around pre
around_fits own under_it around place vs here pre all = fits_expansion own around pre
around_fits own nameless around place vs here pre all = fits_inside own around
around_fits own (after_part k listing) around place vs here pre all = fits_after own around (tree_of (part vs k)) (is_listing vs listing) (good_part (Bare own around) vs k all)
around_fits own after_the_name around place vs here pre all = fits_after own around (prefix_tree around.prefix) true (good_prefix (Bare own around) around.prefix pre)

packs_grow : (own : Bool) (w : Where) (around : Around) (at : ℕ) (state new : State) → Grows own around at state new → Grows own around at state (packs_within w new)
unfolding packs_within
packs_grow own under_it around at state new grows = grows_packs own around at state new None grows
packs_grow own _ around at state new grows = grows

done_goes : (own : Bool) (b : Action) (around : Around) (place : ℕ) (vs : List Value) (state : State) (n : Next Value State Around) (at : ℕ) → goes_here b ≡ true →
    GoodPrefix (Bare own around) around.prefix → AllGood (Bare own around) vs → done b around place vs state ≡ Ok n → GoesOn own around at state n
unfolding goes_here done tree_of
done_goes own quiet around place vs state n at here pre all e = goes_to own around at state vs around state n all (grows_same own around at state state refl) (fits_same own around pre) e
done_goes own (goes gain w) around place vs state n at here pre all e =
    goes_to own around at state vs (around_part around place vs w) (packs_within w (gained gain around vs nothing_there state)) n all
    (packs_grow own w around at state (gained gain around vs nothing_there state) (gained_grows own gain around vs nothing_there state at pre all (good_nothing (Bare own around)))) (around_fits own w around place vs here pre all) e
done_goes own (becomes m is_in is_name is_candidate) around place vs state n at here pre all e =
    let t = made 0 around vs m in
    let good = made_tree_good (Bare own around) 0 around vs m pre all in
    becomes_goes own around at state t is_in is_name vs (cond is_candidate (appended around t state) state) n pre good all (candidate_grows own around at t state is_candidate good) e
done_goes own (tests after_t is_name) around place vs state n at here pre all e = tests_goes own around (cond after_t (place - 1) place) at state (index_of (part vs 0)) is_name vs n pre all e
done_goes own holds around place vs state n at here pre all e = let clash : ◌≡◌ {A = Continuation} (Err (BadReference place)) (Ok n) = e in absurd cc
done_goes own unread around place vs state n at here pre all e = let clash : ◌≡◌ {A = Continuation} (Err (BadReference place)) (Ok n) = e in absurd cc

within : (own : Bool) (p : Production) (around : Around) (at : ℕ) (state : State) (n : Next Value State Around) → GoesOn own around at state n → Goes own (Within own p around) around at state n
within own p around at state n g = record { values = all_where (Bare own around) (Within own p around) n.values (λ w. w.0) g.values; grows = g.grows; fits = g.fits; bare = λ w. g.bare w.0 }

-- in a lambda's signature only the lambda's own parameters are named
signature_goes : (own : Bool) (p : Production) (around : Around) (at : ℕ) (vs : List Value) (state : State) (n : Next Value State Around) → has_signature p ≡ true → AllGood (Within own p around) vs →
    ◌≡◌ {A = Continuation} (next vs (in_signature around) state) (Ok n) → Goes own (Within own p around) around at state n
unfolding in_signature
signature_goes own p around at vs state n is all e =
    goes_by own (Within own p around) around at state vs (in_signature around) state n all (grows_same own around at state state refl) (fits_signature own around)
    (λ within. (refl, λ o. absurd (true≢false (sym is ∙ within.1 o)))) e

-- the inputs of the next part, where the surroundings stay as they are
quiet_goes : (own : Bool) (p : Production) (around : Around) (at : ℕ) (vs : List Value) (state : State) (n : Next Value State Around) → GoodPrefix (Bare own around) around.prefix → AllGood (Within own p around) vs →
    ◌≡◌ {A = Continuation} (next vs around state) (Ok n) → Goes own (Within own p around) around at state n
quiet_goes own p around at vs state n pre all e =
    goes_by own (Within own p around) around at state vs around state n all (grows_same own around at state state refl) (fits_same own around pre).fits (λ within. within.0) e

-- likewise for any production with parts in the encoding around it
pub goes_within : (own : Bool) (production : Production) (around : Around) (place : ℕ) (vs : List Value) (state : State) (n : Next Value State Around) (at : ℕ) → StaysInside production →
    GoodPrefix (Bare own around) around.prefix → AllGood (Within own production around) vs → between production around place vs state ≡ Ok n → Goes own (Within own production around) around at state n
unfolding between has_signature in_signature all_pass goes_here is_here
goes_within own Production.Encoding around place vs state n at stays pre all e = absurd stays
goes_within own Production.Special around place vs state n at stays pre all e = absurd stays
goes_within own Production.OtherSpecial around place vs state n at stays pre all e = absurd stays
goes_within own Production.Lambda around place vs state n at stays pre all e = signature_goes own Production.Lambda around at vs state n refl all e
goes_within own Production.ValueOf around place vs state n at stays pre all e = signature_goes own Production.ValueOf around at vs state n refl all e
goes_within own Production.OfConcept around place vs state n at stays pre all e = signature_goes own Production.OfConcept around at vs state n refl all e
goes_within own Production.Constraint around place [] state n at stays pre all e = let clash : ◌≡◌ {A = Continuation} (Err (BadReference place)) (Ok n) = e in absurd cc
goes_within own Production.Constraint around place (v ∷ vs) state n at stays pre all e = quiet_goes own Production.Constraint around at (v ∷ vs) state n pre all e
goes_within own Production.TemplateOf around place vs state n at stays pre all e = quiet_goes own Production.TemplateOf around at vs state n pre all e
goes_within own Production.PackOf around place vs state n at stays pre all e = quiet_goes own Production.PackOf around at vs state n pre all e
goes_within own Production.Declarations around place vs state n at stays pre all e = quiet_goes own Production.Declarations around at vs state n pre all e
goes_within own Production.FirstWithT around place vs state n at stays pre all e = quiet_goes own Production.FirstWithT around at vs state n pre all e
goes_within own Production.DeclaredFirst around place [] state n at stays pre all e = let clash : ◌≡◌ {A = Continuation} (Err (BadReference place)) (Ok n) = e in absurd cc
goes_within own Production.DeclaredFirst around place (v ∷ vs) state n at stays pre all e = quiet_goes own Production.DeclaredFirst around at (v ∷ vs) state n pre all e
goes_within own p around place vs state n at stays pre all e =
    within own p around at state n (done_goes own (before_part (row_of p) (length vs)) around place vs state n at (step_passes goes_here (row_of p) refl (length vs)) pre
    (all_where (Within own p around) (Bare own around) vs (λ bare. (bare, λ o. refl)) all) e)

-- ## The reading of the wide grammar

named_goes : (around : Around) (at : ℕ) (state new : State) (t : Term) (n : Next Value State Around) → Good (Bare true around) t → Grows true around at state new →
    listed_so_far around t [] new ≡ Ok n → GoesOn true around at state n
unfolding listed_so_far held
named_goes around at state new t n good grows e = goes_to true around at state (tree t true ∷ []) (after t true around) new n (good, tt) grows (fits_after true around t true good) e

generic_goes : (around : Around) (at : ℕ) (state : State) (k : ℕ) (n : Next Value State Around) → around.in_lambda ≡ true → generic_so_far around k [] state ≡ Ok n → GoesOn true around at state n
unfolding generic_so_far
generic_goes around at state k n is e =
    let t = parameter (generic_number k) in
    let good : Good (Bare true around) t = record { closed = λ bare. absurd (true≢false (sym is ∙ bare.1 refl)); scopes = λ n. tt } in
    named_goes around at state (appended around t state) t n good (grows_one true around at t state good) e

here_goes : (around : Around) (place at : ℕ) (state : State) (k : ℕ) (n : Next Value State Around) → GoodPrefix (Bare true around) around.prefix → parameter_here around place k [] state ≡ Ok n → GoesOn true around at state n
unfolding parameter_here parameter_so_far listed_so_far tested replaced held
here_goes around place at state k n pre e =
    either (λ x. x ≡ Ok n → GoesOn true around at state n) around.in_lambda _ _ (λ is h. generic_goes around at state k n is h)
    (λ is h. tests_goes true around place at state k true (nothing_there ∷ []) n pre (good_nothing (Bare true around), tt) h) e

here_within : (p : Production) (around : Around) (place at : ℕ) (state : State) (k : ℕ) (n : Next Value State Around) → GoodPrefix (Bare true around) around.prefix → parameter_here around place k [] state ≡ Ok n →
    Goes true (Within true p around) around at state n
here_within p around place at state k n pre e = within true p around at state n (here_goes around place at state k n pre e)

argument_here_goes : (around : Around) (place at : ℕ) (state : State) (k : ℕ) (n : Next Value State Around) → GoodPrefix (Bare true around) around.prefix → argument_here around place k state ≡ Ok n →
    GoesOn true around at state n
unfolding argument_here argument_so_far tested replaced held
argument_here_goes around place at state k n pre e =
    let named : Term = parameter (generic_number k) in
    either (λ x. x ≡ Ok n → GoesOn true around at state n) around.in_lambda _ _
    (λ is h.
    let good : Good (Bare true around) named = record { closed = λ bare. absurd (true≢false (sym is ∙ bare.1 refl)); scopes = λ n. tt } in
    goes_to true around at state (tree named true ∷ []) around state n (good, tt) (grows_same true around at state state refl) (fits_same true around pre) h)
    (λ is h. tests_goes true around place at state k false (nothing_there ∷ []) n pre (good_nothing (Bare true around), tt) h) e

holder_goes : (around : Around) (place at : ℕ) (state : State) (n : Next Value State Around) → GoodPrefix (Bare true around) around.prefix → holder_so_far around place state ≡ Ok n → GoesOn true around at state n
unfolding holder_so_far is_open
holder_goes around place at state n pre e =
    let named : Term = holder (prefix_tree around.prefix) in
    let g = good_prefix (Bare true around) around.prefix pre in
    let good : Good (Bare true around) named = record { closed = g.closed; scopes = g.scopes } in
    either (λ x. x ≡ Ok n → GoesOn true around at state n) (is_instance (prefix_tree around.prefix)) _ _ (λ is h. absurd cc)
    (λ is h. named_goes around at state (with_holder around named state) named n good (grows_held true around at named state good) h) e

not_true : (b : Bool) → not b ≡ true → b ≡ false
not_true true h = absurd (false≢true h)
not_true false h = refl

-- a module has no parameters wherever it was made
module_goes : (around : Around) (place number at : ℕ) (state : State) (n : Next Value State Around) → AllOld true around at state.candidates → module_so_far around place number state ≡ Ok n → GoesOn true around at state n
unfolding module_so_far module_named named_by_both named_in module_of
module_goes around place number at state n old e = found_ (named_by_both state.candidates number) named e
  where
    named : (c : Candidate) → named_by_both state.candidates number ≡ Some c → IsOld true around at c
    named c =
        either (λ o. o ≡ Some c → IsOld true around at c) (nat_eq (place_in false state.candidates number) (place_in true state.candidates number)) _ _
        (λ same is. old_get true around at state.candidates (place_in false state.candidates number) c old is) (λ other is. absurd cc)

    found_ : (o : Option Candidate) → ((c : Candidate) → o ≡ Some c → IsOld true around at c) → ◌≡◌ {A = Continuation} (elim (module_of o) [ None ↦ Err (BadReference place) | Some t ↦ listed_so_far around t [] state ]) (Ok n) → GoesOn true around at state n
    found_ None each h = let clash : ◌≡◌ {A = Continuation} (Err (BadReference place)) (Ok n) = h in absurd cc
    found_ (Some c) each h =
        either (λ m. ◌≡◌ {A = Continuation} (elim m [ None ↦ Err (BadReference place) | Some t ↦ listed_so_far around t [] state ]) (Ok n) → GoesOn true around at state n) (is_module c.tree && not (is_open c.tree)) (Some c.tree) None
        (λ is g.
        let closed = not_true (is_open c.tree) (second_of_both (is_module c.tree) (not (is_open c.tree)) is) in
        named_goes around at state state c.tree n (record { closed = λ bare. closed; scopes = λ n. (each c refl).scopes }) (grows_same true around at state state refl) g)
        (λ none g. let clash : ◌≡◌ {A = Continuation} (Err (BadReference place)) (Ok n) = g in absurd cc) h

base_goes : (around : Around) (at : ℕ) (state : State) (n : Next Value State Around) → GoodPrefix (Bare true around) around.prefix →
    ◌≡◌ {A = Continuation} (next [] (inside around) (with_held (prefix_listed around.prefix) around (prefix_tree around.prefix) state)) (Ok n) → GoesOn true around at state n
base_goes around at state n pre e =
    let listed = prefix_listed around.prefix in
    let t = prefix_tree around.prefix in
    goes_to true around at state [] (inside around) (with_held listed around t state) n tt (before_arguments_grow around at listed t state (good_prefix (Bare true around) around.prefix pre)) (fits_inside true around) e

pub wide_goes : (production : Production) (around : Around) (place : ℕ) (vs : List Value) (state : State) (n : Next Value State Around) (at : ℕ) → StaysInside production →
    GoodPrefix (Bare true around) around.prefix → AllOld true around at state.candidates → AllGood (Within true production around) vs → between_wide production around place vs state ≡ Ok n → Goes true (Within true production around) around at state n
unfolding between_wide has_signature
wide_goes Production.Parameter around place (v ∷ []) state n at stays pre old all e = here_within Production.Parameter around place at state (index_of v) n pre e
wide_goes Production.ParameterArgument around place (v ∷ []) state n at stays pre old all e = here_within Production.ParameterArgument around (place - 1) at state (index_of v) n pre e
wide_goes Production.ParameterExpression around place (v ∷ []) state n at stays pre old all e =
    within true Production.ParameterExpression around at state n (argument_here_goes around (place - 1) at state (index_of v) n pre e)
wide_goes Production.DeclaredFirst around place [] state n at stays pre old all e =
    within true Production.DeclaredFirst around at state n (goes_to true around at state [] around state n tt (grows_same true around at state state refl) (fits_same true around pre) e)
wide_goes Production.Constraint around place [] state n at stays pre old all e =
    goes_by true (Within true Production.Constraint around) around at state [] (in_constraint_of around) state n tt (grows_same true around at state state refl) (fits_constraint around)
    (λ within. absurd (true≢false (within.1 refl))) e
wide_goes Production.EncodingLiteral around place (v ∷ []) state n at stays pre old all e =
    within true Production.EncodingLiteral around at state n
    (goes_to true around at state (v ∷ []) (in_literal around) state n (all_where (Within true Production.EncodingLiteral around) (Bare true around) (v ∷ []) (λ bare. (bare, λ o. refl)) all) (grows_same true around at state state refl)
    (fits_literal around pre) e)
wide_goes Production.Encoding around place vs state n at stays pre old all e = absurd stays
wide_goes Production.HeldArguments around place [] state n at stays pre old all e = within true Production.HeldArguments around at state n (base_goes around at state n pre e)
wide_goes Production.Holder around place (v ∷ []) state n at stays pre old all e = within true Production.Holder around at state n (holder_goes around place at state n pre e)
wide_goes Production.NamedModule around place (v ∷ []) state n at stays pre old all e =
    within true Production.NamedModule around at state n (module_goes around (place - 1) (counted_value Seq36 (text_of v)) at state n old e)
wide_goes Production.NestParameter around place (v ∷ []) state n at stays pre old all e = here_within Production.NestParameter around place at state (index_of v) n pre e
wide_goes p around place vs state n at stays pre old all e = goes_within true p around place vs state n at stays pre all e

-- ## Values that aren't used

-- the inputs of the next part of a production, where the values that the production uses are closed
pub record Moves (own : Bool) (p : Production) (around : Around) (at : ℕ) (state : State) (n : Next Value State Around) : Type 0 where
  pub values : AllGood (Within own p around) (read_of p own n.values)
  pub grows : Grows own around at state n.state
  pub fits : Fits own around n.context
  pub bare : Within own p around → Bare own n.context

moves_by : (own : Bool) (p : Production) (around : Around) (at : ℕ) (state : State) (n : Next Value State Around) → read_of p own n.values ≡ n.values → Goes own (Within own p around) around at state n → Moves own p around at state n
moves_by own p around at state n same g = record { values = subst (λ vs. AllGood (Within own p around) vs) (sym same) g.values; grows = g.grows; fits = g.fits; bare = g.bare }

pub abi_moves : (production : Production) (around : Around) (place : ℕ) (vs : List Value) (state : State) (n : Next Value State Around) (at : ℕ) → StaysInside production →
    GoodPrefix (Bare false around) around.prefix → AllGood (Within false production around) (read_of production false vs) → between production around place vs state ≡ Ok n → Moves false production around at state n
abi_moves p around place vs state n at stays pre all e =
    moves_by false p around at state n (read_abi p n.values) (goes_within false p around place vs state n at stays pre (subst (λ us. AllGood (Within false p around) us) (read_abi p vs) all) e)

pub wide_moves : (production : Production) (around : Around) (place : ℕ) (vs : List Value) (state : State) (n : Next Value State Around) (at : ℕ) → StaysInside production →
    GoodPrefix (Bare true around) around.prefix → AllOld true around at state.candidates → AllGood (Within true production around) (read_of production true vs) → between_wide production around place vs state ≡ Ok n → Moves true production around at state n
unfolding read_of between_wide between all_pass
wide_moves Production.DeclaredArgument around place vs state n at stays pre old all e =
    let whole : Next Value State Around = record { context = around; values = vs; state = state } in
    subst (λ x. Moves true Production.DeclaredArgument around at state x) (ok_same whole n e)
    (record { values = all; grows = grows_same true around at state state refl; fits = (fits_same true around pre).fits; bare = λ within. within.0 })
wide_moves p around place vs state n at stays pre old all e = moves_by true p around at state n refl (wide_goes p around place vs state n at stays pre old all e)
