-- Where the ABI's reading refuses nothing, the wide grammar's reading agrees with it: what the ABI's reading reads in a
-- lambda's signature has no free parameters.
use Rattle.cpp_grammar.proofs.Basics.{◌≡◌, refl, ap, sym, ◌∙◌, subst, ℕ, zero, suc, ◌+◌, ◌-◌, List, [], ◌∷◌, ◌++◌, length, Bool, true, false, not, ◌||◌, ◌&&◌, cond, nat_eq, nat_lt, ◌<◌, slice_get, Option, Some, None, Result, Ok, Err, lit≤, eq-eqb, true≢false, false≢true, IfOk, Refusal, BadReference, Seq36, counted_value, Rule, Sym, Kind as OfKind, symbols_of, IsSymbol, AreSymbols, Tree, Forest, branch, empty, token, fixed, nothing, grown, spell, TakesRule, IsTree, AreTrees, Found, Next, Open, ◌>>=◌, found, alone, standing, unfold_tree, unfold_forest, Production, Operation, SYMBOL, SPECIAL, SPECIAL_MARK, SPECIAL_AFTER_G, is_in, number_of_kind, parts_of, wide_alternatives, wide, Term, parameter, lambda, generic_lambda, list, count, element, is_open, length_if_pack, by_all, Candidate, Counting, prefix_at, qualified_at, shown, is_in_constraint, is_at_literal, State, Around, prefix_tree, prefix_listed, Value, nothing_there, text, tree, piece, tree_of, is_listed, text_of, local_number, part, appended, is_function_type, with_type, with_unqualified, with_prefix, with_packs, packs_in, is_module, substituted, parameter_named, in_name, in_types, in_signature, under_expansion, after, inside, no_items, Continuation, listed_so_far, parameter_so_far, index_of, between, next, argument_so_far, made, is_listing, around_part, packs_within, gained, replaced, tested as tested_, done, row_of, parameters, meaning, opening, close, production_at, byte_of, cpp, first_around, first_state, first_tree, unfold_cpp, is_unseen, in_literal, is_passed_over, passed_over, name_around, types_around, name_if, generic_so_far, parameter_here, is_declaring, lambda_with, as_generic_lambda, is_before_holder, is_by_newer, is_by_all, is_in_list, place_in, named_in, joined, counted_so_far, awaiting, expecting, expecting_item, calling, ending, noting, opening_wide, is_foreign, restated, substituted_wide, numbered, between_wide, close_wide, cpp_wide, unfold_wide, argument_here, generic_number, wide_sound}
use Rattle.cpp_grammar.specs.declared.kind.Kind.{Kind}
use Rattle.cpp_grammar.specs.Row.{Gain, nothing, the_prefix, type_of, unqualified_of, itself, Where, as_before, in_its_name, in_its_types, in_a_signature, under_it, nameless, after_part, after_the_name, Action, quiet, goes, becomes, tests, holds, unread, before_part}
use Rattle.cpp_grammar.specs.Unfolding as unfolding_
use Rattle.cpp_grammar.proofs.Choosing.{each_passes, chosen_rule, taken_passes, implied}
use Rattle.cpp_grammar.proofs.Chosen.{either, if_there}
use Rattle.cpp_grammar.proofs.ClosedValues.{held}
use Rattle.cpp_grammar.proofs.ClosedStates.{ok_same, behind_bind}
use Rattle.cpp_grammar.proofs.ClosedTrees.{opens, at_number, its_symbols, taken_rule, opening_keeps, known}
use Rattle.cpp_grammar.proofs.NoneFree.{HasNone, AllNone, none_tree, none_part, PrefixHasNone, none_prefix, none_encoding, none_signature, made_none, meaning_none}
use Rattle.cpp_grammar.proofs.Undeclared.{starts, undeclared_signature, plain_parameters, has_first, begins_first, lambda_begins, first_forest}
use Rattle.cpp_grammar.proofs.Steps.{first_of_both, second_of_both, all_pass, step_passes, is_here, goes_here}

-- ## What is closed

-- productions whose parts are closed wherever they are: a lambda's, and those of special names
unfoldable has_closed_parts : Production → Bool
has_closed_parts Production.Lambda = true
has_closed_parts Production.Special = true
has_closed_parts Production.OtherSpecial = true
has_closed_parts _ = false

-- productions of encodings that are special names
unfoldable has_specials : Production → Bool
has_specials Production.Special = true
has_specials Production.OtherSpecial = true
has_specials _ = false

-- the parts of a production are closed
unfoldable are_closed : Production → Around → Bool
are_closed p around = has_closed_parts p || (not (opens p) && around.in_lambda)

abbrev AllHaveNone : List Candidate → Type 0
AllHaveNone [] = Unit {0}
AllHaveNone (c ∷ cs) = (c.in_lambda ≡ true → HasNone c.tree) × (c.counted ≡ by_all) × AllHaveNone cs

one_more : (cs : List Candidate) (c : Candidate) → AllHaveNone cs → (c.in_lambda ≡ true → HasNone c.tree) → c.counted ≡ by_all → AllHaveNone (cs ++ (c ∷ []))
one_more [] c all one unheld = (one, unheld, tt)
one_more (d ∷ cs) c all one unheld = (all.0, all.1, one_more cs c all.2 one unheld)

one_of : (cs : List Candidate) (n : ℕ) (c : Candidate) → AllHaveNone cs → slice_get cs n ≡ Some c → c.in_lambda ≡ true → HasNone c.tree
one_of [] n c all e = absurd cc
one_of (d ∷ cs) zero c all e = let same : d ≡ c = cc in subst (λ x. x.in_lambda ≡ true → HasNone x.tree) same all.0
one_of (d ∷ cs) (suc n) c all e = one_of cs n c all.2 e

-- if all compilers count the candidates, the first isn't a name with its M
none_held : (cs : List Candidate) → AllHaveNone cs → is_before_holder cs ≡ false
unfolding is_before_holder is_by_newer
none_held [] all = refl
none_held (c ∷ cs) all = ap is_by_newer all.1

all_listed : (is_shorter : Bool) (c : Candidate) (cs : List Candidate) → c.counted ≡ by_all → AllHaveNone cs → is_in_list is_shorter c cs ≡ true
unfolding is_in_list is_by_all
all_listed is_shorter c cs counted all = ap (λ b. not b && (not is_shorter || is_by_all c.counted)) (none_held cs all) ∙ ap (λ k. not is_shorter || is_by_all k) counted ∙ either_way is_shorter
  where
    either_way : (b : Bool) → (not b || true) ≡ true
    either_way true = refl
    either_way false = refl

place_stays : (is_shorter : Bool) (cs : List Candidate) (n : ℕ) → AllHaveNone cs → place_in is_shorter cs n ≡ n
unfolding place_in
place_stays is_shorter [] n all = refl
place_stays is_shorter (c ∷ cs) zero all = ap (λ b. elim b [ false ↦ suc (place_in is_shorter cs zero) | true ↦ zero ]) (all_listed is_shorter c cs all.1 all.2)
place_stays is_shorter (c ∷ cs) (suc n) all =
    ap (λ b. elim b [ false ↦ suc (place_in is_shorter cs (suc n)) | true ↦ suc (place_in is_shorter cs n) ]) (all_listed is_shorter c cs all.1 all.2) ∙ ap suc (place_stays is_shorter cs n all.2)

counted_stays : (cs : List Candidate) → AllHaveNone cs → counted_so_far by_all cs ≡ by_all
unfolding counted_so_far joined
counted_stays [] all = refl
counted_stays (c ∷ cs) all = ap (λ k. counted_so_far (joined by_all k) cs) all.1 ∙ counted_stays cs all.2

noting_stays : (counting : Counting) (state : State) → AllHaveNone state.candidates → noting counting state ≡ state
unfolding noting is_by_all
noting_stays counting state all =
    either {A = State} (λ s. s ≡ state) (is_by_all (counted_so_far by_all state.candidates)) _ _ (λ is. refl) (λ is. absurd (true≢false (sym (ap is_by_all (counted_stays state.candidates all)) ∙ is)))

noted_stays : (counting : Counting) (state new : State) → AllHaveNone state.candidates → ◌≡◌ {A = Result State Refusal} (Ok state) (Ok new) → ◌≡◌ {A = Result State Refusal} (Ok (noting counting state)) (Ok new)
noted_stays counting state new all e = (let begun : State → Result State Refusal = λ s. Ok s in ap begun (noting_stays counting state all) ∙ e)

opening_stays : (p : Production) (around : Around) (parts : Forest) (place : ℕ) (state new : State) → AllHaveNone state.candidates → opening p parts place state ≡ Ok new → opening_wide p around parts place state ≡ Ok new
unfolding opening opening_wide
opening_stays Production.NestTemplate around parts place state new all e = noted_stays (expecting (prefix_at (place - 1)) state.counting) state new all e
opening_stays Production.QualifiedPlain around parts place state new all e = noted_stays (expecting (qualified_at place) state.counting) state new all e
opening_stays Production.Items around parts place state new all e = noted_stays (expecting_item around place state.counting) state new all e
opening_stays Production.NestNext around parts place state new all e = noted_stays (calling state.counting) state new all e
opening_stays Production.NestEnd around parts place state new all e = noted_stays (ending state.counting) state new all e
opening_stays p around parts place state new all e = e

all_then : (vs ws : List Value) → AllNone vs → AllNone ws → AllNone (vs ++ ws)
all_then [] ws f g = g
all_then (v ∷ vs) ws f g = (f.0, all_then vs ws f.1 g)

-- in a signature the name so far is closed, and no arguments are named; everything is shown
record Settled (around : Around) : Type 0 where
  prefix : around.in_lambda ≡ true → PrefixHasNone around.prefix
  bare : around.in_lambda ≡ true → around.scope ≡ None
  seen : around.showing ≡ shown

record NextHasNone (b special : Bool) (n : Next Value State Around) : Type 0 where
  values : b ≡ true → AllNone n.values
  inside : b ≡ true → (special || n.context.in_lambda) ≡ true
  context : Settled n.context
  candidates : AllHaveNone n.state.candidates

appended_none : (around : Around) (t : Term) (state : State) → (around.in_lambda ≡ true → HasNone t) → AllHaveNone state.candidates → AllHaveNone (appended around t state).candidates
unfolding appended
appended_none around t state g all = one_more state.candidates (record { tree = t; encoding = around.encoding; in_lambda = around.in_lambda; counted = by_all }) all g refl

prefixed_none : (around : Around) (state : State) → Settled around → AllHaveNone state.candidates → AllHaveNone (with_prefix around state).candidates
unfolding with_prefix
prefixed_none around state settled all =
    either (λ s. AllHaveNone s.candidates) (prefix_listed around.prefix) state (appended around (prefix_tree around.prefix) state) (λ h. all)
    (λ h. appended_none around (prefix_tree around.prefix) state (λ l. none_prefix around.prefix (settled.prefix l)) all)

typed_none : (around : Around) (v : Value) (state : State) → (around.in_lambda ≡ true → HasNone (tree_of v)) → AllHaveNone state.candidates → AllHaveNone (with_type around v state).candidates
unfolding with_type
typed_none around v state g all = either (λ s. AllHaveNone s.candidates) (is_listed v) state (appended around (tree_of v) state) (λ h. all) (λ h. appended_none around (tree_of v) state g all)

unqualified_none : (around : Around) (v : Value) (state : State) → (around.in_lambda ≡ true → HasNone (tree_of v)) → AllHaveNone state.candidates → AllHaveNone (with_unqualified around v state).candidates
unfolding with_unqualified
unqualified_none around v state g all = either (λ s. AllHaveNone s.candidates) (is_function_type (tree_of v)) state (with_type around v state) (λ h. all) (λ h. typed_none around v state g all)

packs_none : (place : ℕ) (b : Bool) (o : Option ℕ) (state : State) → IfOk (with_packs place b o state) (λ s. s.candidates ≡ state.candidates)
unfolding with_packs
packs_none place b None state = refl
packs_none place false (Some m) state = tt
packs_none place true (Some m) state =
    let kept : Result State Refusal → Type 0 = λ x. IfOk x (λ s. s.candidates ≡ state.candidates) in
    if_there kept state.packs _ _ refl (λ n is. either kept (nat_eq m n) _ _ (λ h. refl) (λ h. tt))

-- ## Between the parts of a production

after_none : (around : Around) (t : Term) (listed : Bool) → Settled around → (around.in_lambda ≡ true → HasNone t) → Settled (after t listed around)
unfolding after
after_none around t listed settled g = record { prefix = g; bare = settled.bare; seen = settled.seen }

inside_none : (around : Around) → Settled around → Settled (inside around)
unfolding inside
inside_none around settled = record { prefix = λ l. tt; bare = settled.bare; seen = settled.seen }

name_none : (place : ℕ) → Settled (in_name place)
unfolding in_name
name_none place = record { prefix = λ l. tt; bare = λ h. absurd (false≢true h); seen = refl }

types_none : (place : ℕ) (t : Term) → Settled (in_types place t)
unfolding in_types
types_none place t = record { prefix = λ l. tt; bare = λ h. absurd (false≢true h); seen = refl }

signature_none : (around : Around) → Settled around → Settled (in_signature around)
unfolding in_signature
signature_none around settled = record { prefix = λ l. tt; bare = λ h. refl; seen = settled.seen }

expansion_none : (around : Around) → Settled around → Settled (under_expansion around)
unfolding under_expansion
expansion_none around settled = record { prefix = settled.prefix; bare = settled.bare; seen = settled.seen }

replaced_none : (v : Value) (vs : List Value) → HasNone (held v) → AllNone vs → AllNone (replaced v vs)
unfolding replaced
replaced_none v [] none all = tt
replaced_none v (w ∷ vs) none all = (none, all.1)

gained_none : (gain : Gain) (around : Around) (vs : List Value) (v : Value) (state : State) → Settled around → (around.in_lambda ≡ true → AllNone vs) → (around.in_lambda ≡ true → HasNone (tree_of v)) → AllHaveNone state.candidates →
    AllHaveNone (gained gain around vs v state).candidates
unfolding gained
gained_none nothing around vs v state settled all none cs = cs
gained_none the_prefix around vs v state settled all none cs = prefixed_none around state settled cs
gained_none (type_of k) around vs v state settled all none cs = typed_none around (part vs k) state (λ l. none_part vs k (all l)) cs
gained_none (unqualified_of k) around vs v state settled all none cs = unqualified_none around (part vs k) state (λ l. none_part vs k (all l)) cs
gained_none itself around vs v state settled all none cs = appended_none around (tree_of v) state none cs

goes_none : (w : Where) (around : Around) (place : ℕ) (vs : List Value) (state : State) → is_here w ≡ true → Settled around → (around.in_lambda ≡ true → AllNone vs) → AllHaveNone state.candidates →
    NextHasNone around.in_lambda false (record { values = vs; context = around_part around place vs w; state = packs_within w state })
unfolding is_here around_part packs_within after inside under_expansion
goes_none in_its_name around place vs state here settled all cs = absurd (false≢true here)
goes_none in_its_types around place vs state here settled all cs = absurd (false≢true here)
goes_none in_a_signature around place vs state here settled all cs = absurd (false≢true here)
goes_none as_before around place vs state here settled all cs = record { values = all; inside = λ l. l; context = settled; candidates = cs }
goes_none under_it around place vs state here settled all cs = record { values = all; inside = λ l. l; context = expansion_none around settled; candidates = cs }
goes_none nameless around place vs state here settled all cs = record { values = all; inside = λ l. l; context = inside_none around settled; candidates = cs }
goes_none (after_part k listing) around place vs state here settled all cs =
    record { values = all; inside = λ l. l; context = after_none around (tree_of (part vs k)) (is_listing vs listing) settled (λ l. none_part vs k (all l)); candidates = cs }
goes_none after_the_name around place vs state here settled all cs =
    record { values = all; inside = λ l. l; context = after_none around (prefix_tree around.prefix) true settled (λ l. none_prefix around.prefix (settled.prefix l)); candidates = cs }

becomes_none : (around : Around) (t : Term) (is_in is_name : Bool) (vs : List Value) (state : State) → Settled around → (around.in_lambda ≡ true → HasNone t) → (around.in_lambda ≡ true → AllNone vs) → AllHaveNone state.candidates →
    NextHasNone around.in_lambda false (record { values = replaced (tree t is_in) vs; context = cond is_name (after t is_in around) around; state = state })
unfolding after held
becomes_none around t is_in true vs state settled none all cs = record { values = λ l. replaced_none (tree t is_in) vs (none l) (all l); inside = λ l. l; context = after_none around t is_in settled none; candidates = cs }
becomes_none around t is_in false vs state settled none all cs = record { values = λ l. replaced_none (tree t is_in) vs (none l) (all l); inside = λ l. l; context = settled; candidates = cs }

candidate_none : (is_candidate : Bool) (around : Around) (t : Term) (state : State) → (around.in_lambda ≡ true → HasNone t) → AllHaveNone state.candidates → AllHaveNone (cond is_candidate (appended around t state) state).candidates
candidate_none true around t state none cs = appended_none around t state none cs
candidate_none false around t state none cs = cs

tests_none : (is_name : Bool) (around : Around) (place k : ℕ) (vs : List Value) (state : State) → Settled around → (around.in_lambda ≡ true → AllNone vs) → AllHaveNone state.candidates →
    IfOk (parameter_named around place k state >>= λ s. tested_ is_name around (parameter k) vs s state) (NextHasNone around.in_lambda false)
unfolding parameter_named tested_
tests_none is_name around place k vs state settled all cs =
    let passes : Result State Refusal → Type 0 = λ m. IfOk (m >>= λ s. tested_ is_name around (parameter k) vs s state) (NextHasNone around.in_lambda false) in
    let packs : Term → Result State Refusal = λ arguments. with_packs place around.in_expansion (length_if_pack (element arguments k)) state in
    if_there passes around.scope _ _ tt (λ arguments is. either passes (nat_lt k (count arguments)) _ _
    (λ h. packed arguments is (packs arguments) (packs_none place around.in_expansion (length_if_pack (element arguments k)) state)) (λ h. tt))
  where
    -- no arguments are named in a signature
    never : (arguments : Term) → around.scope ≡ Some arguments → around.in_lambda ≡ true → HasNone (parameter k)
    never arguments is l = let clash : ◌≡◌ {A = Option Term} None (Some arguments) = sym (settled.bare l) ∙ is in absurd cc

    -- a parameter that is itself an argument is no candidate
    kept : (b : Bool) (now : State) → AllHaveNone now.candidates → AllHaveNone (cond b now (record now { candidates = state.candidates })).candidates
    kept true now all_ = all_
    kept false now all_ = cs

    packed : (arguments : Term) → around.scope ≡ Some arguments → (m : Result State Refusal) → IfOk m (λ s. s.candidates ≡ state.candidates) →
        IfOk ((m >>= λ s. Ok (appended around (parameter k) s)) >>= λ s. tested_ is_name around (parameter k) vs s state) (NextHasNone around.in_lambda false)
    packed arguments is (Ok s) same =
        let now = appended around (parameter k) s in
        let none = never arguments is in
        becomes_none around (parameter k) true is_name vs (cond is_name now (record now { candidates = state.candidates })) settled none all
        (kept is_name now (appended_none around (parameter k) s none (subst AllHaveNone (sym same) cs)))
    packed arguments is (Err e) same = tt

done_none : (b : Action) (around : Around) (place : ℕ) (vs : List Value) (state : State) → goes_here b ≡ true → Settled around → (around.in_lambda ≡ true → AllNone vs) → AllHaveNone state.candidates →
    IfOk (done b around place vs state) (NextHasNone around.in_lambda false)
unfolding goes_here done tree_of is_open
done_none quiet around place vs state here settled all cs = record { values = all; inside = λ l. l; context = settled; candidates = cs }
done_none (goes gain w) around place vs state here settled all cs =
    goes_none w around place vs (gained gain around vs nothing_there state) here settled all (gained_none gain around vs nothing_there state settled all (λ l. refl) cs)
done_none (becomes m is_in is_name is_candidate) around place vs state here settled all cs =
    let t = made 0 around vs m in
    let none : around.in_lambda ≡ true → HasNone (made 0 around vs m) = λ l. made_none 0 around vs m (settled.prefix l) (all l) in
    becomes_none around t is_in is_name vs (cond is_candidate (appended around t state) state) settled none all (candidate_none is_candidate around t state none cs)
done_none (tests after_t is_name) around place vs state here settled all cs = tests_none is_name around (cond after_t (place - 1) place) (index_of (part vs 0)) vs state settled all cs
done_none holds around place vs state here settled all cs = tt
done_none unread around place vs state here settled all cs = tt

between_none : (p : Production) (around : Around) (place : ℕ) (vs : List Value) (state : State) → Settled around → (are_closed p around ≡ true → AllNone vs) → AllHaveNone state.candidates → IfOk (between p around place vs state) (NextHasNone (are_closed p around) (has_specials p))
unfolding are_closed has_closed_parts has_specials opens in_signature between all_pass goes_here is_here
between_none Production.Encoding around place [] state settled all cs = record { values = λ l. absurd (false≢true l); inside = λ l. absurd (false≢true l); context = name_none place; candidates = cs }
between_none Production.Encoding around place (v ∷ vs) state settled all cs = record { values = λ l. absurd (false≢true l); inside = λ l. absurd (false≢true l); context = types_none place (tree_of v); candidates = cs }
between_none Production.Special around place vs state settled all cs = record { values = all; inside = λ l. refl; context = name_none place; candidates = cs }
between_none Production.OtherSpecial around place vs state settled all cs = record { values = all; inside = λ l. refl; context = name_none place; candidates = cs }
between_none Production.ValueOf around place vs state settled all cs = record { values = all; inside = λ l. refl; context = signature_none around settled; candidates = cs }
between_none Production.OfConcept around place vs state settled all cs = record { values = all; inside = λ l. refl; context = signature_none around settled; candidates = cs }
between_none Production.Lambda around place vs state settled all cs = record { values = all; inside = λ l. refl; context = signature_none around settled; candidates = cs }
between_none p around place vs state settled all cs = done_none (before_part (row_of p) (length vs)) around place vs state (step_passes goes_here (row_of p) refl (length vs)) settled all cs

-- ## After the parts of a production

-- what an encoding denotes is closed, and every other value is closed in a signature
means_none : (p : Production) (byte : ℕ) (around : Around) (vs : List Value) → Settled around → (are_closed p around ≡ true → AllNone vs) → around.in_lambda ≡ true → HasNone (held (meaning p byte around vs))
unfolding are_closed has_closed_parts opens meaning held is_open
means_none Production.Encoding byte around vs settled all l = none_encoding (part vs 0) (no_items (part vs 1))
means_none Production.Special byte around vs settled all l = meaning_none Production.Special byte around vs (settled.prefix l) (all refl)
means_none Production.OtherSpecial byte around vs settled all l = meaning_none Production.OtherSpecial byte around vs (settled.prefix l) (all refl)
means_none Production.Lambda byte around vs settled all l = meaning_none Production.Lambda byte around vs (settled.prefix l) (all refl)
means_none p byte around vs settled all l = meaning_none p byte around vs (settled.prefix l) (all l)

behind_none : (p : Production) (byte : ℕ) (around : Around) (began : State) (vs : List Value) (state : State) → Settled around → (are_closed p around ≡ true → AllNone vs) → AllHaveNone state.candidates →
    AllHaveNone (unfolding_.behind p byte around began vs state).candidates
unfolding are_closed has_closed_parts opens unfolding_.behind
behind_none Production.Encoding byte around began vs state settled all cs = cs
behind_none Production.Special byte around began vs state settled all cs = cs
behind_none Production.OtherSpecial byte around began vs state settled all cs = cs
behind_none Production.Lambda byte around began vs state settled all cs = cs
behind_none p byte around began vs state settled all cs =
    gained_none (row_of p).gain around vs (meaning p byte around vs) state settled all (λ l. none_tree (meaning p byte around vs) (meaning_none p byte around vs (settled.prefix l) (all l))) cs

-- ## References

-- if an argument is named, there is a scope, and so no signature
named_here : (around : Around) (place k : ℕ) (state : State) (f : State → Continuation) (own : Continuation) (n : Next Value State Around) → Settled around → (parameter_named around place k state >>= f) ≡ Ok n →
    ◌≡◌ {A = Continuation} (elim around.in_lambda [ true ↦ own | false ↦ parameter_named around place k state >>= f ]) (Ok n)
unfolding parameter_named
named_here around place k state f own n settled e =
    either (λ x. ◌≡◌ {A = Continuation} x (Ok n)) around.in_lambda own (parameter_named around place k state >>= f)
    (λ is. absurd (if_there (λ m. (m >>= f) ≡ Ok n → ⊥) around.scope _ _ (λ h. let clash : ◌≡◌ {A = Continuation} (Err (BadReference place)) (Ok n) = h in cc)
    (λ arguments there h. let clash : ◌≡◌ {A = Option Term} None (Some arguments) = sym (settled.bare is) ∙ there in cc) e)) (λ is. e)

here_stays : (around : Around) (place k : ℕ) (state : State) (n : Next Value State Around) → Settled around → parameter_so_far around place k [] state ≡ Ok n → parameter_here around place k [] state ≡ Ok n
unfolding parameter_here parameter_so_far
here_stays around place k state n settled e = named_here around place k state (λ s. listed_so_far around (parameter k) [] s) (generic_so_far around k [] state) n settled e

argument_stays : (around : Around) (place k : ℕ) (state : State) (n : Next Value State Around) → Settled around → argument_so_far around place k state ≡ Ok n → argument_here around place k state ≡ Ok n
unfolding argument_here argument_so_far
argument_stays around place k state n settled e =
    named_here around place k state (λ s. next (tree (parameter k) true ∷ []) around (record s { candidates = state.candidates }))
    (next (tree (parameter (generic_number k)) true ∷ []) around state) n settled e

-- outside of a signature no encoding is passed over
both_false : (b : Bool) → (b && false) ≡ false
both_false true = refl
both_false false = refl

not_unseen : (around : Around) → Settled around → is_unseen around ≡ false
unfolding is_unseen is_in_constraint
not_unseen around settled = ap (λ s. around.in_lambda && is_in_constraint s) settled.seen ∙ both_false around.in_lambda

not_passed : (around : Around) → Settled around → is_passed_over around ≡ false
unfolding is_passed_over is_at_literal
not_passed around settled = ap (λ s. around.in_lambda && is_at_literal s) settled.seen ∙ both_false around.in_lambda

literal_stays : (around : Around) → Settled around → in_literal around ≡ around
unfolding in_literal
literal_stays around settled = either {A = Around} (λ a. a ≡ around) (is_unseen around) _ _ (λ is. absurd (false≢true (sym (not_unseen around settled) ∙ is))) (λ is. refl)

name_stays : (around : Around) (place : ℕ) → Settled around → name_around around place ≡ in_name place
unfolding name_around
name_stays around place settled = ap (λ b. elim b [ true ↦ passed_over place | false ↦ in_name place ]) (not_passed around settled)

types_stay : (around : Around) (place : ℕ) (name : Term) → Settled around → types_around around place name ≡ in_types place name
unfolding types_around
types_stay around place name settled = ap (λ b. elim (b && is_open name) [ true ↦ passed_over place | false ↦ in_types place name ]) (not_passed around settled)

between_stays : (p : Production) (around : Around) (place : ℕ) (vs : List Value) (state : State) (n : Next Value State Around) → Settled around → between p around place vs state ≡ Ok n → between_wide p around place vs state ≡ Ok n
unfolding between between_wide parameter_so_far parameter_named listed_so_far argument_so_far
between_stays Production.Parameter around place (v ∷ []) state n settled e = here_stays around place (index_of v) state n settled e
between_stays Production.NestParameter around place (v ∷ []) state n settled e = here_stays around place (index_of v) state n settled e
between_stays Production.ParameterArgument around place (v ∷ []) state n settled e = here_stays around (place - 1) (index_of v) state n settled e
between_stays Production.ParameterExpression around place (v ∷ []) state n settled e = argument_stays around (place - 1) (index_of v) state n settled e
between_stays Production.DeclaredFirst around place [] state n settled e = let clash : ◌≡◌ {A = Continuation} (Err (BadReference place)) (Ok n) = e in absurd cc
between_stays Production.Constraint around place [] state n settled e = let clash : ◌≡◌ {A = Continuation} (Err (BadReference place)) (Ok n) = e in absurd cc
between_stays Production.EncodingLiteral around place (v ∷ []) state n settled e = ap (λ a. next (v ∷ []) a state) (literal_stays around settled) ∙ e
between_stays Production.Encoding around place [] state n settled e = ap (λ a. next [] a state) (name_stays around place settled) ∙ e
between_stays Production.Encoding around place (v ∷ []) state n settled e = ap (λ a. next (v ∷ []) a state) (types_stay around place (tree_of v) settled) ∙ e
between_stays Production.HeldArguments around place [] state n settled e = let clash : ◌≡◌ {A = Continuation} (Err (BadReference place)) (Ok n) = e in absurd cc
between_stays Production.Holder around place (v ∷ []) state n settled e = let clash : ◌≡◌ {A = Continuation} (Err (BadReference place)) (Ok n) = e in absurd cc
between_stays Production.NamedModule around place (v ∷ []) state n settled e = let clash : ◌≡◌ {A = Continuation} (Err (BadReference place)) (Ok n) = e in absurd cc
between_stays _ around place vs state n settled e = e

-- a candidate that the ABI's reading doesn't refuse isn't foreign, so the wide reading names it, too
named_stays : (around : Around) (place : ℕ) (c : Candidate) (state : State) (r : Found Value State) → (c.in_lambda ≡ true → HasNone c.tree) → substituted around place (Some c) state ≡ Ok r →
    substituted_wide around place (Some c) state ≡ Ok r
unfolding substituted substituted_wide is_foreign
named_stays around place c state r none e = go (is_module c.tree) (is_open c.tree) around.in_lambda c.in_lambda (not (nat_eq c.encoding around.encoding)) none e
  where
    plain : Result (Found Value State) Refusal
    plain = with_packs place around.in_expansion (packs_in around.scope c.tree) state >>= λ s. Ok (found (tree c.tree true) s)

    go : (module_ open_ inside_ made other : Bool) → (made ≡ true → open_ ≡ false) → ◌≡◌ {A = Result (Found Value State) Refusal} (elim (module_ || (open_ && (inside_ || other))) [ true ↦ Err (BadReference place) | false ↦ plain ]) (Ok r) →
        ◌≡◌ {A = Result (Found Value State) Refusal} (elim (open_ && (inside_ || (made || other))) [
          | true ↦ restated around place c.tree state
          | false ↦ elim (module_ || (open_ && (inside_ || other))) [ true ↦ Err (BadReference place) | false ↦ plain ]
        ]) (Ok r)
    go true open_ inside_ made other closed h = let clash : ◌≡◌ {A = Result (Found Value State) Refusal} (Err (BadReference place)) (Ok r) = h in absurd cc
    go false false inside_ made other closed h = h
    go false true true made other closed h = let clash : ◌≡◌ {A = Result (Found Value State) Refusal} (Err (BadReference place)) (Ok r) = h in absurd cc
    go false true false true other closed h = absurd (true≢false (closed refl))
    go false true false false true closed h = let clash : ◌≡◌ {A = Result (Found Value State) Refusal} (Err (BadReference place)) (Ok r) = h in absurd cc
    go false true false false false closed h = h

-- what a substitution names becomes no new candidate, and is closed in a signature
named_none_ : (around : Around) (place : ℕ) (c : Candidate) (state : State) (r : Found Value State) → substituted around place (Some c) state ≡ Ok r →
    (around.in_lambda ≡ true → HasNone (held r.value)) × (r.state.candidates ≡ state.candidates)
unfolding substituted held
named_none_ around place c state r e = go (is_module c.tree) (is_open c.tree) around.in_lambda (not (nat_eq c.encoding around.encoding)) refl e
  where
    named : (inside_ : Bool) → (inside_ ≡ true → HasNone c.tree) → (with_packs place around.in_expansion (packs_in around.scope c.tree) state >>= λ s. Ok (found (tree c.tree true) s)) ≡ Ok r →
        (inside_ ≡ true → HasNone (held r.value)) × (r.state.candidates ≡ state.candidates)
    named inside_ closed h =
        let b = behind_bind (with_packs place around.in_expansion (packs_in around.scope c.tree) state) (λ s. Ok (found (tree c.tree true) s)) r h in
        let kept : b.value.candidates ≡ state.candidates = subst (λ m. IfOk m (λ s. s.candidates ≡ state.candidates)) b.is (packs_none place around.in_expansion (packs_in around.scope c.tree) state) in
        subst (λ x. (inside_ ≡ true → HasNone (held x.value)) × (x.state.candidates ≡ state.candidates)) (ok_same (found (tree c.tree true) b.value) r b.next) (closed, kept)

    go : (module_ open_ inside_ other : Bool) → is_open c.tree ≡ open_ → ◌≡◌ {A = Result (Found Value State) Refusal} (elim (module_ || (open_ && (inside_ || other))) [
      | true ↦ Err (BadReference place)
      | false ↦ with_packs place around.in_expansion (packs_in around.scope c.tree) state >>= λ s. Ok (found (tree c.tree true) s)
    ]) (Ok r) → (inside_ ≡ true → HasNone (held r.value)) × (r.state.candidates ≡ state.candidates)
    go true open_ inside_ other is h = let clash : ◌≡◌ {A = Result (Found Value State) Refusal} (Err (BadReference place)) (Ok r) = h in absurd cc
    go false false inside_ other is h = named inside_ (λ l. is) h
    go false true true other is h = let clash : ◌≡◌ {A = Result (Found Value State) Refusal} (Err (BadReference place)) (Ok r) = h in absurd cc
    go false true false true is h = let clash : ◌≡◌ {A = Result (Found Value State) Refusal} (Err (BadReference place)) (Ok r) = h in absurd cc
    go false true false false is h = named false (λ l. absurd (false≢true l)) h

-- the wide reading closes a production to the same value
record Closes (around : Around) (wide : Result (Found Value State) Refusal) (r : Found Value State) : Type 0 where
  is : wide ≡ Ok r
  value : around.in_lambda ≡ true → HasNone (held r.value)
  candidates : AllHaveNone r.state.candidates

-- a number names the candidate at that place in either list
numbered_stays : (around : Around) (place n : ℕ) (state : State) → AllHaveNone state.candidates → numbered around place n state ≡ substituted_wide around place (slice_get state.candidates n) state
unfolding numbered named_in
numbered_stays around place n state all =
    let cs = state.candidates in
    let longer = place_stays false cs n all in
    let shorter = place_stays true cs n all in
    either (λ x. x ≡ substituted_wide around place (slice_get cs n) state) (nat_eq (place_in false cs n) (place_in true cs n)) _ _
    (λ is. ap (λ k. substituted_wide around place (slice_get cs k) state) longer)
    (λ is. absurd (true≢false (sym (ap (λ k. nat_eq k (place_in true cs n)) longer ∙ ap (λ k. nat_eq n k) shorter ∙ eq-eqb n n refl) ∙ is)))

substituted_stays : (around : Around) (place n : ℕ) (state : State) (r : Found Value State) → AllHaveNone state.candidates → substituted around place (slice_get state.candidates n) state ≡ Ok r →
    Closes around (numbered around place n state) r
unfolding substituted substituted_wide
substituted_stays around place n state r cs e =
    subst (λ x. Closes around x r) (sym (numbered_stays around place n state cs)) (go (slice_get state.candidates n) refl e)
  where
    go : (o : Option Candidate) → slice_get state.candidates n ≡ o → substituted around place o state ≡ Ok r → Closes around (substituted_wide around place o state) r
    go None is h = let clash : ◌≡◌ {A = Result (Found Value State) Refusal} (Err (BadReference place)) (Ok r) = h in absurd cc
    go (Some c) is h =
        let both = named_none_ around place c state r h in
        record { is = named_stays around place c state r (one_of state.candidates n c cs is) h; value = both.0; candidates = subst AllHaveNone (sym both.1) cs }

-- a lambda whose signature is closed, and declares nothing, has no parameters of its own
plain_lambda : (t : Term) (number : ℕ) → is_declaring t ≡ false → HasNone t → piece (lambda_with t number) ≡ piece (lambda t number)
unfolding lambda_with
plain_lambda t number plain none = ap (λ b. piece (elim b [ true ↦ generic_lambda t number | false ↦ lambda t number ])) (ap (λ b. b || is_open t) plain ∙ none)

lambda_stays : (around : Around) (byte : ℕ) (vs : List Value) → AllNone vs → starts vs ≡ true → as_generic_lambda (meaning Production.Lambda byte around vs) ≡ meaning Production.Lambda byte around vs
unfolding as_generic_lambda meaning
lambda_stays around byte vs all first =
    let types = list (tree_of (part vs 0)) (no_items (part vs 1)) in
    let number = local_number (text_of (part vs 3)) in
    subst (λ t. piece (lambda_with t number) ≡ piece (lambda t number)) (sym (undeclared_signature vs (parameters types) first))
    (plain_lambda (parameters types) number (plain_parameters (tree_of (part vs 0)) (no_items (part vs 1))) (none_signature vs all))

closed_stays : (p : Production) (byte : ℕ) (around : Around) (began : State) (vs : List Value) (state : State) (r : Found Value State) → Settled around → (are_closed p around ≡ true → AllNone vs) → AllHaveNone state.candidates →
    ◌≡◌ {A = Result (Found Value State) Refusal} (Ok (found (meaning p byte around vs) (unfolding_.behind p byte around began vs state))) (Ok r) → (read : Result (Found Value State) Refusal) → read ≡ Ok r → Closes around read r
closed_stays p byte around began vs state r settled all cs e read is =
    let whole = found (meaning p byte around vs) (unfolding_.behind p byte around began vs state) in
    let same : whole ≡ r = ok_same whole r e in
    record {
      is = is;
      value = subst (λ x. around.in_lambda ≡ true → HasNone (held x.value)) same (means_none p byte around vs settled all);
      candidates = subst (λ x. AllHaveNone x.state.candidates) same (behind_none p byte around began vs state settled all cs);
    }

-- an encoding that isn't passed over isn't replaced by its name
named_stays_ : {passed : Bool} → passed ≡ false → (open_ : Bool) (name v : Value) (state : State) → ◌≡◌ {A = Result (Found Value State) Refusal} (Ok (found (name_if (passed && open_) name v) state)) (Ok (found v state))
unfolding name_if
named_stays_ is open_ name v state = let said : Bool → Result (Found Value State) Refusal = λ b. Ok (found (name_if (b && open_) name v) state) in ap said is

close_stays : (p : Production) (byte : ℕ) (around : Around) (place : ℕ) (began : State) (vs : List Value) (state : State) (r : Found Value State) → Settled around → (are_closed p around ≡ true → AllNone vs) →
    (has_first p ≡ true → starts vs ≡ true) → AllHaveNone state.candidates → close p byte around place began vs state ≡ Ok r → Closes around (close_wide p byte around place began vs state) r
unfolding are_closed has_closed_parts has_first close close_wide unfolding_.behind
close_stays Production.Substitution byte around place began vs state r settled all first cs e = substituted_stays around (place - 1) (counted_value Seq36 (text_of (part vs 0))) state r cs e
close_stays Production.Lambda byte around place began vs state r settled all first cs e =
    closed_stays Production.Lambda byte around began vs state r settled all cs e (Ok (found (as_generic_lambda (meaning Production.Lambda byte around vs)) state))
    (let said : Value → Result (Found Value State) Refusal = λ v. Ok (found v state) in ap said (lambda_stays around byte vs (all refl) (first refl)) ∙ e)
close_stays Production.Holder byte around place began vs state r settled all first cs e =
    closed_stays Production.Holder byte around began vs state r settled all cs e (Ok (found (meaning Production.Holder byte around vs) (noting (awaiting around (tree_of (part vs 1)) state.counting) state)))
    (let said : State → Result (Found Value State) Refusal = λ s. Ok (found (meaning Production.Holder byte around vs) s) in ap said (noting_stays (awaiting around (tree_of (part vs 1)) state.counting) state cs) ∙ e)
close_stays Production.Encoding byte around place began vs state r settled all first cs e =
    closed_stays Production.Encoding byte around began vs state r settled all cs e _
    (named_stays_ (not_passed around settled) (is_open (tree_of (part vs 0))) (part vs 0) (meaning Production.Encoding byte around vs) state ∙ e)
close_stays Production.EncodingLiteral byte around place began vs state r settled all first cs e =
    closed_stays Production.EncodingLiteral byte around began vs state r settled all cs e _
    (named_stays_ (not_unseen around settled) (is_open (tree_of (part vs 1))) (part vs 1) (meaning Production.EncodingLiteral byte around vs) state ∙ e)
close_stays Production.Inheriting byte around place began vs state r settled all first cs e = let clash : ◌≡◌ {A = Result (Found Value State) Refusal} (Err (BadReference place)) (Ok r) = e in absurd cc
close_stays p byte around place began vs state r settled all first cs e = closed_stays p byte around began vs state r settled all cs e (close p byte around place began vs state) e

-- ## Trees

-- the kinds of special names; what these denote is closed everywhere
unfoldable is_special : Sym → Bool
is_special (OfKind k) = nat_eq k SPECIAL || (nat_eq k SPECIAL_MARK || nat_eq k SPECIAL_AFTER_G)
is_special _ = false

unfoldable are_special : List Sym → Bool
are_special [] = true
are_special (x ∷ xs) = is_special x && are_special xs

-- the productions of the kinds of special names
unfoldable makes_special : Production → Bool
makes_special Production.SpecialType = true
makes_special Production.ParameterObject = true
makes_special Production.SpecialName = true
makes_special Production.Temporary = true
makes_special Production.ModuleInitializer = true
makes_special Production.ConstructionVtable = true
makes_special Production.NonVirtualThunk = true
makes_special Production.VirtualThunk = true
makes_special Production.CovariantThunk = true
makes_special Production.Clone = true
makes_special Production.Mark = true
makes_special _ = false

only_special : (kind : Kind) → each_passes (λ p. not (is_special (OfKind (number_of_kind kind))) || makes_special p) (wide_alternatives kind) ≡ true
unfolding is_special number_of_kind wide_alternatives each_passes makes_special
only_special Kind.Symbol = refl
only_special _ = refl

special_parts : (p : Production) → not (has_specials p) || are_special (parts_of p) ≡ true
unfolding has_specials are_special is_special parts_of number_of_kind
special_parts Production.Mark = refl
special_parts (Production.Operation Operation.ExpressionC) = refl
special_parts _ = refl

closed_or : (a b : Bool) (v : Value) → (a || b) ≡ true → (a ≡ true → HasNone (held v)) → (b ≡ true → HasNone (held v)) → HasNone (held v)
closed_or true b v h f g = f refl
closed_or false b v h f g = g h

special_or : (p x l : Bool) → (p ≡ true → x ≡ true) → (p || l) ≡ true → (x || l) ≡ true
special_or p true l f h = refl
special_or true false l f h = absurd (false≢true (f refl))
special_or false false l f h = h

-- the production of a tree of a special name's kind
special_taken : (k : ℕ) (rule : Rule) (taken : List ℕ) → k < wide.kinds → TakesRule wide k rule taken → is_special (OfKind k) ≡ true → makes_special (production_at rule.number) ≡ true
special_taken k rule taken lt takes special =
    let c = chosen_rule k rule taken lt takes in
    ap makes_special (ap (λ x. production_at x.number) c.is ∙ at_number c.production)
    ∙ implied (is_special (OfKind k)) (makes_special c.production) (taken_passes (λ n p. not (is_special (OfKind n)) || makes_special p) only_special k rule c) special

special_closes : (p : Production) (byte : ℕ) (around : Around) (place : ℕ) (began : State) (vs : List Value) (state : State) (one : Found Value State) → makes_special p ≡ true →
    close p byte around place began vs state ≡ Ok one → HasNone (held one.value)
unfolding makes_special close unfolding_.behind meaning held is_open
special_closes Production.SpecialType byte around place began vs state one h e = subst (λ x. HasNone (held x.value)) (ok_same _ one e) refl
special_closes Production.ParameterObject byte around place began vs state one h e = subst (λ x. HasNone (held x.value)) (ok_same _ one e) refl
special_closes Production.SpecialName byte around place began vs state one h e = subst (λ x. HasNone (held x.value)) (ok_same _ one e) refl
special_closes Production.Temporary byte around place began vs state one h e = subst (λ x. HasNone (held x.value)) (ok_same _ one e) refl
special_closes Production.ModuleInitializer byte around place began vs state one h e = subst (λ x. HasNone (held x.value)) (ok_same _ one e) refl
special_closes Production.ConstructionVtable byte around place began vs state one h e = subst (λ x. HasNone (held x.value)) (ok_same _ one e) refl
special_closes Production.NonVirtualThunk byte around place began vs state one h e = subst (λ x. HasNone (held x.value)) (ok_same _ one e) refl
special_closes Production.VirtualThunk byte around place began vs state one h e = subst (λ x. HasNone (held x.value)) (ok_same _ one e) refl
special_closes Production.CovariantThunk byte around place began vs state one h e = subst (λ x. HasNone (held x.value)) (ok_same _ one e) refl
special_closes Production.Clone byte around place began vs state one h e = subst (λ x. HasNone (held x.value)) (ok_same _ one e) refl
special_closes Production.Mark byte around place began vs state one h e = subst (λ x. HasNone (held x.value)) (ok_same _ one e) refl
special_closes _ byte around place began vs state one h e = absurd (false≢true h)

-- the wide reading has the same values of parts, which are closed under this condition
record Stays (b : Bool) (wide : Result (Found (List Value) State) Refusal) (r : Found (List Value) State) : Type 0 where
  is : wide ≡ Ok r
  values : b ≡ true → AllNone r.value
  candidates : AllHaveNone r.state.candidates

then_ok : {A B : Type 0} (m : Result A Refusal) (f : A → Result B Refusal) (a : A) (r : B) → m ≡ Ok a → f a ≡ Ok r → (m >>= f) ≡ Ok r
then_ok m f a r e g = ap (λ x. x >>= f) e ∙ g

leaf_stays : (b : Bool) (v : Value) (state : State) (r : Found (List Value) State) → HasNone (held v) → AllHaveNone state.candidates → ◌≡◌ {A = Result (Found (List Value) State) Refusal} (Ok (found (v ∷ []) state)) (Ok r) →
    Stays b (Ok (found (v ∷ []) state)) r
leaf_stays b v state r none cs e =
    let same = ok_same (found (v ∷ []) state) r e in
    record { is = e; values = λ l. subst (λ x. AllNone x.value) same (none, tt); candidates = subst (λ x. AllHaveNone x.state.candidates) same cs }

mutual
  unfolding cpp cpp_wide held is_open are_special

  tree_stays : (t : Tree) (x : Sym) (around : Around) (place : ℕ) (state : State) (r : Found (List Value) State) → IsSymbol wide x → IsTree wide x t → Settled around → AllHaveNone state.candidates →
      unfold_tree cpp around place t state ≡ Ok r → Stays (is_special x || around.in_lambda) (unfold_tree cpp_wide around place t state) r
  tree_stays (branch rule taken parts) (OfKind k) around place state r lt is settled cs e =
      let whole = standing rule taken place around state in
      let p = production_at rule.number in
      let from = place + length taken in
      let begun = behind_bind (opening p parts place state) (λ begun. unfold_forest cpp whole [] from parts begun >>= λ inner. close p (byte_of taken) around place state inner.value inner.state >>= alone) r e in
      let kept = opening_keeps p parts place state begun.value begun.is in
      let inner = behind_bind (unfold_forest cpp whole [] from parts begun.value) (λ inner. close p (byte_of taken) around place state inner.value inner.state >>= alone) r begun.next in
      let ended = behind_bind (close p (byte_of taken) around place state inner.value.value inner.value.state) alone r inner.next in
      let one = ended.value in
      let took = taken_rule k rule taken lt is.0 in
      let number : p ≡ took.production = ap (λ x. production_at x.number) took.is ∙ at_number took.production in
      let specials : has_specials p ≡ true → are_special (symbols_of rule) ≡ true =
      λ h. ap are_special (ap symbols_of took.is ∙ its_symbols took.production) ∙ implied (has_specials took.production) (are_special (parts_of took.production)) (special_parts took.production) (sym (ap has_specials number) ∙ h) in
      let symbols = wide_sound.symbols k is.0.byte rule lt is.0.is_byte is.0.found in
      let begins : has_first p ≡ true → begins_first (symbols_of rule) ≡ true =
      λ h. ap begins_first (ap symbols_of took.is ∙ its_symbols took.production) ∙ lambda_begins took.production (sym (ap has_first number) ∙ h) in
      let forest = forest_stays parts whole (symbols_of rule) [] from begun.value inner.value symbols is.1 specials settled (λ l. tt) (subst (λ s. AllHaveNone s.candidates) (sym kept) cs) inner.is in
      let closes = close_stays p (byte_of taken) around place state inner.value.value inner.value.state one settled forest.values (λ h. first_forest parts whole (symbols_of rule) from begun.value inner.value symbols is.1 h (begins h) inner.is) forest.candidates ended.is in
      let same : found (one.value ∷ []) one.state ≡ r = ok_same (found (one.value ∷ []) one.state) r ended.next in
      record {
        is = then_ok (opening_wide p around parts place state) (λ begun. unfold_forest cpp_wide whole [] from parts begun >>= λ inner. close_wide p (byte_of taken) around place state inner.value inner.state >>= alone) begun.value r (opening_stays p around parts place state begun.value cs begun.is)
            (then_ok (unfold_forest cpp_wide whole [] from parts begun.value) (λ inner. close_wide p (byte_of taken) around place state inner.value inner.state >>= alone) inner.value r forest.is
            (then_ok (close_wide p (byte_of taken) around place state inner.value.value inner.value.state) alone one r closes.is ended.next));
        values = λ l. subst (λ x. AllNone x.value) same (
          closed_or (is_special (OfKind k)) around.in_lambda one.value l
              (λ s. special_closes p (byte_of taken) around place state inner.value.value inner.value.state one (special_taken k rule taken lt is.0 s) ended.is) closes.value,
          tt,
        );
        candidates = subst (λ x. AllHaveNone x.state.candidates) same closes.candidates;
      }
  tree_stays (branch rule taken parts) _ around place state r lt is settled cs e = absurd is
  tree_stays empty x around place state r lt is settled cs e = leaf_stays (is_special x || around.in_lambda) nothing_there state r refl cs e
  tree_stays (token t) x around place state r lt is settled cs e = leaf_stays (is_special x || around.in_lambda) (text t.own) state r refl cs e
  tree_stays (fixed byte) x around place state r lt is settled cs e = leaf_stays (is_special x || around.in_lambda) nothing_there state r refl cs e

  forest_stays : (f : Forest) (rule : Open State Around) (xs : List Sym) (vs : List Value) (place : ℕ) (state : State) (r : Found (List Value) State) → AreSymbols wide xs → AreTrees wide xs f →
      (has_specials (production_at rule.rule.number) ≡ true → are_special xs ≡ true) → Settled rule.context → (are_closed (production_at rule.rule.number) rule.context ≡ true → AllNone vs) → AllHaveNone state.candidates →
      unfold_forest cpp rule vs place f state ≡ Ok r → Stays (are_closed (production_at rule.rule.number) rule.context) (unfold_forest cpp_wide rule vs place f state) r
  forest_stays nothing rule xs vs place state r symbols trees specials settled all cs e =
      let same = ok_same (found vs state) r e in
      record { is = e; values = λ l. subst (λ x. AllNone x.value) same (all l); candidates = subst (λ x. AllHaveNone x.state.candidates) same cs }
  forest_stays (grown t f) rule [] vs place state r symbols trees specials settled all cs e = absurd trees
  forest_stays (grown t f) rule (x ∷ xs) vs place state r symbols trees specials settled all cs e =
      let p = production_at rule.rule.number in
      let later = place + length (spell t) in
      let goes = behind_bind (between p rule.context rule.place vs state) (λ next. unfold_tree cpp next.context place t next.state >>= λ part. unfold_forest cpp rule (next.values ++ part.value) later f part.state) r e in
      let n = goes.value in
      let next : NextHasNone (are_closed p rule.context) (has_specials p) n = subst (λ m. IfOk m (NextHasNone (are_closed p rule.context) (has_specials p))) goes.is (between_none p rule.context rule.place vs state settled all cs) in
      let comes = behind_bind (unfold_tree cpp n.context place t n.state) (λ part. unfold_forest cpp rule (n.values ++ part.value) later f part.state) r goes.next in
      let part_ = comes.value in
      let tree_ = tree_stays t x n.context place n.state part_ symbols.0 trees.0 next.context next.candidates comes.is in
      let inside_ : are_closed p rule.context ≡ true → (is_special x || n.context.in_lambda) ≡ true =
      λ l. special_or (has_specials p) (is_special x) n.context.in_lambda (λ h. first_of_both (is_special x) (are_special xs) (specials h)) (next.inside l) in
      let rest = forest_stays f rule xs (n.values ++ part_.value) later part_.state r symbols.1 trees.1 (λ h. second_of_both (is_special x) (are_special xs) (specials h)) settled
      (λ l. all_then n.values part_.value (next.values l) (tree_.values (inside_ l))) tree_.candidates comes.next in
      record {
        is = then_ok (between_wide p rule.context rule.place vs state) (λ next. unfold_tree cpp_wide next.context place t next.state >>= λ part. unfold_forest cpp_wide rule (next.values ++ part.value) later f part.state) n r
            (between_stays p rule.context rule.place vs state n settled goes.is)
            (then_ok (unfold_tree cpp_wide n.context place t n.state) (λ part. unfold_forest cpp_wide rule (n.values ++ part.value) later f part.state) part_ r tree_.is rest.is);
        values = rest.values;
        candidates = rest.candidates;
      }

-- A symbol that denotes a tree by the ABI's grammar denotes the same tree by the wide one.
pub meaning_stays : (shape : Tree) (t : Term) → IsTree wide (OfKind SYMBOL) shape → unfold_cpp shape ≡ Ok t → unfold_wide shape ≡ Ok t
unfolding unfold_cpp unfold_wide first_around first_state
meaning_stays shape t is e =
    let whole = behind_bind (unfold_tree cpp first_around 0 shape first_state) (λ whole. Ok (first_tree whole.value)) t e in
    let stays = tree_stays shape (OfKind SYMBOL) first_around 0 first_state whole.value (known 0 (lit≤ tt)) is (record { prefix = λ l. absurd (false≢true l); bare = λ h. absurd (false≢true h); seen = refl }) tt whole.is in
    then_ok (unfold_tree cpp_wide first_around 0 shape first_state) (λ whole. Ok (first_tree whole.value)) whole.value t stays.is whole.next
