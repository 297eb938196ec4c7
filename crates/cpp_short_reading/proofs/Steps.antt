-- While a symbol is read as the ABI's grammar reads it, every compiler counts the same candidates, no arguments are known in a
-- lambda's signature, and everything is shown.
use Rattle.cpp_grammar.proofs.Basics.{◌≡◌, refl, ap, sym, ◌∙◌, subst, ℕ, zero, suc, ◌-◌, List, [], ◌∷◌, ◌++◌, length, Bool, true, false, not, ◌||◌, ◌&&◌, cond, nat_eq, nat_lt, slice_get, Option, Some, None, Result, Ok, Err, eq-eqb, true≢false, false≢true, IfOk, Refusal, Found, Next, ◌>>=◌, found, Term, parameter, count, element, is_open, length_if_pack, by_all, Candidate, Counting, shown, is_in_constraint, is_at_literal, State, Around, prefix_tree, prefix_listed, Value, tree, tree_of, is_listed, part, appended, is_function_type, with_type, with_unqualified, with_prefix, with_packs, packs_in, is_module, substituted, parameter_named, in_name, in_types, in_signature, under_expansion, after, inside, between, made, is_listing, around_part, packs_within, gained, tested as tested_, done, row_of, meaning, before_part, is_unseen, in_literal, is_passed_over, passed_over, name_around, types_around, is_before_holder, is_by_newer, is_by_all, is_in_list, place_in, named_in, joined, counted_so_far, noting, in_scope, under_scope, restated, with_free, substituted_wide, is_foreign, numbered, Free, none_free, one_free, several_free, Action, Where, after_part, after_the_name, as_before, becomes, goes, holds, in_a_signature, in_its_name, in_its_types, nameless, quiet, tests, under_it, unread}
use Rattle.cpp_grammar.specs.declared.production.Production.{Production}
use Rattle.cpp_grammar.specs.Row.{Gain, nothing, the_prefix, type_of, unqualified_of, itself}
use Rattle.cpp_grammar.specs.Scope.{free_in, has_pack, is_list, pack_length}
use Rattle.cpp_grammar.specs.Unfolding as unfolding_
use Rattle.cpp_grammar.proofs.Chosen.{either, either_cond, if_there}
use Rattle.cpp_short_reading.specs.Reading.{named_by}

-- ## Candidates

abbrev pub AreByAll : List Candidate → Type 0
AreByAll [] = Unit {0}
AreByAll (c ∷ cs) = (c.counted ≡ by_all) × AreByAll cs

one-more : (cs : List Candidate) (c : Candidate) → AreByAll cs → c.counted ≡ by_all → AreByAll (cs ++ (c ∷ []))
one-more [] c all is = (is, tt)
one-more (d ∷ cs) c all is = (all.0, one-more cs c all.1 is)

-- candidates that all compilers count come before no name with its M
none-held : (cs : List Candidate) → AreByAll cs → is_before_holder cs ≡ false
unfolding is_before_holder is_by_newer
none-held [] all = refl
none-held (c ∷ cs) all = ap is_by_newer all.0

all-listed : (is_shorter : Bool) (c : Candidate) (cs : List Candidate) → c.counted ≡ by_all → AreByAll cs → is_in_list is_shorter c cs ≡ true
unfolding is_in_list is_by_all
all-listed is_shorter c cs counted all = ap (λ b. not b && (not is_shorter || is_by_all c.counted)) (none-held cs all) ∙ ap (λ k. not is_shorter || is_by_all k) counted ∙ either_way is_shorter
  where
    either_way : (b : Bool) → (not b || true) ≡ true
    either_way true = refl
    either_way false = refl

place-stays : (is_shorter : Bool) (cs : List Candidate) (n : ℕ) → AreByAll cs → place_in is_shorter cs n ≡ n
unfolding place_in
place-stays is_shorter [] n all = refl
place-stays is_shorter (c ∷ cs) zero all = ap (λ b. elim b [ false ↦ suc (place_in is_shorter cs zero) | true ↦ zero ]) (all-listed is_shorter c cs all.0 all.1)
place-stays is_shorter (c ∷ cs) (suc n) all =
    ap (λ b. elim b [ false ↦ suc (place_in is_shorter cs (suc n)) | true ↦ suc (place_in is_shorter cs n) ]) (all-listed is_shorter c cs all.0 all.1) ∙ ap suc (place-stays is_shorter cs n all.1)

counted-stays : (cs : List Candidate) → AreByAll cs → counted_so_far by_all cs ≡ by_all
unfolding counted_so_far joined
counted-stays [] all = refl
counted-stays (c ∷ cs) all = ap (λ k. counted_so_far (joined by_all k) cs) all.0 ∙ counted-stays cs all.1

-- where all compilers count alike, nothing is noted
pub noting-stays : (counting : Counting) (state : State) → AreByAll state.candidates → noting counting state ≡ state
unfolding noting is_by_all
noting-stays counting state all =
    either {A = State} (λ s. s ≡ state) (is_by_all (counted_so_far by_all state.candidates)) _ _ (λ is. refl) (λ is. absurd (true≢false (sym (ap is_by_all (counted-stays state.candidates all)) ∙ is)))

-- in either list a number names the candidate at that place
pub numbered-stays : (around : Around) (place n : ℕ) (state : State) → AreByAll state.candidates → numbered around place n state ≡ substituted_wide around place (slice_get state.candidates n) state
unfolding numbered named_in
numbered-stays around place n state all =
    let cs = state.candidates in
    let longer = place-stays false cs n all in
    let shorter = place-stays true cs n all in
    either (λ x. x ≡ substituted_wide around place (slice_get cs n) state) (nat_eq (place_in false cs n) (place_in true cs n)) _ _
    (λ is. ap (λ k. substituted_wide around place (slice_get cs k) state) longer)
    (λ is. absurd (true≢false (sym (ap (λ k. nat_eq k (place_in true cs n)) longer ∙ ap (λ k. nat_eq n k) shorter ∙ eq-eqb n n refl) ∙ is)))

-- ## What becomes a candidate

appended-all : (around : Around) (t : Term) (state : State) → AreByAll state.candidates → AreByAll (appended around t state).candidates
unfolding appended
appended-all around t state all = one-more state.candidates (record { tree = t; encoding = around.encoding; in_lambda = around.in_lambda; counted = by_all }) all refl

typed-all : (around : Around) (v : Value) (state : State) → AreByAll state.candidates → AreByAll (with_type around v state).candidates
unfolding with_type
typed-all around v state all = either (λ s. AreByAll s.candidates) (is_listed v) state (appended around (tree_of v) state) (λ h. all) (λ h. appended-all around (tree_of v) state all)

gained-all : (gain : Gain) (around : Around) (vs : List Value) (v : Value) (state : State) → AreByAll state.candidates → AreByAll (gained gain around vs v state).candidates
unfolding gained with_prefix with_unqualified
gained-all nothing around vs v state all = all
gained-all the_prefix around vs v state all =
    either (λ s. AreByAll s.candidates) (prefix_listed around.prefix) state (appended around (prefix_tree around.prefix) state) (λ h. all) (λ h. appended-all around (prefix_tree around.prefix) state all)
gained-all (type_of k) around vs v state all = typed-all around (part vs k) state all
gained-all (unqualified_of k) around vs v state all =
    either (λ s. AreByAll s.candidates) (is_function_type (tree_of (part vs k))) state (with_type around (part vs k) state) (λ h. all) (λ h. typed-all around (part vs k) state all)
gained-all itself around vs v state all = appended-all around (tree_of v) state all

-- after the parts of a production
pub behind-all : (p : Production) (byte : ℕ) (around : Around) (began : State) (vs : List Value) (state : State) → AreByAll state.candidates →
    AreByAll (unfolding_.behind p byte around began vs state).candidates
unfolding unfolding_.behind
behind-all p byte around began vs state all =
    let s = gained (row_of p).gain around vs (meaning p byte around vs) state in
    let one = gained-all (row_of p).gain around vs (meaning p byte around vs) state all in
    either_cond (λ x. AreByAll x.candidates) (row_of p).restores_packs (record s { packs = began.packs }) s (λ h. one) (λ h. one)

-- ## What surrounds a part

pub record Settled (around : Around) : Type 0 where
  pub bare : around.in_lambda ≡ true → around.scope ≡ None
  pub seen : around.showing ≡ shown

pub record NextSettled (n : Next Value State Around) : Type 0 where
  pub context : Settled n.context
  pub candidates : AreByAll n.state.candidates

named-settled : (place : ℕ) → Settled (in_name place)
unfolding in_name
named-settled place = record { bare = λ h. absurd (false≢true h); seen = refl }

after-settled : (t : Term) (listed : Bool) (around : Around) → Settled around → Settled (after t listed around)
unfolding after
after-settled t listed around settled = record { bare = settled.bare; seen = settled.seen }

part-settled : (w : Where) (around : Around) (place : ℕ) (vs : List Value) → Settled around → Settled (around_part around place vs w)
unfolding around_part in_types in_signature under_expansion inside
part-settled as_before around place vs settled = settled
part-settled in_its_name around place vs settled = named-settled place
part-settled in_its_types around place vs settled = record { bare = λ h. absurd (false≢true h); seen = refl }
part-settled in_a_signature around place vs settled = record { bare = λ h. refl; seen = settled.seen }
part-settled under_it around place vs settled = record { bare = settled.bare; seen = settled.seen }
part-settled nameless around place vs settled = record { bare = settled.bare; seen = settled.seen }
part-settled (after_part k listing) around place vs settled = after-settled (tree_of (part vs k)) (is_listing vs listing) around settled
part-settled after_the_name around place vs settled = after-settled (prefix_tree around.prefix) true around settled

-- ## Before a part

packs-keep : (place : ℕ) (b : Bool) (o : Option ℕ) (state : State) → IfOk (with_packs place b o state) (λ s. s.candidates ≡ state.candidates)
unfolding with_packs
packs-keep place b None state = refl
packs-keep place false (Some m) state = tt
packs-keep place true (Some m) state =
    let kept : Result State Refusal → Type 0 = λ x. IfOk x (λ s. s.candidates ≡ state.candidates) in
    if_there kept state.packs _ _ refl (λ n is. either kept (nat_eq m n) _ _ (λ h. refl) (λ h. tt))

within-all : (w : Where) (state : State) → AreByAll state.candidates → AreByAll (packs_within w state).candidates
unfolding packs_within
within-all under_it state all = all
within-all _ state all = all

becomes-settled : (is_name : Bool) (around : Around) (t : Term) (is_in : Bool) → Settled around → Settled (cond is_name (after t is_in around) around)
becomes-settled true around t is_in settled = after-settled t is_in around settled
becomes-settled false around t is_in settled = settled

tests-settled : (is_name : Bool) (around : Around) (place k : ℕ) (vs : List Value) (state : State) → Settled around → AreByAll state.candidates →
    IfOk (parameter_named around place k state >>= λ s. tested_ is_name around (parameter k) vs s state) NextSettled
unfolding parameter_named tested_
tests-settled is_name around place k vs state settled all =
    let passes : Result State Refusal → Type 0 = λ m. IfOk (m >>= λ s. tested_ is_name around (parameter k) vs s state) NextSettled in
    if_there passes around.scope _ _ tt (λ arguments is. either passes (nat_lt k (count arguments)) _ _
    (λ h. packed (with_packs place around.in_expansion (length_if_pack (element arguments k)) state) (packs-keep place around.in_expansion (length_if_pack (element arguments k)) state)) (λ h. tt))
  where
    -- a parameter that is itself an argument is no candidate
    kept : (b : Bool) (now : State) → AreByAll now.candidates → AreByAll (cond b now (record now { candidates = state.candidates })).candidates
    kept true now all_ = all_
    kept false now all_ = all

    packed : (m : Result State Refusal) → IfOk m (λ s. s.candidates ≡ state.candidates) →
        IfOk ((m >>= λ s. Ok (appended around (parameter k) s)) >>= λ s. tested_ is_name around (parameter k) vs s state) NextSettled
    packed (Ok s) same = record {
      context = becomes-settled is_name around (parameter k) true settled;
      candidates = kept is_name (appended around (parameter k) s) (appended-all around (parameter k) s (subst AreByAll (sym same) all));
    }
    packed (Err e) same = tt

done-settled : (b : Action) (around : Around) (place : ℕ) (vs : List Value) (state : State) → Settled around → AreByAll state.candidates → IfOk (done b around place vs state) NextSettled
unfolding done
done-settled quiet around place vs state settled all = record { context = settled; candidates = all }
done-settled (goes gain w) around place vs state settled all =
    record { context = part-settled w around place vs settled; candidates = within-all w (gained gain around vs _ state) (gained-all gain around vs _ state all) }
done-settled (becomes m is_in is_name is_candidate) around place vs state settled all =
    let t = made 0 around vs m in
    record {
      context = becomes-settled is_name around t is_in settled;
      candidates = either_cond (λ s. AreByAll s.candidates) is_candidate (appended around t state) state (λ h. appended-all around t state all) (λ h. all);
    }
done-settled (tests after_t is_name) around place vs state settled all = tests-settled is_name around (cond after_t (place - 1) place) _ vs state settled all
done-settled holds around place vs state settled all = tt
done-settled unread around place vs state settled all = tt

pub between-settled : (p : Production) (around : Around) (place : ℕ) (vs : List Value) (state : State) → Settled around → AreByAll state.candidates → IfOk (between p around place vs state) NextSettled
unfolding between
between-settled p around place vs state settled all = done-settled (before_part (row_of p) (length vs)) around place vs state settled all

-- ## Where everything is shown

both-false : (b : Bool) → (b && false) ≡ false
both-false true = refl
both-false false = refl

pub not-unseen : (around : Around) → Settled around → is_unseen around ≡ false
unfolding is_unseen is_in_constraint
not-unseen around settled = ap (λ s. around.in_lambda && is_in_constraint s) settled.seen ∙ both-false around.in_lambda

pub not-passed : (around : Around) → Settled around → is_passed_over around ≡ false
unfolding is_passed_over is_at_literal
not-passed around settled = ap (λ s. around.in_lambda && is_at_literal s) settled.seen ∙ both-false around.in_lambda

pub literal-stays : (around : Around) → Settled around → in_literal around ≡ around
unfolding in_literal
literal-stays around settled = either {A = Around} (λ a. a ≡ around) (is_unseen around) _ _ (λ is. absurd (false≢true (sym (not-unseen around settled) ∙ is))) (λ is. refl)

pub name-stays : (around : Around) (place : ℕ) → Settled around → name_around around place ≡ in_name place
unfolding name_around
name-stays around place settled = ap (λ b. elim b [ true ↦ passed_over place | false ↦ in_name place ]) (not-passed around settled)

pub types-stay : (around : Around) (place : ℕ) (name : Term) → Settled around → types_around around place name ≡ in_types place name
unfolding types_around
types-stay around place name settled = ap (λ b. elim (b && is_open name) [ true ↦ passed_over place | false ↦ in_types place name ]) (not-passed around settled)

-- ## What substitutions name

-- a substitution makes no candidate
Keeps : State → Result (Found Value State) Refusal → Type 0
Keeps state m = IfOk m (λ r. r.state.candidates ≡ state.candidates)

packed-keeps : (t : Term) (state : State) (m : Result State Refusal) → IfOk m (λ s. s.candidates ≡ state.candidates) → Keeps state (m >>= λ s. Ok (found (tree t true) s))
unfolding Keeps
packed-keeps t state (Ok s) same = same
packed-keeps t state (Err e) same = tt

substituted-keeps : (around : Around) (place : ℕ) (o : Option Candidate) (state : State) → Keeps state (substituted around place o state)
unfolding Keeps substituted
substituted-keeps around place None state = tt
substituted-keeps around place (Some c) state = either (Keeps state) (is_module c.tree || (is_open c.tree && (around.in_lambda || not (nat_eq c.encoding around.encoding)))) _ _
    (λ h. tt) (λ h. packed-keeps c.tree state (with_packs place around.in_expansion (packs_in around.scope c.tree) state) (packs-keep place around.in_expansion (packs_in around.scope c.tree) state))

freed-keeps : (free : Free) (around : Around) (place : ℕ) (t : Term) (state : State) → Keeps state (with_free free around place t state)
unfolding Keeps with_free in_scope under_scope
freed-keeps none_free around place t state = tt
freed-keeps (one_free k) around place t state = if_there (Keeps state) around.scope _ _ tt (λ arguments is. either (Keeps state) (nat_lt k (count arguments) && not (is_list (element arguments k))) _ _
    (λ h. packed-keeps t state (with_packs place around.in_expansion (pack_length arguments t) state) (packs-keep place around.in_expansion (pack_length arguments t) state)) (λ h. tt))
freed-keeps (several_free m) around place t state = if_there (Keeps state) around.scope _ _ tt (λ arguments is. either (Keeps state) (nat_lt m (count arguments) && not (has_pack arguments)) _ _ (λ h. refl) (λ h. tt))

pub named-keeps : (is_wide : Bool) (around : Around) (place : ℕ) (o : Option Candidate) (state : State) → IfOk (named_by is_wide around place o state) (λ r. r.state.candidates ≡ state.candidates)
unfolding Keeps named_by substituted_wide restated
named-keeps false around place o state = substituted-keeps around place o state
named-keeps true around place None state = tt
named-keeps true around place (Some c) state = either (Keeps state) (is_foreign around c) (restated around place c.tree state) (substituted around place (Some c) state)
    (λ foreign. either (Keeps state) around.in_lambda (Ok (found (tree c.tree true) state)) (with_free (free_in c.tree) around place c.tree state) (λ is. refl) (λ is. freed-keeps (free_in c.tree) around place c.tree state))
    (λ own. substituted-keeps around place (Some c) state)
