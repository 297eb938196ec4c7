-- The candidates that a part appends are closed where no parameters are named around the part.
use Rattle.cpp_grammar.proofs.Basics.{◌≡◌, refl, ap, sym, ◌∙◌, subst, ℕ, zero, suc, ◌-◌, ◌<◌, ◌≤◌, List, [], ◌∷◌, ◌++◌, Bool, true, false, not, ◌||◌, ◌&&◌, nat_eq, nat_lt, slice_get, Option, Some, None, Result, Ok, Err, ◌⊎◌, inl, inr, arith, eqb-true, true≢false, false≢true, Refusal, BadReference, Found, ◌>>=◌, found, Production, Term, parameter, lambda, generic_lambda, list, absent, count, element, is_list, has_pack, length_if_pack, is_open, pack_length, Free, none_free, one_free, several_free, free_in, ScopesAreClosed, Seq36, counted_value, Counted, by_all, by_newer, by_gcc, Candidate, Lists, both_lists, longer_list, shorter_list, no_list, Counting, State, Around, prefix_tree, prefix_listed, Value, nothing_there, tree, piece, pair, is_listed, text_of, local_number, part, tree_of, appended, appended_by, is_function_type, with_type, with_unqualified, with_prefix, with_packs, packs_in, is_module, substituted, parameter_named, is_unseen, is_passed_over, name_if, is_declaring, lambda_with, as_generic_lambda, with_holder, counted_unless, counted_base, counted_held, with_constructor, with_held, place_in, named_in, is_by_all, counted_so_far, awaiting, noting, left_at, with_lists, listed_by, is_foreign, in_scope, under_scope, with_free, restated, substituted_wide, numbered, close_wide, parameters, signature_with, meaning, close, no_items, gained, row_of}
use Rattle.std.proofs.lemmas.List.{append_assoc, append-nil}
use Rattle.cpp_grammar.specs.Unfolding as unfolding_
use Rattle.cpp_grammar.specs.Row.{Gain, nothing, the_prefix, type_of, unqualified_of, itself}
use Rattle.cpp_grammar.proofs.Ways.{has_signature}
use Rattle.cpp_grammar.proofs.Declared.{makes_declared, read_of}
use Rattle.cpp_grammar.proofs.Chosen.{either, either_cond, if_there}
use Rattle.cpp_grammar.proofs.ClosedValues.{good_where, all_where, prefix_where, Good, AllGood, GoodPrefix, HasClosedName, held, good_nothing, good_tree, good_held, good_part, good_prefix, meaning_good}

-- No parameters are named here: there is no scope, and if a lambda's parameters are its own, this place isn't in a
-- lambda's signature.
abbrev pub Bare : (own : Bool) → Around → Type 0
Bare own around = (around.scope ≡ None) × (own ≡ true → around.in_lambda ≡ false)

-- likewise for the parts of this production, which are in no signature if a lambda's parameters are its own
abbrev pub Within : (own : Bool) → Production → Around → Type 0
Within own p around = Bare own around × (own ≡ true → has_signature p ≡ false)

-- a candidate without a lambda's parameters
abbrev pub IsOutside : (own : Bool) → Candidate → Type 0
IsOutside own c = own ≡ true → c.in_lambda ≡ false

-- a candidate that was made in the encoding of these surroundings
abbrev IsHere : (own : Bool) → Around → Candidate → Type 0
IsHere own around c = (c.encoding ≡ around.encoding) × (around.scope ≡ None → IsOutside own c → is_open c.tree ≡ false)

-- a candidate that was appended earlier: in this encoding, or in one that begins before a place
pub record IsOld (own : Bool) (around : Around) (at : ℕ) (c : Candidate) : Type 0 where
  pub scopes : ScopesAreClosed c.tree
  pub closed : Bare own around → around.in_lambda ≡ false → IsOutside own c → c.encoding ≡ around.encoding → is_open c.tree ≡ false
  pub place : (c.encoding ≡ around.encoding) ⊎ (c.encoding < at)

-- a candidate that a part appended: in this encoding, or in one within it that begins before a place
pub record IsNew (own : Bool) (around : Around) (end : ℕ) (c : Candidate) : Type 0 where
  pub scopes : ScopesAreClosed c.tree
  pub place : IsHere own around c ⊎ ((around.encoding < c.encoding) × (c.encoding < end))

abbrev pub AllOld : (own : Bool) → Around → ℕ → List Candidate → Type 0
AllOld own around at [] = Unit {0}
AllOld own around at (c ∷ cs) = IsOld own around at c × AllOld own around at cs

abbrev pub AllNew : (own : Bool) → Around → ℕ → List Candidate → Type 0
AllNew own around end [] = Unit {0}
AllNew own around end (c ∷ cs) = IsNew own around end c × AllNew own around end cs

-- candidates are appended
pub record Grows (own : Bool) (around : Around) (end : ℕ) (old new : State) : Type 0 where
  pub more : List Candidate
  pub is : new.candidates ≡ old.candidates ++ more
  pub each : AllNew own around end more

-- ## Growth

new_later : (own : Bool) (around : Around) (a b : ℕ) (cs : List Candidate) → a ≤ b → AllNew own around a cs → AllNew own around b cs
new_later own around a b [] le each = tt
new_later own around a b (c ∷ cs) le each = (record { scopes = each.0.scopes; place = later each.0.place }, new_later own around a b cs le each.1)
  where
    later : IsHere own around c ⊎ ((around.encoding < c.encoding) × (c.encoding < a)) →
        IsHere own around c ⊎ ((around.encoding < c.encoding) × (c.encoding < b))
    later (inl here) = inl here
    later (inr inner) = inr (inner.0, omega (arith, inner.1, le))

new_append : (own : Bool) (around : Around) (end : ℕ) (cs ds : List Candidate) → AllNew own around end cs → AllNew own around end ds → AllNew own around end (cs ++ ds)
new_append own around end [] ds f g = g
new_append own around end (c ∷ cs) ds f g = (f.0, new_append own around end cs ds f.1 g)

pub grows_same : (own : Bool) (around : Around) (end : ℕ) (old new : State) → new.candidates ≡ old.candidates → Grows own around end old new
grows_same own around end old new same = record { more = []; is = same ∙ sym (append-nil old.candidates); each = tt }

pub grows_by : (counted : Counted) (own : Bool) (around : Around) (end : ℕ) (t : Term) (state : State) → Good (Bare own around) t → Grows own around end state (appended_by counted around t state)
grows_by counted own around end t state good = record {
  more = record { tree = t; encoding = around.encoding; in_lambda = around.in_lambda; counted = counted } ∷ [];
  is = refl;
  each = (record { scopes = good.scopes tt; place = inl (refl, λ none outside. good.closed (none, outside)) }, tt);
}

pub grows_one : (own : Bool) (around : Around) (end : ℕ) (t : Term) (state : State) → Good (Bare own around) t → Grows own around end state (appended around t state)
unfolding appended
grows_one own around end t state good = grows_by by_all own around end t state good

pub grows_then : (own : Bool) (around : Around) (a b : ℕ) (x y z : State) → a ≤ b → Grows own around a x y → Grows own around b y z → Grows own around b x z
grows_then own around a b x y z le f g = record {
  more = f.more ++ g.more;
  is = g.is ∙ ap (λ cs. cs ++ g.more) f.is ∙ append_assoc x.candidates f.more g.more;
  each = new_append own around b f.more g.more (new_later own around a b f.more le f.each) g.each;
}

pub grows_held : (own : Bool) (around : Around) (end : ℕ) (t : Term) (state : State) → Good (Bare own around) t → Grows own around end state (with_holder around t state)
unfolding with_holder
grows_held own around end t state good =
    either (λ s. Grows own around end state (appended_by by_newer around t s)) (prefix_listed around.prefix) (appended around t state) state
    (λ is. grows_then own around end end state (appended around t state) (appended_by by_newer around t (appended around t state)) (omega arith) (grows_one own around end t state good) (grows_by by_newer own around end t (appended around t state) good))
    (λ is. grows_by by_newer own around end t state good)

pub old_append : (own : Bool) (around : Around) (at : ℕ) (cs ds : List Candidate) → AllOld own around at cs → AllOld own around at ds → AllOld own around at (cs ++ ds)
old_append own around at [] ds f g = g
old_append own around at (c ∷ cs) ds f g = (f.0, old_append own around at cs ds f.1 g)

pub old_later : (own : Bool) (around : Around) (a b : ℕ) (cs : List Candidate) → a ≤ b → AllOld own around a cs → AllOld own around b cs
old_later own around a b [] le each = tt
old_later own around a b (c ∷ cs) le each = (record { scopes = each.0.scopes; closed = each.0.closed; place = later each.0.place }, old_later own around a b cs le each.1)
  where
    later : (c.encoding ≡ around.encoding) ⊎ (c.encoding < a) → (c.encoding ≡ around.encoding) ⊎ (c.encoding < b)
    later (inl same) = inl same
    later (inr less) = inr (omega (arith, less, le))

new_is_old : (own : Bool) (around : Around) (end : ℕ) (cs : List Candidate) → AllNew own around end cs → AllOld own around end cs
new_is_old own around end [] each = tt
new_is_old own around end (c ∷ cs) each = (known each.0.place, new_is_old own around end cs each.1)
  where
    known : IsHere own around c ⊎ ((around.encoding < c.encoding) × (c.encoding < end)) → IsOld own around end c
    known (inl here) = record { scopes = each.0.scopes; closed = λ bare free outside same. here.1 bare.0 outside; place = inl here.0 }
    known (inr inner) = record { scopes = each.0.scopes; closed = λ bare free outside same. absurd (omega (arith, inner.0, same)); place = inr inner.1 }

pub old_grows : (own : Bool) (around : Around) (a b : ℕ) (old new : State) → a ≤ b → AllOld own around a old.candidates → Grows own around b old new → AllOld own around b new.candidates
old_grows own around a b old new le known grows =
    subst (λ cs. AllOld own around b cs) (sym grows.is) (old_append own around b old.candidates grows.more (old_later own around a b old.candidates le known) (new_is_old own around b grows.more grows.each))

-- ## Types and prefixes

pub with_type_grows : (own : Bool) (around : Around) (end : ℕ) (v : Value) (state : State) → Good (Bare own around) (tree_of v) → Grows own around end state (with_type around v state)
unfolding with_type
with_type_grows own around end v state good =
    either (Grows own around end state) (is_listed v) _ _ (λ h. grows_same own around end state state refl) (λ h. grows_one own around end (tree_of v) state good)

with_unqualified_grows : (own : Bool) (around : Around) (end : ℕ) (v : Value) (state : State) → Good (Bare own around) (tree_of v) → Grows own around end state (with_unqualified around v state)
unfolding with_unqualified
with_unqualified_grows own around end v state good =
    either (Grows own around end state) (is_function_type (tree_of v)) _ _ (λ h. grows_same own around end state state refl) (λ h. with_type_grows own around end v state good)

-- ## References

abbrev ok_or : {A : Type 0} → A → Result A Refusal → A
ok_or d (Ok x) = x
ok_or d (Err e) = d

pub ok_same : {A : Type 0} (a b : A) → ◌≡◌ {A = Result A Refusal} (Ok a) (Ok b) → a ≡ b
ok_same a b e = ap (ok_or a) e

-- the result of a step that wasn't refused
pub record Behind {A B : Type 0} (x : Result A Refusal) (f : A → Result B Refusal) (r : B) : Type 0 where
  pub value : A
  pub is : x ≡ Ok value
  pub next : f value ≡ Ok r

pub behind_bind : {A B : Type 0} (x : Result A Refusal) (f : A → Result B Refusal) (r : B) → (x >>= f) ≡ Ok r → Behind x f r
behind_bind (Ok a) f r e = record { value = a; is = refl; next = e }
behind_bind (Err d) f r e = absurd cc

packs_keep : (place : ℕ) (b : Bool) (o : Option ℕ) (state new : State) → with_packs place b o state ≡ Ok new → new.candidates ≡ state.candidates
unfolding with_packs
packs_keep place b None state new e = ap (λ s. s.candidates) (sym (ok_same state new e))
packs_keep place false (Some m) state new e = absurd cc
packs_keep place true (Some m) state new e =
    let kept : Result State Refusal → Type 0 = λ x. x ≡ Ok new → new.candidates ≡ state.candidates in
    if_there kept state.packs _ _ (λ h. ap (λ s. s.candidates) (sym (ok_same (record state { packs = Some m }) new h)))
    (λ n is. either kept (nat_eq m n) _ _ (λ same h. ap (λ s. s.candidates) (sym (ok_same state new h))) (λ other h. absurd cc)) e

pub old_get : (own : Bool) (around : Around) (at : ℕ) (cs : List Candidate) (n : ℕ) (c : Candidate) → AllOld own around at cs → slice_get cs n ≡ Some c → IsOld own around at c
old_get own around at [] n c all e = absurd cc
old_get own around at (d ∷ cs) zero c all e = let same : d ≡ c = cc in subst (λ x. IsOld own around at x) same all.0
old_get own around at (d ∷ cs) (suc n) c all e = old_get own around at cs n c all.1 e

named_good : (own : Bool) (around : Around) (place at : ℕ) (c : Candidate) (state : State) (r : Found Value State) → IsOld own around at c → (is_open c.tree ≡ true → IsOutside own c) → substituted around place (Some c) state ≡ Ok r →
    Good (Bare own around) (held r.value) × (r.state.candidates ≡ state.candidates)
unfolding substituted held
named_good own around place at c state r old outside e = go (is_module c.tree) (is_open c.tree) around.in_lambda (nat_eq c.encoding around.encoding) refl refl refl e
  where
    answered : (Bare own around → is_open c.tree ≡ false) → (with_packs place around.in_expansion (packs_in around.scope c.tree) state >>= λ s. Ok (found (tree c.tree true) s)) ≡ Ok r →
        Good (Bare own around) (held r.value) × (r.state.candidates ≡ state.candidates)
    answered closed h =
        let b = behind_bind (with_packs place around.in_expansion (packs_in around.scope c.tree) state) (λ s. Ok (found (tree c.tree true) s)) r h in
        let same : found (tree c.tree true) b.value ≡ r = ok_same (found (tree c.tree true) b.value) r b.next in
        subst (λ x. Good (Bare own around) (held x.value) × (x.state.candidates ≡ state.candidates)) same
        (record { closed = closed; scopes = λ n. old.scopes }, packs_keep place around.in_expansion (packs_in around.scope c.tree) state b.value b.is)

    go : (module_ open_ lambda_ same : Bool) → is_open c.tree ≡ open_ → around.in_lambda ≡ lambda_ → nat_eq c.encoding around.encoding ≡ same →
        ◌≡◌ {A = Result (Found Value State) Refusal} (elim (module_ || (open_ && (lambda_ || not same))) [
          | true ↦ Err (BadReference place)
          | false ↦ with_packs place around.in_expansion (packs_in around.scope c.tree) state >>= λ s. Ok (found (tree c.tree true) s)
        ]) (Ok r) → Good (Bare own around) (held r.value) × (r.state.candidates ≡ state.candidates)
    go true open_ lambda_ same is-open is-lambda is-same h = let clash : ◌≡◌ {A = Result (Found Value State) Refusal} (Err (BadReference place)) (Ok r) = h in absurd cc
    go false false lambda_ same is-open is-lambda is-same h = answered (λ bare. is-open) h
    go false true true same is-open is-lambda is-same h = absurd cc
    go false true false false is-open is-lambda is-same h = absurd cc
    go false true false true is-open is-lambda is-same h = answered (λ bare. old.closed bare is-lambda (outside is-open) (eqb-true c.encoding around.encoding is-same)) h

pub substituted_good : (around : Around) (place at n : ℕ) (state : State) (r : Found Value State) → AllOld false around at state.candidates →
    substituted around place (slice_get state.candidates n) state ≡ Ok r → Good (Bare false around) (held r.value) × (r.state.candidates ≡ state.candidates)
unfolding substituted
substituted_good around place at n state r all e = go (slice_get state.candidates n) refl e
  where
    go : (o : Option Candidate) → slice_get state.candidates n ≡ o → substituted around place o state ≡ Ok r → Good (Bare false around) (held r.value) × (r.state.candidates ≡ state.candidates)
    go None is h = let clash : ◌≡◌ {A = Result (Found Value State) Refusal} (Err (BadReference place)) (Ok r) = h in absurd cc
    go (Some c) is h = named_good false around place at c state r (old_get false around at state.candidates n c all is) (λ opens none. absurd (false≢true none)) h

pub parameter_good : (own : Bool) (around : Around) (k : ℕ) → (Bare own around → ⊥) → Good (Bare own around) (parameter k)
parameter_good own around k named = record { closed = λ bare. absurd (named bare); scopes = λ n. tt }

-- a parameter that wasn't refused was named in a scope, and is a candidate
pub record Named (own : Bool) (around : Around) (k end : ℕ) (old new : State) : Type 0 where
  pub scoped : Bare own around → ⊥
  pub grows : Grows own around end old new

pub parameter_grows : (own : Bool) (around : Around) (place k end : ℕ) (state new : State) → parameter_named around place k state ≡ Ok new → Named own around k end state new
unfolding parameter_named
parameter_grows own around place k end state new e =
    let named : Result State Refusal → Type 0 = λ x. x ≡ Ok new → Named own around k end state new in
    if_there named around.scope _ _ (λ h. absurd cc)
    (λ arguments is. either named (nat_lt k (count arguments)) _ _
    (λ there h.
    let packs = with_packs place around.in_expansion (length_if_pack (element arguments k)) state in
    let b = behind_bind packs (λ s. Ok (appended around (parameter k) s)) new h in
    let same : appended around (parameter k) b.value ≡ new = ok_same (appended around (parameter k) b.value) new b.next in
    let scoped : Bare own around → ⊥ = λ bare. (let clash : None ≡ Some arguments = sym bare.0 ∙ is in cc) in
    let one = grows_one own around end (parameter k) b.value (parameter_good own around k scoped) in
    record {
      scoped = scoped;
      grows = subst (λ s. Grows own around end state s) same
          (grows_then own around end end state b.value (appended around (parameter k) b.value) (omega arith)
          (grows_same own around end state b.value (packs_keep place around.in_expansion (length_if_pack (element arguments k)) state b.value b.is)) one);
    }) (λ missing h. absurd cc)) e

-- ## After the parts of a production

pub with_prefix_grows : (own : Bool) (around : Around) (end : ℕ) (state : State) → GoodPrefix (Bare own around) around.prefix → Grows own around end state (with_prefix around state)
unfolding with_prefix
with_prefix_grows own around end state good =
    either (Grows own around end state) (prefix_listed around.prefix) _ _ (λ h. grows_same own around end state state refl)
    (λ h. grows_one own around end (prefix_tree around.prefix) state (good_prefix (Bare own around) around.prefix good))

pub gained_grows : (own : Bool) (gain : Gain) (around : Around) (vs : List Value) (v : Value) (state : State) (end : ℕ) →
    GoodPrefix (Bare own around) around.prefix → AllGood (Bare own around) vs → Good (Bare own around) (tree_of v) → Grows own around end state (gained gain around vs v state)
unfolding gained
gained_grows own nothing around vs v state end pre all good = grows_same own around end state state refl
gained_grows own the_prefix around vs v state end pre all good = with_prefix_grows own around end state pre
gained_grows own (type_of k) around vs v state end pre all good = with_type_grows own around end (part vs k) state (good_part (Bare own around) vs k all)
gained_grows own (unqualified_of k) around vs v state end pre all good = with_unqualified_grows own around end (part vs k) state (good_part (Bare own around) vs k all)
gained_grows own itself around vs v state end pre all good = grows_one own around end (tree_of v) state good

-- changing the packs doesn't change which candidates are appended
pub grows_packs : (own : Bool) (around : Around) (end : ℕ) (old new : State) (packs : Option ℕ) → Grows own around end old new → Grows own around end old (record new { packs = packs })
grows_packs own around end old new packs grows = record { more = grows.more; is = grows.is; each = grows.each }

behind_grows : (own : Bool) (production : Production) (byte : ℕ) (around : Around) (began : State) (vs : List Value) (state : State) (end : ℕ) → GoodPrefix (Bare own around) around.prefix → AllGood (Bare own around) vs →
    HasClosedName production vs → Grows own around end state (unfolding_.behind production byte around began vs state)
unfolding unfolding_.behind
behind_grows own production byte around began vs state end pre all name =
    let v = meaning production byte around vs in
    let new = gained (row_of production).gain around vs v state in
    let gains : Grows own around end state new =
    gained_grows own (row_of production).gain around vs v state end pre all (good_tree (Bare own around) v (meaning_good (Bare own around) production byte around vs pre all (λ n. name))) in
    either_cond (Grows own around end state) (row_of production).restores_packs (record new { packs = began.packs }) new (λ h. grows_packs own around end state new began.packs gains) (λ h. gains)

-- what this production denotes has no parameters
abbrev pub YieldsOf : (own : Bool) → Production → Around → Type 0
YieldsOf own p around = Bare own around × (own ≡ true → makes_declared p ≡ false)

-- the value of a part is good, and the candidates grow
pub record Comes (own : Bool) (around : Around) (end : ℕ) (old : State) (r : Found Value State) : Type 0 where
  pub good : Good (Bare own around) (held r.value)
  pub grows : Grows own around end old r.state

-- likewise, but the value of a declaration needn't be closed
pub record Yields (own : Bool) (p : Production) (around : Around) (end : ℕ) (old : State) (r : Found Value State) : Type 0 where
  pub good : Good (YieldsOf own p around) (held r.value)
  pub grows : Grows own around end old r.state

pub yields : (own : Bool) (p : Production) (around : Around) (end : ℕ) (old : State) (r : Found Value State) → Comes own around end old r → Yields own p around end old r
yields own p around end old r comes = record { good = good_where (Bare own around) (YieldsOf own p around) (held r.value) (λ y. y.0) comes.good; grows = comes.grows }

comes_by : (own : Bool) (around : Around) (end : ℕ) (state new : State) (v : Value) (r : Found Value State) → Good (Bare own around) (held v) → Grows own around end state new →
    ◌≡◌ {A = Result (Found Value State) Refusal} (Ok (found v new)) (Ok r) → Comes own around end state r
comes_by own around end state new v r good grows e = subst (λ x. Comes own around end state x) (ok_same (found v new) r e) (record { good = good; grows = grows })

made_good : (own : Bool) (production : Production) (byte : ℕ) (around : Around) (began : State) (vs : List Value) (state : State) (r : Found Value State) (end : ℕ) →
    GoodPrefix (Bare own around) around.prefix → AllGood (Bare own around) vs → HasClosedName production vs →
    ◌≡◌ {A = Result (Found Value State) Refusal} (Ok (found (meaning production byte around vs) (unfolding_.behind production byte around began vs state))) (Ok r) → Comes own around end state r
made_good own production byte around began vs state r end pre all name e =
    comes_by own around end state (unfolding_.behind production byte around began vs state) (meaning production byte around vs) r
    (meaning_good (Bare own around) production byte around vs pre all (λ n. name)) (behind_grows own production byte around began vs state end pre all name) e

pub close_good : (production : Production) (byte : ℕ) (around : Around) (place : ℕ) (began : State) (vs : List Value) (state : State) (r : Found Value State) (end : ℕ) →
    AllOld false around end state.candidates → GoodPrefix (Bare false around) around.prefix → AllGood (Within false production around) vs → HasClosedName production vs →
    close production byte around place began vs state ≡ Ok r → Comes false around end state r
unfolding close
close_good Production.Substitution byte around place began vs state r end old pre all name e =
    let both = substituted_good around (place - 1) end (counted_value Seq36 (text_of (part vs 0))) state r old e in
    record { good = both.0; grows = grows_same false around end state r.state both.1 }
close_good Production.Inheriting byte around place began vs state r end old pre all name e = let clash : ◌≡◌ {A = Result (Found Value State) Refusal} (Err (BadReference place)) (Ok r) = e in absurd cc
close_good production byte around place began vs state r end old pre all name e =
    let inside = all_where (Within false production around) (Bare false around) vs (λ bare. (bare, λ own. absurd (false≢true own))) all in
    made_good false production byte around began vs state r end pre inside name e

-- ## The reading of the wide grammar

-- the value of a substitution is good, and no candidate is added
abbrev IsNamed : Around → State → Found Value State → Type 0
IsNamed around state r = Good (Bare true around) (held r.value) × (r.state.candidates ≡ state.candidates)

-- under a scope parameters name arguments
in_scope_good : (around : Around) (t arguments : Term) → around.scope ≡ Some arguments → ScopesAreClosed t → Good (Bare true around) t
in_scope_good around t arguments is scopes = record { closed = λ bare. (let clash : None ≡ Some arguments = sym bare.0 ∙ is in absurd cc); scopes = λ n. scopes }

scope_good : (around : Around) (place : ℕ) (t : Term) (k : ℕ) (state : State) (r : Found Value State) → ScopesAreClosed t → in_scope around place t k state ≡ Ok r → IsNamed around state r
unfolding in_scope held
scope_good around place t k state r scopes e =
    let named : Result (Found Value State) Refusal → Type 0 = λ x. x ≡ Ok r → IsNamed around state r in
    if_there named around.scope _ _ (λ h. absurd cc)
    (λ arguments is. either named (nat_lt k (count arguments) && not (is_list (element arguments k))) _ _
    (λ there h.
    let b = behind_bind (with_packs place around.in_expansion (pack_length arguments t) state) (λ s. Ok (found (tree t true) s)) r h in
    subst (λ x. IsNamed around state x) (ok_same (found (tree t true) b.value) r b.next)
    (in_scope_good around t arguments is scopes, packs_keep place around.in_expansion (pack_length arguments t) state b.value b.is)) (λ missing h. absurd cc)) e

under_good : (around : Around) (place : ℕ) (t : Term) (m : ℕ) (state : State) (r : Found Value State) → ScopesAreClosed t → under_scope around place t m state ≡ Ok r → IsNamed around state r
unfolding under_scope held
under_good around place t m state r scopes e =
    let named : Result (Found Value State) Refusal → Type 0 = λ x. x ≡ Ok r → IsNamed around state r in
    if_there named around.scope _ _ (λ h. absurd cc)
    (λ arguments is. either named (nat_lt m (count arguments) && not (has_pack arguments)) _ _
    (λ there h. subst (λ x. IsNamed around state x) (ok_same (found (tree t true) state) r h) (in_scope_good around t arguments is scopes, refl)) (λ missing h. absurd cc)) e

free_good : (free : Free) (around : Around) (place : ℕ) (t : Term) (state : State) (r : Found Value State) → ScopesAreClosed t → with_free free around place t state ≡ Ok r → IsNamed around state r
unfolding with_free
free_good none_free around place t state r scopes e = absurd cc
free_good (one_free k) around place t state r scopes e = scope_good around place t k state r scopes e
free_good (several_free m) around place t state r scopes e = under_good around place t m state r scopes e

restated_good : (around : Around) (place : ℕ) (t : Term) (state : State) (r : Found Value State) → ScopesAreClosed t → restated around place t state ≡ Ok r → IsNamed around state r
unfolding restated held
restated_good around place t state r scopes e =
    either (λ x. x ≡ Ok r → IsNamed around state r) around.in_lambda _ _
    (λ is h. subst (λ x. IsNamed around state x) (ok_same (found (tree t true) state) r h) (record { closed = λ bare. absurd (true≢false (sym is ∙ bare.1 refl)); scopes = λ n. scopes }, refl))
    (λ is h. free_good (free_in t) around place t state r scopes h) e

wide_named_good : (around : Around) (place at : ℕ) (c : Candidate) (state : State) (r : Found Value State) → IsOld true around at c → substituted_wide around place (Some c) state ≡ Ok r → IsNamed around state r
unfolding substituted_wide is_foreign
wide_named_good around place at c state r old e =
    either (λ x. x ≡ Ok r → IsNamed around state r) (is_open c.tree && (around.in_lambda || (c.in_lambda || not (nat_eq c.encoding around.encoding)))) _ _
    (λ is h. restated_good around place c.tree state r old.scopes h)
    (λ is h. named_good true around place at c state r old (λ opens own. outside (is_open c.tree) c.in_lambda (not (nat_eq c.encoding around.encoding)) is opens) h) e
  where
    outside : (open_ first second : Bool) → (open_ && (around.in_lambda || (first || second))) ≡ false → open_ ≡ true → first ≡ false
    outside open_ first second none opens = go_ around.in_lambda first (sym (ap (λ o. o && (around.in_lambda || (first || second))) opens) ∙ none)
      where
        go_ : (lambda_ first_ : Bool) → (lambda_ || (first_ || second)) ≡ false → first_ ≡ false
        go_ true first_ h = absurd (true≢false h)
        go_ false true h = absurd (true≢false h)
        go_ false false h = refl

wide_substituted_good : (around : Around) (place at : ℕ) (o : Option Candidate) (state : State) (r : Found Value State) → ((c : Candidate) → o ≡ Some c → IsOld true around at c) →
    substituted_wide around place o state ≡ Ok r → IsNamed around state r
unfolding substituted_wide
wide_substituted_good around place at None state r old e = let clash : ◌≡◌ {A = Result (Found Value State) Refusal} (Err (BadReference place)) (Ok r) = e in absurd cc
wide_substituted_good around place at (Some c) state r old e = wide_named_good around place at c state r (old c refl) e

-- what a number names in a list has a good value, and no candidate is added
named_in_good : (is_shorter : Bool) (around : Around) (place at n : ℕ) (state : State) (r : Found Value State) → AllOld true around at state.candidates →
    substituted_wide around place (named_in is_shorter state.candidates n) state ≡ Ok r → IsNamed around state r
unfolding named_in
named_in_good is_shorter around place at n state r all e =
    let m = place_in is_shorter state.candidates n in
    wide_substituted_good around place at (slice_get state.candidates m) state r (λ c is. old_get true around at state.candidates m c all is) e

listed_good : (lists : Lists) (around : Around) (place at n : ℕ) (state : State) (r : Found Value State) → AllOld true around at state.candidates → listed_by lists around place n state ≡ Ok r → IsNamed around state r
unfolding listed_by
listed_good longer_list around place at n state r all e = named_in_good false around place at n state r all e
listed_good shorter_list around place at n state r all e = named_in_good true around place at n state r all e
listed_good both_lists around place at n state r all e = absurd cc
listed_good no_list around place at n state r all e = absurd cc

numbered_good : (around : Around) (place at n : ℕ) (state : State) (r : Found Value State) → AllOld true around at state.candidates → numbered around place n state ≡ Ok r → IsNamed around state r
unfolding numbered with_lists
numbered_good around place at n state r all e =
    let lists = left_at place n state in
    either (λ x. x ≡ Ok r → IsNamed around state r) (nat_eq (place_in false state.candidates n) (place_in true state.candidates n)) _ _ (λ is h. named_in_good false around place at n state r all h)
    (λ is h. listed_good lists around place at n (with_lists lists state) r all h) e

neither : (a b : Bool) → (a || b) ≡ false → b ≡ false
neither true b e = absurd (true≢false e)
neither false b e = e

-- a lambda has no free parameters, whatever parameters its signature declares or leaves free
lambda_good : (s : Type 0) (t : Term) (number : ℕ) → ScopesAreClosed t → Good s (lambda_with t number)
unfolding lambda_with is_open
lambda_good s t number scopes =
    either (Good s) (is_declaring t || is_open t) (generic_lambda t number) (lambda t number) (λ is. record { closed = λ h. refl; scopes = λ n. scopes })
    (λ is. record { closed = λ h. neither (is_declaring t) (is_open t) is; scopes = λ n. scopes })

-- a value is found, and no candidate is added
found_comes : (around : Around) (state : State) (v : Value) (r : Found Value State) (end : ℕ) → Good (Bare true around) (held v) →
    ◌≡◌ {A = Result (Found Value State) Refusal} (Ok (found v state)) (Ok r) → Comes true around end state r
found_comes around state v r end good e = comes_by true around end state state v r good (grows_same true around end state state refl) e

lambda_comes : (byte : ℕ) (around : Around) (vs : List Value) (state : State) (r : Found Value State) (end : ℕ) → GoodPrefix (Bare true around) around.prefix → AllGood (Within true Production.Lambda around) vs →
    ◌≡◌ {A = Result (Found Value State) Refusal} (Ok (found (as_generic_lambda (meaning Production.Lambda byte around vs)) state)) (Ok r) → Comes true around end state r
unfolding as_generic_lambda meaning held
lambda_comes byte around vs state r end pre all e =
    let s = Within true Production.Lambda around in
    let t = signature_with (part vs 0) (parameters (list (tree_of (part vs 0)) (no_items (part vs 1)))) in
    let number = local_number (text_of (part vs 3)) in
    let good = meaning_good s Production.Lambda byte around vs (prefix_where (Bare true around) s around.prefix (λ within. within.0) pre) all (λ n. tt) in
    found_comes around state (piece (lambda_with t number)) r end (lambda_good (Bare true around) t number (good.scopes tt)) e

-- a base class or a concept's name is counted
unless_grows : (around : Around) (end : ℕ) (listed : Bool) (counted : Counted) (t : Term) (state : State) → Good (Bare true around) t → Grows true around end state (counted_unless listed counted around t state)
unfolding counted_unless
unless_grows around end true counted t state good = grows_same true around end state state refl
unless_grows around end false counted t state good = grows_by counted true around end t state good

-- before arguments the constructor may be counted after its base class
constructor_grows : (around : Around) (end : ℕ) (listed : Bool) (counted : Counted) (state : State) → Grows true around end state (with_constructor listed counted around state)
unfolding with_constructor
constructor_grows around end false by_gcc state = grows_by by_gcc true around end absent state (good_nothing (Bare true around))
constructor_grows around end listed counted state = grows_same true around end state state refl

pub before_arguments_grow : (around : Around) (end : ℕ) (listed : Bool) (t : Term) (state : State) → Good (Bare true around) t → Grows true around end state (with_held listed around t state)
unfolding with_held
before_arguments_grow around end listed t state good =
    let mid = counted_unless listed (counted_held t) around t state in
    grows_then true around end end state mid (with_constructor listed (counted_held t) around mid) (omega arith) (unless_grows around end listed (counted_held t) t state good)
    (constructor_grows around end listed (counted_held t) mid)

counted_grows : (around : Around) (end : ℕ) (base : Value) (state : State) → Good (Bare true around) (held base) → Grows true around end state (counted_base around base state)
unfolding counted_base
counted_grows around end (pair second own base) state good = grows_same true around end state state refl
counted_grows around end base state good = unless_grows around end (is_listed base) by_gcc (tree_of base) state (good_tree (Bare true around) base good)

-- a declaration is found, and no candidate is added
declared_yields : (p : Production) (byte : ℕ) (around : Around) (vs : List Value) (state : State) (r : Found Value State) (end : ℕ) → makes_declared p ≡ true → GoodPrefix (Bare true around) around.prefix →
    AllGood (Within true p around) vs → HasClosedName p vs → ◌≡◌ {A = Result (Found Value State) Refusal} (Ok (found (meaning p byte around vs) state)) (Ok r) → Yields true p around end state r
declared_yields p byte around vs state r end is pre all name e =
    let s = Within true p around in
    let good = meaning_good s p byte around vs (prefix_where (Bare true around) s around.prefix (λ within. within.0) pre) all (λ n. name) in
    subst (λ x. Yields true p around end state x) (ok_same (found (meaning p byte around vs) state) r e)
    (record { good = record { closed = λ y. absurd (true≢false (sym is ∙ y.1 refl)); scopes = good.scopes }; grows = grows_same true around end state state refl })

-- the value of an encoding or of a literal, or only its name
name_if_good : (s : Type 0) (has_free : Bool) (name v : Value) → Good s (tree_of name) → Good s (held v) → Good s (held (name_if has_free name v))
unfolding name_if held
name_if_good s true name v n g = n
name_if_good s false name v n g = g

named_comes : (production : Production) (k byte : ℕ) (has_free : Bool) (around : Around) (vs : List Value) (state : State) (r : Found Value State) (end : ℕ) → GoodPrefix (Bare true around) around.prefix → AllGood (Bare true around) vs →
    HasClosedName production vs → ◌≡◌ {A = Result (Found Value State) Refusal} (Ok (found (name_if has_free (part vs k) (meaning production byte around vs)) state)) (Ok r) → Comes true around end state r
named_comes production k byte has_free around vs state r end pre all name e =
    let s = Bare true around in
    found_comes around state (name_if has_free (part vs k) (meaning production byte around vs)) r end
    (name_if_good s has_free (part vs k) (meaning production byte around vs) (good_part s vs k all) (meaning_good s production byte around vs pre all (λ n. name))) e

pub noting_same : (counting : Counting) (state : State) → (noting counting state).candidates ≡ state.candidates
unfolding noting
noting_same counting state = either {A = State} (λ s. s.candidates ≡ state.candidates) (is_by_all (counted_so_far by_all state.candidates)) _ _ (λ is. refl) (λ is. refl)

pub wide_close_good : (production : Production) (byte : ℕ) (around : Around) (place : ℕ) (began : State) (vs : List Value) (state : State) (r : Found Value State) (end : ℕ) →
    AllOld true around end state.candidates → GoodPrefix (Bare true around) around.prefix → AllGood (Within true production around) (read_of production true vs) → HasClosedName production vs →
    close_wide production byte around place began vs state ≡ Ok r → Yields true production around end state r
unfolding read_of makes_declared close close_wide unfolding_.behind meaning has_signature held part
wide_close_good Production.Substitution byte around place began vs state r end old pre all name e =
    let both = numbered_good around (place - 1) end (counted_value Seq36 (text_of (part vs 0))) state r old e in
    yields true Production.Substitution around end state r (record { good = both.0; grows = grows_same true around end state r.state both.1 })
wide_close_good Production.Encoding byte around place began vs state r end old pre all name e =
    yields true Production.Encoding around end state r
    (named_comes Production.Encoding 0 byte (is_passed_over around && is_open (tree_of (part vs 0))) around vs state r end pre (all_where (Within true Production.Encoding around) (Bare true around) vs (λ bare. (bare, λ own. refl)) all) name e)
wide_close_good Production.EncodingLiteral byte around place began vs state r end old pre all name e =
    yields true Production.EncodingLiteral around end state r
    (named_comes Production.EncodingLiteral 1 byte (is_unseen around && is_open (tree_of (part vs 1))) around vs state r end pre (all_where (Within true Production.EncodingLiteral around) (Bare true around) vs (λ bare. (bare, λ own. refl)) all) name e)
wide_close_good Production.Lambda byte around place began vs state r end old pre all name e = yields true Production.Lambda around end state r (lambda_comes byte around vs state r end pre all e)
wide_close_good Production.Inheriting byte around place began vs state r end old pre all name e =
    let inside = all_where (Within true Production.Inheriting around) (Bare true around) vs (λ bare. (bare, λ own. refl)) all in
    yields true Production.Inheriting around end state r
    (comes_by true around end state (counted_base around (part vs 1) state) (meaning Production.Inheriting byte around vs) r
    (meaning_good (Bare true around) Production.Inheriting byte around vs pre inside (λ n. tt))
    (counted_grows around end (part vs 1) state (good_held (Bare true around) vs 1 inside)) e)
wide_close_good Production.Holder byte around place began vs state r end old pre all name e =
    yields true Production.Holder around end state r
    (comes_by true around end state (noting (awaiting around (tree_of (part vs 1)) state.counting) state) (meaning Production.Holder byte around vs) r
    (meaning_good (Bare true around) Production.Holder byte around vs pre (all_where (Within true Production.Holder around) (Bare true around) vs (λ bare. (bare, λ own. refl)) all) (λ n. name))
    (grows_same true around end state (noting (awaiting around (tree_of (part vs 1)) state.counting) state) (noting_same (awaiting around (tree_of (part vs 1)) state.counting) state)) e)
wide_close_good Production.ValueOf byte around place began vs state r end old pre all name e = declared_yields Production.ValueOf byte around vs state r end refl pre all tt e
wide_close_good Production.OfConcept byte around place began vs state r end old pre all name e = declared_yields Production.OfConcept byte around vs state r end refl pre all tt e
wide_close_good Production.TemplateOf byte around place began vs state r end old pre all name e = declared_yields Production.TemplateOf byte around vs state r end refl pre all tt e
wide_close_good Production.PackOf byte around place began vs state r end old pre all name e = declared_yields Production.PackOf byte around vs state r end refl pre all tt e
wide_close_good Production.Declarations byte around place began vs state r end old pre all name e = declared_yields Production.Declarations byte around vs state r end refl pre all tt e
wide_close_good Production.DeclaredFirst byte around place began vs state r end old pre all name e = declared_yields Production.DeclaredFirst byte around vs state r end refl pre all tt e
wide_close_good Production.FirstWithT byte around place began vs state r end old pre all name e = declared_yields Production.FirstWithT byte around vs state r end refl pre all tt e
wide_close_good Production.Constraint byte around place began vs state r end old pre all name e =
    yields true Production.Constraint around end state r (found_comes around state nothing_there r end (good_nothing (Bare true around)) e)
-- nothing is in the place of the declaration
wide_close_good Production.DeclaredArgument byte around place began [] state r end old pre all name e =
    yields true Production.DeclaredArgument around end state r (made_good true Production.DeclaredArgument byte around began [] state r end pre tt tt e)
wide_close_good Production.DeclaredArgument byte around place began (v ∷ vs) state r end old pre all name e =
    yields true Production.DeclaredArgument around end state r
    (made_good true Production.DeclaredArgument byte around began (nothing_there ∷ vs) state r end pre (all_where (Within true Production.DeclaredArgument around) (Bare true around) (nothing_there ∷ vs) (λ bare. (bare, λ own. refl)) all) tt e)
wide_close_good production byte around place began vs state r end old pre all name e =
    yields true production around end state r
    (made_good true production byte around began vs state r end pre (all_where (Within true production around) (Bare true around) vs (λ bare. (bare, λ own. refl)) all) name e)
