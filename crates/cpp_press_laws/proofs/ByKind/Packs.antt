-- Outside of expansions, nothing that is read names packs.
use Rattle.cpp_press_laws.proofs.Basics.{◌≡◌, ℕ, ◌+◌, ◌-◌, length, List, [], ◌∷◌, ◌++◌, Bool, true, false, cond, not, ◌||◌, ◌&&◌, nat_eq, nat_lt, slice_get, Option, Some, None, Result, Ok, Err, refl, ap, sym, subst, ◌∙◌, false≢true, Refusal, BadReference, Seq36, counted_value, Rule, Found, Open, Next, ◌>>=◌, Production, Term, parameter, count, element, length_if_pack, is_open, Candidate, State, Around, Value, nothing_there, tree, prefix_tree, prefix_listed, is_listed, text_of, tree_of, part, appended, is_function_type, with_type, with_unqualified, with_prefix, with_packs, packs_in, is_module, substituted, parameter_named, in_name, in_types, in_signature, after, inside, Continuation, index_of, between, meaning, Where, in_its_name, in_its_types, under_it, Gain, the_prefix, type_of, unqualified_of, itself, Action, quiet, goes, becomes, tests, holds, unread, Row, before_part, around_part, packs_within, gained, made, tested, done, state_after, row_of, opening, close, production_at, byte_of, cpp, ok_same, behind_bind, opening_keeps, all_pass, step_passes, either, either_cond}
use Rattle.sym_shape.specs.Tree.{Tree as Shape, Forest, branch, nothing, grown, spell}
use Rattle.sym_link.specs.Unfold.{found, alone, standing, unfold_tree, unfold_forest}
use Rattle.cpp_grammar.specs.Row as row
use Rattle.cpp_grammar.specs.Unfolding as unfolding_
use Rattle.cpp_press_laws.proofs.ByKind.Rules.{AllOf, every-shape}

-- ## States

packs-kept : (place : ℕ) (o : Option ℕ) (state new : State) → with_packs place false o state ≡ Ok new → new.packs ≡ state.packs
unfolding with_packs
packs-kept place None state new e = ap (λ s. s.packs) (sym (ok_same state new e))
packs-kept place (Some m) state new e = absurd cc

type-kept : (around : Around) (v : Value) (state : State) → (with_type around v state).packs ≡ state.packs
unfolding with_type appended
type-kept around v state =
    either (λ s. s.packs ≡ state.packs) (is_listed v) state (appended around (tree_of v) state) (λ h. refl) (λ h. refl)

unqualified-kept : (around : Around) (v : Value) (state : State) → (with_unqualified around v state).packs ≡ state.packs
unfolding with_unqualified
unqualified-kept around v state =
    either (λ s. s.packs ≡ state.packs) (is_function_type (tree_of v)) state (with_type around v state) (λ h. refl)
    (λ h. type-kept around v state)

prefix-kept : (around : Around) (state : State) → (with_prefix around state).packs ≡ state.packs
unfolding with_prefix appended
prefix-kept around state =
    either (λ s. s.packs ≡ state.packs) (prefix_listed around.prefix) state (appended around (prefix_tree around.prefix) state) (λ h. refl)
    (λ h. refl)

-- ## References

bound-kept : {B : Type 0} (place : ℕ) (expands : Bool) (o : Option ℕ) (state : State) (f : State → Result B Refusal) (r : B) (packs : B → Option ℕ)
    → expands ≡ false → ((s : State) (x : B) → f s ≡ Ok x → packs x ≡ s.packs) → (with_packs place expands o state >>= f) ≡ Ok r
    → packs r ≡ state.packs
bound-kept place true o state f r packs outside own e = absurd cc
bound-kept place false o state f r packs outside own e =
    let b = behind_bind (with_packs place false o state) f r e in own b.value r b.next ∙ packs-kept place o state b.value b.is

substituted-kept : (around : Around) (place : ℕ) (o : Option Candidate) (state : State) (r : Found Value State) → around.in_expansion ≡ false
    → substituted around place o state ≡ Ok r → r.state.packs ≡ state.packs
unfolding substituted
substituted-kept around place None state r outside e = absurd cc
substituted-kept around place (Some c) state r outside e =
    either (λ x. x ≡ Ok r → r.state.packs ≡ state.packs)
    (is_module c.tree || (is_open c.tree && (around.in_lambda || not (nat_eq c.encoding around.encoding)))) _ _ (λ is h. absurd cc)
    (λ is h. bound-kept place around.in_expansion (packs_in around.scope c.tree) state (λ s. Ok (found (tree c.tree true) s)) r
    (λ x. x.state.packs) outside
    (λ s x is. ap (λ y. y.state.packs) (sym (ok_same (found (tree c.tree true) s) x is))) h) e

parameter-kept : (around : Around) (place k : ℕ) (state new : State) → around.in_expansion ≡ false → parameter_named around place k state ≡ Ok new
    → new.packs ≡ state.packs
unfolding parameter_named appended
parameter-kept around place k state new outside e = go around.scope e
  where
    tested : (arguments : Term) (b : Bool) → ◌≡◌ {A = Result State Refusal} (elim b [
      | false ↦ Err (BadReference place)
      | true ↦ with_packs place around.in_expansion (length_if_pack (element arguments k)) state >>= λ s. Ok (appended around (parameter k) s)
    ]) (Ok new) → new.packs ≡ state.packs
    tested arguments false h = absurd cc
    tested arguments true h =
        bound-kept place around.in_expansion (length_if_pack (element arguments k)) state (λ s. Ok (appended around (parameter k) s)) new
        (λ x. x.packs) outside (λ s x is. ap (λ y. y.packs) (sym (ok_same (appended around (parameter k) s) x is))) h

    go : (o : Option Term) → ◌≡◌ {A = Result State Refusal} (elim o [
      | None ↦ Err (BadReference place)
      | Some arguments ↦ elim (nat_lt k (count arguments)) [
        | false ↦ Err (BadReference place)
        | true ↦ with_packs place around.in_expansion (length_if_pack (element arguments k)) state >>= λ s. Ok (appended around (parameter k) s)
      ]
    ]) (Ok new) → new.packs ≡ state.packs
    go None h = absurd cc
    go (Some arguments) h = tested arguments (nat_lt k (count arguments)) h

-- ## Parts

-- the next part is outside of expansions as well, and the packs before it are the same
record Outside (state : State) (next : Next Value State Around) : Type 0 where
  expands : next.context.in_expansion ≡ false
  packs : next.state.packs ≡ state.packs

-- a production that is no expansion, so it doesn't restore the packs
abbrev NoExpansion : Production → Type 0
NoExpansion p = (row_of p).restores_packs ≡ false

outside-next : (state : State) (inner : Around) (vs : List Value) (new : State) (next : Next Value State Around) → inner.in_expansion ≡ false
    → new.packs ≡ state.packs → ◌≡◌ {A = Continuation} (Ok (record { context = inner; values = vs; state = new })) (Ok next) → Outside state next
outside-next state inner vs new next outside packs e =
    let whole : Next Value State Around = record { context = inner; values = vs; state = new } in
    subst (Outside state) (ok_same whole next e) (record { expands = outside; packs = packs })

unfoldable stays_outside : Action → Bool
stays_outside (goes gain under_it) = false
stays_outside _ = true

-- only a production that restores the packs reads a part inside an expansion
expansions-restore : (p : Production) → (row_of p).restores_packs || all_pass stays_outside (row_of p).before (row_of p).onward ≡ true
unfolding row_of all_pass stays_outside
expansions-restore Production.Mark = refl
expansions-restore _ = refl

or-second : (a b : Bool) → a ≡ false → a || b ≡ true → b ≡ true
or-second true b no_ h = cc
or-second false b no_ h = h

gained-kept : (gain : Gain) (around : Around) (vs : List Value) (v : Value) (state : State) → (gained gain around vs v state).packs ≡ state.packs
unfolding gained appended
gained-kept row.nothing around vs v state = refl
gained-kept the_prefix around vs v state = prefix-kept around state
gained-kept (type_of k) around vs v state = type-kept around (part vs k) state
gained-kept (unqualified_of k) around vs v state = unqualified-kept around (part vs k) state
gained-kept itself around vs v state = refl

named-outside : (is_in is_name : Bool) (around : Around) (t : Term) (vs : List Value) (state new : State) (next : Next Value State Around)
    → around.in_expansion ≡ false → new.packs ≡ state.packs
    → ◌≡◌ {A = Continuation} (Ok (record { context = cond is_name (after t is_in around) around; values = vs; state = new })) (Ok next)
    → Outside state next
unfolding after
named-outside is_in true around t vs state new next outside packs e = outside-next state (after t is_in around) vs new next outside packs e
named-outside is_in false around t vs state new next outside packs e = outside-next state around vs new next outside packs e

candidate-kept : (around : Around) (t : Term) (state : State) (is_candidate : Bool) → (cond is_candidate (appended around t state) state).packs ≡ state.packs
unfolding appended
candidate-kept around t state true = refl
candidate-kept around t state false = refl

tested-kept : (is_name : Bool) (now before : State) → now.packs ≡ before.packs
    → (cond is_name now (record now { candidates = before.candidates })).packs ≡ before.packs
tested-kept true now before same = same
tested-kept false now before same = same

goes-outside : (gain : Gain) (w : Where) (around : Around) (place : ℕ) (vs : List Value) (state : State) (next : Next Value State Around)
    → stays_outside (goes gain w) ≡ true → around.in_expansion ≡ false → done (goes gain w) around place vs state ≡ Ok next → Outside state next
unfolding stays_outside done around_part packs_within in_name in_types in_signature after inside
goes-outside gain under_it around place vs state next stays outside e = absurd (false≢true stays)
goes-outside gain in_its_name around place vs state next stays outside e =
    outside-next state _ vs _ next refl (gained-kept gain around vs nothing_there state) e
goes-outside gain in_its_types around place vs state next stays outside e =
    outside-next state _ vs _ next refl (gained-kept gain around vs nothing_there state) e
goes-outside gain w around place vs state next stays outside e =
    outside-next state (around_part around place vs w) vs (packs_within w (gained gain around vs nothing_there state)) next outside
    (gained-kept gain around vs nothing_there state) e

done-outside : (b : Action) (around : Around) (place : ℕ) (vs : List Value) (state : State) (next : Next Value State Around)
    → stays_outside b ≡ true → around.in_expansion ≡ false → done b around place vs state ≡ Ok next → Outside state next
unfolding done tested
done-outside quiet around place vs state next stays outside e = outside-next state around vs state next outside refl e
done-outside (goes gain w) around place vs state next stays outside e = goes-outside gain w around place vs state next stays outside e
done-outside (becomes m is_in is_name is_candidate) around place vs state next stays outside e =
    let t = made 0 around vs m in
    named-outside is_in is_name around t _ state (cond is_candidate (appended around t state) state) next outside
    (candidate-kept around t state is_candidate) e
done-outside (tests after_t is_name) around place vs state next stays outside e =
    let k : ℕ = index_of (part vs 0) in
    let at : ℕ = cond after_t (place - 1) place in
    let b = behind_bind (parameter_named around at k state) (λ s. tested is_name around (parameter k) vs s state) next e in
    named-outside true is_name around (parameter k) _ state (cond is_name b.value (record b.value { candidates = state.candidates })) next outside
    (tested-kept is_name b.value state (parameter-kept around at k state b.value outside b.is)) b.next
done-outside holds around place vs state next stays outside e = let clash : ◌≡◌ {A = Continuation} (Err (BadReference place)) (Ok next) = e in absurd cc
done-outside unread around place vs state next stays outside e = let clash : ◌≡◌ {A = Continuation} (Err (BadReference place)) (Ok next) = e in absurd cc

between-outside : (p : Production) (around : Around) (place : ℕ) (vs : List Value) (state : State) (next : Next Value State Around)
    → NoExpansion p → around.in_expansion ≡ false → between p around place vs state ≡ Ok next → Outside state next
unfolding between
between-outside p around place vs state next no_ outside e =
    done-outside (before_part (row_of p) (length vs)) around place vs state next
    (step_passes stays_outside (row_of p)
    (or-second (row_of p).restores_packs (all_pass stays_outside (row_of p).before (row_of p).onward) no_ (expansions-restore p)) (length vs))
    outside e

-- ## Shapes

substitution-plain : NoExpansion Production.Substitution
unfolding row_of
substitution-plain = refl

after-kept : (does : Row) (around : Around) (began : State) (v : Value) (vs : List Value) (state : State)
    → (does.restores_packs ≡ false → state.packs ≡ began.packs) → (state_after does around began v vs state).packs ≡ began.packs
unfolding state_after
after-kept does around began v vs state same =
    either_cond (λ s. s.packs ≡ began.packs) does.restores_packs (record (gained does.gain around vs v state) { packs = began.packs })
    (gained does.gain around vs v state)
    (λ h. refl) (λ h. gained-kept does.gain around vs v state ∙ same h)

close-kept : (p : Production) (byte : ℕ) (around : Around) (place : ℕ) (began : State) (vs : List Value) (state : State) (r : Found Value State)
    → around.in_expansion ≡ false → (NoExpansion p → state.packs ≡ began.packs) → close p byte around place began vs state ≡ Ok r
    → r.state.packs ≡ began.packs
unfolding close unfolding_.behind
close-kept Production.Substitution byte around place began vs state r outside same e =
    substituted-kept around (place - 1) (slice_get state.candidates (counted_value Seq36 (text_of (part vs 0)))) state r outside e ∙ same substitution-plain
close-kept Production.Inheriting byte around place began vs state r outside same e =
    let clash : ◌≡◌ {A = Result (Found Value State) Refusal} (Err (BadReference place)) (Ok r) = e in absurd cc
close-kept p byte around place began vs state r outside same e =
    ap (λ x. x.state.packs) (sym (ok_same _ r e)) ∙ after-kept (row_of p) around began (meaning p byte around vs) vs state same

-- outside of expansions a shape leaves the packs as they are
abbrev pub PacksKept : Shape → Type 0
PacksKept t = (around : Around) (at : ℕ) (state : State) (r : Found (List Value) State) → around.in_expansion ≡ false
    → unfold_tree cpp around at t state ≡ Ok r → r.state.packs ≡ state.packs

forest-kept : (f : Forest) → AllOf PacksKept f → (rule : Open State Around) (vs : List Value) (at : ℕ) (state : State) (r : Found (List Value) State)
    → NoExpansion (production_at rule.rule.number) → rule.context.in_expansion ≡ false → unfold_forest cpp rule vs at f state ≡ Ok r
    → r.state.packs ≡ state.packs
unfolding cpp
forest-kept nothing all rule vs at state r no_ outside e = ap (λ x. x.state.packs) (sym (ok_same (found vs state) r e))
forest-kept (grown t f) all rule vs at state r no_ outside e =
    let p = production_at rule.rule.number in
    let b = behind_bind (between p rule.context rule.place vs state) (λ next. unfold_tree cpp next.context at t next.state >>= λ part.
    unfold_forest cpp rule (next.values ++ part.value) (at + length (spell t)) f part.state) r e in
    let n = b.value in
    let o = between-outside p rule.context rule.place vs state n no_ outside b.is in
    let c = behind_bind (unfold_tree cpp n.context at t n.state) (λ part. unfold_forest cpp rule (n.values ++ part.value) (at + length (spell t)) f
    part.state) r b.next in
    forest-kept f all.1 rule (n.values ++ c.value.value) (at + length (spell t)) c.value.state r no_ outside c.next
    ∙ all.0 n.context at n.state c.value o.expands c.is ∙ o.packs

branch-kept : (rule : Rule) (taken : List ℕ) (parts : Forest) → AllOf PacksKept parts → PacksKept (branch rule taken parts)
unfolding cpp
branch-kept rule taken parts all around at state r outside e =
    let whole = standing rule taken at around state in
    let p = production_at rule.number in
    let b = behind_bind (opening p parts at state) (λ begun. unfold_forest cpp whole [] (at + length taken) parts begun >>= λ inner.
    close p (byte_of taken) around at state inner.value inner.state >>= alone) r e in
    let kept = opening_keeps p parts at state b.value b.is in
    let c = behind_bind (unfold_forest cpp whole [] (at + length taken) parts b.value) (λ inner.
    close p (byte_of taken) around at state inner.value inner.state >>= alone) r b.next in
    let d = behind_bind (close p (byte_of taken) around at state c.value.value c.value.state) alone r c.next in
    ap (λ x. x.state.packs) (sym (ok_same (found (d.value.value ∷ []) d.value.state) r d.next))
    ∙ close-kept p (byte_of taken) around at state c.value.value c.value.state d.value outside
    (λ no_. forest-kept parts all whole [] (at + length taken) b.value c.value no_ outside c.is ∙ ap (λ s. s.packs) kept) d.is

pub shape-kept : (t : Shape) → PacksKept t
unfolding cpp
shape-kept = every-shape PacksKept branch-kept (λ around at state r outside e. ap (λ x. x.state.packs) (sym (ok_same _ r e)))
    (λ t around at state r outside e. ap (λ x. x.state.packs) (sym (ok_same _ r e)))
    (λ b around at state r outside e. ap (λ x. x.state.packs) (sym (ok_same _ r e)))
