-- A production appends to the candidates only nodes that it makes: a name or a type is appended at most once, when it is made or
-- later. What is made and not appended yet is pending.
use Rattle.cpp_link.proofs.Basics.{◌≡◌, refl, ap, sym, ◌∙◌, subst, arith, ℕ, zero, suc, ◌+◌, ◌-◌, ◌≤◌, List, [], ◌∷◌, ◌++◌, length, length-append, get_or, Bool, true, false, not, ◌&&◌, ◌||◌, nat_eq, nat_lt, cond, Option, Some, None, Result, Ok, Err, false≢true, and_parts, Refusal, BadReference, Sym, Kind as OfKind, Found, Next, ◌>>=◌, found, Production, VENDOR_ARGUMENTS, PARAMETER_AFTER_T, NEST, NEST_AFTER_S, NEST_REST, NEST_TAIL, NEST_REST_OR_END, NEST_REST_ALONE, NEST_MORE_OR_END, COMPONENT, CONSTRUCTOR_AFTER_C, HELD_COMPONENT, COMPONENT_AFTER_C, ABBREVIATION, ITEM_AFTER_D, AFTER_D, SOLID, SOLID_BUT_T, TYPE_AFTER_S, TYPE_IN_STD, UNNESTED_NAME, LITERAL_TYPE, LITERAL_SOLID, MAYBE_ARGUMENTS, ARGUMENTS, ARGUMENTS_ALONE, MAYBE_TAGS, ARGUMENT_AFTER_T, LEVELED_PARAMETER, ANY_ARRAY, ARRAY_REST, BASE_ARGUMENTS, CONVERTED_SOLID, CONVERTED_AFTER_D, DECLTYPE_AFTER_D, UNRESOLVED_TYPE, NAME_AFTER_MODULE, NAME_IN_MODULE, NEST_ON, row_of, ok_same, behind_bind, Term, parameter, count, element, is_open, length_if_pack, pack_length, appended, is_function_type, with_type, with_unqualified, with_prefix, with_packs, is_module, substituted, parameter_named, Continuation, after, argument_at, index_of, between, made, meant, around_part, packs_within, gained, replaced, tested, done, state_after, meaning, behind, close, makes_before, makes_at_end, one_if_there, one_if_arguments, nodes_made, nodes_before, nodes_at_end}
use Rattle.cpp_grammar.specs.Row.{of, only, extending, tagging, applying, packing, Where, under_it, nothing, the_prefix, type_of, unqualified_of, itself, Action, quiet, goes, becomes, tests, holds, unread, Row, before_part}
use Rattle.cpp_grammar.specs.Values as plain
use Rattle.cpp_term.specs.Values.{State, Around, Candidate, prefix_tree, prefix_listed, Value, nothing_there, tree, named, tree_of, is_listed, is_there, part}
use Rattle.cpp_link.proofs.RowNodes.{same_before_nodes, same_end_nodes}

-- ## What is pending

-- a tree that isn't a candidate yet
unfoldable pub unlisted : Value → ℕ
unlisted v = cond (is_listed v) 0 1

-- the name so far, if it isn't a candidate yet
unfoldable pub unlisted_around : Around → ℕ
unlisted_around around = cond (prefix_listed around.prefix) 0 1

-- the kinds whose trees become candidates only later, if at all: components of nested names, and others
unfoldable pub is_component : ℕ → Bool
is_component k = nat_eq k COMPONENT || nat_eq k CONSTRUCTOR_AFTER_C || nat_eq k HELD_COMPONENT || nat_eq k COMPONENT_AFTER_C || nat_eq k TYPE_IN_STD || nat_eq k NAME_AFTER_MODULE || nat_eq k NAME_IN_MODULE

unfoldable pub becomes_candidate : ℕ → Bool
becomes_candidate k =
    nat_eq k NEST || nat_eq k NEST_AFTER_S || nat_eq k NEST_REST || nat_eq k NEST_TAIL || nat_eq k NEST_REST_OR_END || nat_eq k NEST_REST_ALONE || nat_eq k NEST_MORE_OR_END || nat_eq k NEST_ON
    || nat_eq k ABBREVIATION || nat_eq k ITEM_AFTER_D || nat_eq k AFTER_D || nat_eq k SOLID || nat_eq k SOLID_BUT_T || nat_eq k TYPE_AFTER_S || nat_eq k LITERAL_TYPE
    || nat_eq k ARGUMENT_AFTER_T || nat_eq k LEVELED_PARAMETER || nat_eq k UNNESTED_NAME || nat_eq k ANY_ARRAY || nat_eq k ARRAY_REST
    || nat_eq k LITERAL_SOLID || nat_eq k CONVERTED_SOLID || nat_eq k CONVERTED_AFTER_D || nat_eq k DECLTYPE_AFTER_D || nat_eq k UNRESOLVED_TYPE || nat_eq k PARAMETER_AFTER_T

-- the kinds that continue the name so far, and the arguments after a base class
unfoldable pub goes_on : ℕ → Bool
goes_on k = nat_eq k NEST_REST || nat_eq k NEST_TAIL || nat_eq k NEST_REST_OR_END || nat_eq k NEST_REST_ALONE || nat_eq k NEST_MORE_OR_END || nat_eq k NEST_ON || nat_eq k BASE_ARGUMENTS

unfoldable pub is_arguments : ℕ → Bool
is_arguments k = nat_eq k MAYBE_ARGUMENTS || nat_eq k ARGUMENTS || nat_eq k ARGUMENTS_ALONE || nat_eq k VENDOR_ARGUMENTS || nat_eq k MAYBE_TAGS

-- 1 for a tagged name in the place of the arguments after a name: it isn't a candidate yet
unfoldable pub in_place : Value → ℕ
in_place (named t qualifiers ref) = 1
in_place _ = 0

-- how many trees are pending after a part with this value
unfoldable pub pending : Sym → Value → ℕ
pending (OfKind k) v = cond (is_component k) 1 (cond (becomes_candidate k) (unlisted v) (cond (is_arguments k) (in_place v) 0))
pending _ v = 0

-- how many trees are pending before a part with this value, which may append them
unfoldable pub pending_around : Sym → Around → Value → ℕ
pending_around (OfKind k) around v = cond (goes_on k) (unlisted_around around)
    (cond (is_arguments k) (cond (is_there v) (unlisted_around around) 0) 0)
pending_around _ around v = 0

-- the productions that make a name that isn't a candidate yet
unfoldable pub makes_name : Production → Bool
makes_name Production.InternalName = true
makes_name Production.InModule = true
makes_name Production.InNamedModule = true
makes_name Production.BindingName = true
makes_name Production.LocalTypeName = true
makes_name Production.SourceName = true
makes_name Production.OperatorName = true
makes_name Production.AnyConstructor = true
makes_name Production.Inheriting = true
makes_name Production.Constructor = true
makes_name Production.Destructor = true
makes_name Production.Holder = true
makes_name Production.Tag = true
makes_name Production.TypeTag = true
makes_name Production.TaggedStdType = true
makes_name Production.TaggedSource = true
makes_name Production.OtherOperatorName = true
makes_name Production.Friend = true
makes_name Production.OperatorNameWithC = true
makes_name Production.ComponentWithC = true
makes_name Production.Conversion = true
makes_name _ = false

-- Generated by tools/trees.py. What may leave a tree that is no candidate yet
unfoldable pub may_leave : Production → Bool
may_leave Production.ConvertedDecltype = true
may_leave Production.ConvertedWithT = true
may_leave Production.AnyArray = true
may_leave Production.LengthArray = true
may_leave Production.NestWithS = true
may_leave Production.NestParameter = true
may_leave Production.NestInternal = true
may_leave Production.NestLocalType = true
may_leave Production.NestSource = true
may_leave Production.NestStd = true
may_leave Production.NestTemplate = true
may_leave Production.NestArguments = true
may_leave Production.NestNext = true
may_leave Production.NestEnd = true
may_leave Production.Abbreviation = true
may_leave Production.Substitution = true
may_leave Production.NestedType = true
may_leave Production.Expansion = true
may_leave Production.ItemIsType = true
may_leave Production.BuiltinWithD = true
may_leave Production.Vector = true
may_leave Production.NoexceptFunction = true
may_leave Production.SizedFloat = true
may_leave Production.Decltype = true
may_leave Production.Pointer = true
may_leave Production.MemberPointer = true
may_leave Production.Parameter = true
may_leave Production.TypeWithS = true
may_leave Production.LocalType = true
may_leave Production.Builtin = true
may_leave Production.Vendor = true
may_leave Production.ArrayType = true
may_leave Production.Function = true
may_leave Production.Complex = true
may_leave Production.TypeInStd = true
may_leave Production.AbbreviatedType = true
may_leave Production.NestInstance = true
may_leave Production.UnnestedWithS = true
may_leave Production.ParameterArgument = true
may_leave Production.LeveledParameter = true
may_leave Production.BoundedArray = true
may_leave Production.DeclaredArgument = true
may_leave Production.ConstLiteral = true
may_leave Production.VolatileLiteral = true
may_leave Production.IndexedType = true
may_leave Production.BitInt = true
may_leave Production.ConstrainedAuto = true
may_leave Production.NestTag = true
may_leave Production.NestDecltype = true
may_leave Production.NestModule = true
may_leave _ = false

-- the productions that continue the name so far
unfoldable pub takes_name : Production → Bool
takes_name Production.NestArguments = true
takes_name Production.NestInstance = true
takes_name Production.NestNext = true
takes_name Production.NestEnd = true
takes_name Production.BaseArguments = true
takes_name _ = false

-- the productions of the arguments after a name
unfoldable pub begins_arguments : Production → Bool
begins_arguments Production.Arguments = true
begins_arguments _ = false

-- how many trees are pending after a production, and before it
unfoldable pub leaves : Production → Value → ℕ
leaves p v = cond (makes_name p) 1 (cond (may_leave p) (unlisted v) 0)

unfoldable pub starts_with : Production → Around → ℕ
starts_with p around = cond (takes_name p) (unlisted_around around) (cond (begins_arguments p) (unlisted_around around) 0)

-- ## From part to part

-- after a part with this value, `now` trees are pending, and the other parts continue with that number
pub record Later (x : Sym) (over : ℕ) (rest : List Value → ℕ → Type 0) (next : Next Value State Around) (v : Value) : Type 0 where
  pub now : ℕ
  pub few : now + pending_around x next.context v ≤ over + pending x v
  pub goes : rest (next.values ++ v ∷ []) now

-- each tree that is appended before a part is one that was pending, or one that is made then
pub record Onward (x : Sym) (made now : ℕ) (state : State) (rest : List Value → ℕ → Type 0) (next : Next Value State Around) : Type 0 where
  pub over : ℕ
  pub few : length next.state.candidates + over ≤ length state.candidates + made + now
  pub later : (v : Value) → Later x over rest next v

-- After parts with these values, `now` trees are pending. Where the production closes, each tree that it appends, or that its
-- value leaves pending, was pending before or is made then.
abbrev pub Flow : Production → Around → (place : ℕ) → List Sym → List Value → (now : ℕ) → Type 0
Flow p around place [] vs now =
    (byte : ℕ) (began state : State) (one : Found Value State) → close p byte around place began vs state ≡ Ok one
    → length one.state.candidates + leaves p one.value ≤ length state.candidates + makes_at_end p vs + now
Flow p around place (x ∷ xs) vs now =
    (state : State) (next : Next Value State Around) → between p around place vs state ≡ Ok next
    → Onward x (makes_before p vs) now state (Flow p around place xs) next

-- ## Candidates

abbrev pub going : List Value → Around → State → Next Value State Around
going vs around state = record { values = vs; context = around; state = state }

pub appended-one : (around : Around) (t : Term) (state : State) → length (appended around t state).candidates ≡ length state.candidates + 1
unfolding appended
appended-one around t state = length-append state.candidates (record { tree = t; encoding = around.encoding; in_lambda = around.in_lambda; counted = plain.by_all } ∷ [])

pub typed-one : (around : Around) (v : Value) (state : State) → length
    (with_type around v state).candidates ≤ length state.candidates + unlisted v
unfolding with_type unlisted
typed-one around v state = go (is_listed v)
  where
    go : (b : Bool) → length (elim b as (λ _. State) [
      | true ↦ state
      | false ↦ appended around
          (tree_of v) state
    ]).candidates ≤ length state.candidates + cond b 0 1
    go true = omega arith
    go false = omega (arith, appended-one around (tree_of v) state)

pub unqualified-one : (around : Around) (v : Value) (state : State) → length
    (with_unqualified around v state).candidates ≤ length state.candidates + unlisted v
unfolding with_unqualified
unqualified-one around v state = go (is_function_type (tree_of v))
  where
    go : (b : Bool) → length
        (elim b as (λ _. State) [ true ↦ state | false ↦ with_type around v state ]).candidates ≤ length state.candidates + unlisted v
    go true = omega arith
    go false = typed-one around v state

pub prefix-one : (around : Around) (state : State) → length
    (with_prefix around state).candidates ≤ length state.candidates + unlisted_around around
unfolding with_prefix unlisted_around
prefix-one around state = go (prefix_listed around.prefix)
  where
    go : (b : Bool) → length (elim b as (λ _. State) [
      | true ↦ state
      | false ↦ appended around
          (prefix_tree around.prefix) state
    ]).candidates ≤ length state.candidates + cond b 0 1
    go true = omega arith
    go false = omega (arith, appended-one around (prefix_tree around.prefix) state)

packs-keep : (place : ℕ) (b : Bool) (o : Option ℕ) (state new : State) → with_packs place b o state ≡ Ok new
    → new.candidates ≡ state.candidates
unfolding with_packs
packs-keep place b None state new e = ap (λ s. s.candidates) (sym (ok_same state new e))
packs-keep place false (Some m) state new e = absurd cc
packs-keep place true (Some m) state new e = go state.packs e
  where
    tested : (b : Bool) → ◌≡◌ {A = Result State Refusal} (elim b [ true ↦ Ok state | false ↦ Err (BadReference place) ]) (Ok new)
        → new.candidates ≡ state.candidates
    tested true h = ap (λ s. s.candidates) (sym (ok_same state new h))
    tested false h = absurd cc

    go : (o : Option ℕ) → ◌≡◌ {A = Result State Refusal} (elim o [
      | None ↦ Ok (record state { packs = Some m })
      | Some n ↦ elim (nat_eq m n) [ true ↦ Ok state | false ↦ Err (BadReference place) ]
    ]) (Ok new) → new.candidates ≡ state.candidates
    go None h = ap (λ s. s.candidates) (sym (ok_same (record state { packs = Some m }) new h))
    go (Some n) h = tested (nat_eq m n) h

-- a tree that a substitution names is a candidate already
pub substituted-none : (around : Around) (place : ℕ) (o : Option Candidate) (state : State) (one : Found Value State)
    → substituted around place o state ≡ Ok one
    → length one.state.candidates + unlisted one.value ≤ length state.candidates
unfolding substituted unlisted is_listed
substituted-none around place None state one e = absurd cc
substituted-none around place (Some c) state one e = go (is_module c.tree || (is_open c.tree && (around.in_lambda || not (nat_eq c.encoding around.encoding)))) e
  where
    go : (b : Bool) → ◌≡◌ {A = Result (Found Value State) Refusal} (elim b [
      | true ↦ Err (BadReference place)
      | false ↦ with_packs place around.in_expansion (pack_length c.tree) state >>= λ s. Ok (found (tree c.tree true) s)
    ]) (Ok one) → length one.state.candidates + cond (is_listed one.value) 0 1 ≤ length state.candidates
    go true h = absurd cc
    go false h =
        let b = behind_bind (with_packs place around.in_expansion (pack_length c.tree) state)
        (λ s. Ok (found (tree c.tree true) s)) one h in
        let same : found (tree c.tree true) b.value ≡ one = ok_same (found (tree c.tree true) b.value) one b.next in
        subst (λ y. length y.state.candidates + cond (is_listed y.value) 0 1 ≤ length state.candidates) same
        (omega (arith, ap length (packs-keep place around.in_expansion (pack_length c.tree) state b.value b.is)))

-- a parameter becomes a candidate
pub parameter-one : (around : Around) (place k : ℕ) (state new : State) → parameter_named around place k state ≡ Ok new → length new.candidates ≡ length state.candidates + 1
unfolding parameter_named
parameter-one around place k state new e = go around.scope e
  where
    go : (o : Option Term) → ◌≡◌ {A = Result State Refusal} (elim o [
      | None ↦ Err (BadReference place)
      | Some arguments ↦ elim (nat_lt k (count arguments)) [
        | false ↦ Err (BadReference place)
        | true ↦ with_packs place around.in_expansion (length_if_pack (element arguments k)) state >>= λ s. Ok
            (appended around (parameter k (element arguments k)) s)
      ]
    ]) (Ok new) → length new.candidates ≡ length state.candidates + 1
    go None h = absurd cc
    go (Some arguments) h = tested (nat_lt k (count arguments)) h
      where
        tested : (b : Bool) → ◌≡◌ {A = Result State Refusal} (elim b [
          | false ↦ Err (BadReference place)
          | true ↦ with_packs place around.in_expansion (length_if_pack (element arguments k)) state >>= λ s. Ok
              (appended around (parameter k (element arguments k)) s)
        ]) (Ok new) → length new.candidates ≡ length state.candidates + 1
        tested false g = absurd cc
        tested true g =
            let b = behind_bind (with_packs place around.in_expansion (length_if_pack (element arguments k)) state)
            (λ s. Ok (appended around (parameter k (element arguments k)) s)) new g in
            omega (
              arith,
              ap (λ s. length s.candidates) (ok_same (appended around (parameter k (element arguments k)) b.value) new b.next),
              appended-one around (parameter k (element arguments k)) b.value,
              ap length (packs-keep place around.in_expansion (length_if_pack (element arguments k)) state b.value b.is),
            )

-- ## Steps

pub came : {x : Sym} {made now : ℕ} {state : State} {rest : List Value → ℕ → Type 0} (n next : Next Value State Around) → ◌≡◌ {A = Continuation}
    (Ok n) (Ok next)
    → Onward x made now state rest n → Onward x made now state rest next
came {x} {made} {now} {state} {rest} n next e on = subst (λ m. Onward x made now state rest m) (ok_same n next e) on

-- a part before which no tree is appended, and none is pending
pub none-appended : {x : Sym} {made : ℕ} {state : State} {rest : List Value → ℕ → Type 0} (next : Next Value State Around)
    → length next.state.candidates ≤ length state.candidates + made → ((v : Value) → pending_around x next.context v ≡ 0)
    → ((v : Value) → rest (next.values ++ v ∷ []) 0) → Onward x made 0 state rest next
none-appended {x} {made} {state} {rest} next few none later_ = record {
  over = 0;
  few = omega (arith, few);
  later = λ v. record { now = 0; few = omega (arith, none v); goes = later_ v };
}

-- ## By rows

-- likewise for a row, where `leave` says how many trees a value leaves pending
abbrev pub RowFlow : Row → (Value → ℕ) → Around → (place : ℕ) → List Sym → List Value → (now : ℕ) → Type 0
RowFlow row leave around place [] vs now =
    (byte : ℕ) (began state : State)
    → length (state_after row around began (meant row.form byte around vs) vs state).candidates + leave (meant row.form byte around vs)
    ≤ length state.candidates + nodes_at_end row.form vs + now
RowFlow row leave around place (x ∷ xs) vs now =
    (state : State) (next : Next Value State Around) → done (before_part row (length vs)) around place vs state ≡ Ok next
    → Onward x (nodes_before (before_part row (length vs)) vs) now state (RowFlow row leave around place xs) next

-- likewise for a production, by its row
abbrev pub By : Production → Around → (place : ℕ) → List Sym → List Value → (now : ℕ) → Type 0
By p = RowFlow (row_of p) (leaves p)

-- the productions that close as their rows say
unfoldable pub closes_by_row : Production → Bool
closes_by_row Production.Substitution = false
closes_by_row Production.Inheriting = false
closes_by_row _ = true

closed-by : (p : Production) → closes_by_row p ≡ true → (byte : ℕ) (around : Around) (place : ℕ) (began : State) (vs : List Value) (state : State)
    → close p byte around place began vs state ≡ Ok (found (meant (row_of p).form byte around vs) (state_after (row_of p) around began (meant (row_of p).form byte around vs) vs state))
unfolding closes_by_row close behind meaning
closed-by Production.Substitution is byte around place began vs state = absurd (false≢true is)
closed-by Production.Inheriting is byte around place began vs state = absurd (false≢true is)
closed-by _ is byte around place began vs state = refl

pub of-row : (p : Production) → closes_by_row p ≡ true → (around : Around) (place : ℕ) (xs : List Sym) (vs : List Value) (now : ℕ) → By p around place xs vs now → Flow p around place xs vs now
unfolding between
of-row p is around place [] vs now flow = λ byte began state one e. (
    let v : Value = meant (row_of p).form byte around vs in
    let f : Found Value State = found v (state_after (row_of p) around began v vs state) in
    let same : f ≡ one = ok_same f one (sym (closed-by p is byte around place began vs state) ∙ e) in
    omega (arith, ap (λ o. length o.state.candidates) same, ap (λ o. leaves p o.value) same, flow byte began state, same_end_nodes p vs))
of-row p is around place (x ∷ xs) vs now flow = λ state next e. (
    let on = flow state next e in
    record {
      over = on.over;
      few = omega (arith, on.few, same_before_nodes p vs);
      later = λ v. record { now = (on.later v).now; few = (on.later v).few; goes = of-row p is around place xs (next.values ++ v ∷ []) (on.later v).now (on.later v).goes };
    })

-- ## Rows that leave no tree pending from part to part

unfoldable pub takes_pending : Sym → Bool
takes_pending (OfKind k) = goes_on k || is_arguments k
takes_pending _ = false

unfoldable pub take_nothing : List Sym → Bool
take_nothing [] = true
take_nothing (x ∷ xs) = not (takes_pending x) && take_nothing xs

none-taken : (x : Sym) → takes_pending x ≡ false → (around : Around) (v : Value) → pending_around x around v ≡ 0
unfolding takes_pending pending_around
none-taken (OfKind k) h around v = go (goes_on k) (is_arguments k) h
  where
    go : (a b : Bool) → a || b ≡ false → cond a (unlisted_around around) (cond b (cond (is_there v) (unlisted_around around) 0) 0) ≡ 0
    go false false h = refl
    go true b h = absurd cc
    go false true h = absurd cc
none-taken _ h around v = refl

both-of : (a b : Bool) → not a && b ≡ true → (a ≡ false) × (b ≡ true)
both-of false b h = (refl, h)
both-of true b h = absurd (false≢true h)

-- the actions that append only what they make
unfoldable pub keeps : Action → Bool
keeps (goes nothing w) = true
keeps (goes gain w) = false
keeps (becomes (of maker sources) is_in is_name is_candidate) = true
keeps (becomes m is_in is_name is_candidate) = not is_candidate
keeps _ = true

unfoldable pub all_keep : List Action → Bool
all_keep [] = true
all_keep (b ∷ bs) = keeps b && all_keep bs

packs-same : (w : Where) (state : State) → (packs_within w state).candidates ≡ state.candidates
unfolding packs_within
packs-same under_it state = refl
packs-same _ state = refl

stays : (vs : List Value) (around : Around) (state : State) (next : Next Value State Around) (made : ℕ) → ◌≡◌ {A = Continuation} (Ok (going vs around state)) (Ok next)
    → length next.state.candidates ≤ length state.candidates + made
stays vs around state next made e = omega (arith, ap (λ n. length n.state.candidates) (ok_same (going vs around state) next e))

keeps-few : (b : Action) → keeps b ≡ true → (around : Around) (place : ℕ) (vs : List Value) (state : State) (next : Next Value State Around) → done b around place vs state ≡ Ok next
    → length next.state.candidates ≤ length state.candidates + nodes_before b vs
unfolding keeps done gained tested nodes_before nodes_made
keeps-few quiet is around place vs state next e = stays vs around state next 0 e
keeps-few (goes nothing w) is around place vs state next e =
    omega (arith, ap (λ n. length n.state.candidates) (ok_same (going vs (around_part around place vs w) (packs_within w state)) next e), ap length (packs-same w state))
keeps-few (goes the_prefix w) is around place vs state next e = absurd (false≢true is)
keeps-few (goes (type_of k) w) is around place vs state next e = absurd (false≢true is)
keeps-few (goes (unqualified_of k) w) is around place vs state next e = absurd (false≢true is)
keeps-few (goes itself w) is around place vs state next e = absurd (false≢true is)
keeps-few (becomes (of maker sources) is_in is_name true) is around place vs state next e =
    let t : Term = made 0 around vs (of maker sources) in
    omega (arith, ap (λ n. length n.state.candidates) (ok_same (going (replaced (tree t is_in) vs) (cond is_name (after t is_in around) around) (appended around t state)) next e), appended-one around t state)
keeps-few (becomes (only source) is_in is_name true) is around place vs state next e = absurd (false≢true is)
keeps-few (becomes (extending m) is_in is_name true) is around place vs state next e = absurd (false≢true is)
keeps-few (becomes (tagging k) is_in is_name true) is around place vs state next e = absurd (false≢true is)
keeps-few (becomes (applying m k) is_in is_name true) is around place vs state next e = absurd (false≢true is)
keeps-few (becomes (packing k) is_in is_name true) is around place vs state next e = absurd (false≢true is)
keeps-few (becomes m is_in is_name false) is around place vs state next e =
    let t : Term = made 0 around vs m in
    stays (replaced (tree t is_in) vs) (cond is_name (after t is_in around) around) state next (nodes_before (becomes m is_in is_name false) vs) e
keeps-few (tests after_t is_name) is around place vs state next e =
    let k : ℕ = index_of (part vs 0) in
    let t : Term = parameter k (argument_at around k) in
    let named = parameter_named around (cond after_t (place - 1) place) k state in
    let b = behind_bind named (λ s. tested is_name around t vs s state) next e in
    by is_name (replaced (tree t true) vs) (cond is_name (after t true around) around) b.value (parameter-one around (cond after_t (place - 1) place) k state b.value b.is) b.next
  where
    by : (is_name : Bool) (us : List Value) (a : Around) (s : State) → length s.candidates ≡ length state.candidates + 1
        → ◌≡◌ {A = Continuation} (Ok (going us a (cond is_name s (record s { candidates = state.candidates })))) (Ok next) → length next.state.candidates ≤ length state.candidates + 1
    by true us a s one h = omega (arith, one, ap (λ n. length n.state.candidates) (ok_same (going us a s) next h))
    by false us a s one h = omega (arith, ap (λ n. length n.state.candidates) (ok_same (going us a (record s { candidates = state.candidates })) next h))
keeps-few holds is around place vs state next e = absurd (let clash : ◌≡◌ {A = Continuation} (Err (BadReference place)) (Ok next) = e in cc)
keeps-few unread is around place vs state next e = absurd (let clash : ◌≡◌ {A = Continuation} (Err (BadReference place)) (Ok next) = e in cc)

kept-part : (bs : List Action) (onward : Action) (k : ℕ) → all_keep bs ≡ true → keeps onward ≡ true → keeps (get_or bs k onward) ≡ true
unfolding all_keep
kept-part [] onward k all is = is
kept-part (b ∷ bs) onward zero all is = (and_parts (keeps b) (all_keep bs) all).0
kept-part (b ∷ bs) onward (suc k) all is = kept-part bs onward k (and_parts (keeps b) (all_keep bs) all).1 is

pub plain-flow : (p : Production) (around : Around) (place : ℕ) → all_keep ((row_of p).onward ∷ (row_of p).before) ≡ true → ((vs : List Value) → Flow p around place [] vs 0)
    → (xs : List Sym) → take_nothing xs ≡ true → (vs : List Value) → Flow p around place xs vs 0
unfolding all_keep take_nothing between before_part
plain-flow p around place keep closes [] none vs = closes vs
plain-flow p around place keep closes (x ∷ xs) none vs = λ state next e. (
    let kept = and_parts (keeps (row_of p).onward) (all_keep (row_of p).before) keep in
    let both = both-of (takes_pending x) (take_nothing xs) none in
    none-appended next
    (omega (arith, keeps-few (before_part (row_of p) (length vs)) (kept-part (row_of p).before (row_of p).onward (length vs) kept.1 kept.0) around place vs state next e, same_before_nodes p vs))
    (λ v. none-taken x both.0 next.context v)
    (λ v. plain-flow p around place keep closes xs both.1 (next.values ++ v ∷ [])))

-- ## Names before arguments

-- how many trees are pending after these arguments, which may be absent, if n are pending before them
unfoldable pub behind_name : ℕ → Value → ℕ
behind_name n v = cond (is_there v) 0 n + in_place v

pub there-or-not : (w : Value) → one_if_arguments w + behind_name 1 w ≡ 1
unfolding one_if_arguments one_if_there behind_name in_place is_there
there-or-not nothing_there = refl
there-or-not (named t qualifiers ref) = refl
there-or-not _ = refl

pub spent-or-not : (n : ℕ) (w : Value) → behind_name n w + cond (is_there w) n 0 ≤ n + in_place w
unfolding behind_name in_place is_there
spent-or-not n nothing_there = omega arith
spent-or-not n (named t qualifiers ref) = omega arith
spent-or-not n _ = omega arith

-- the part after a name continues it, whether the name was made or is a candidate already
pub rest-step : (row : Row) (leave : Value → ℕ) (around : Around) (place k made now : ℕ) (state : State) (vs : List Value) (t : Term) (listed : Bool)
    (new : State)
    → ((a : Around) (v : Value) → pending_around (OfKind k) a v ≡ unlisted_around a) → ((v : Value) → pending (OfKind k) v ≡ unlisted v)
    → length new.candidates + cond listed 0 1 ≤ length state.candidates + made + now
    → ((w : Value) → RowFlow row leave around place [] (vs ++ w ∷ []) (unlisted w))
    → Onward (OfKind k) made now state (RowFlow row leave around place []) (going vs (after t listed around) new)
unfolding unlisted_around after prefix_listed
rest-step row leave around place k made now state vs t listed new taken is few closes = record {
  over = cond listed 0 1;
  few = few;
  later = λ w. record { now = unlisted w; few = omega (arith, taken (after t listed around) w, is w); goes = closes w };
}
