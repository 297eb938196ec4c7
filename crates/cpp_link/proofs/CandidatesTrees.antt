-- A symbol has fewer candidates than nodes.
use Rattle.cpp_link.proofs.Basics.{◌≡◌, refl, ap, sym, ◌∙◌, subst, arith, ℕ, ◌+◌, ◌-◌, ◌<◌, ◌≤◌, List, [], ◌∷◌, ◌++◌, length, Bool, true, false, not, ◌&&◌, ◌||◌, cond, nat_lt, ◌^◌, Option, Some, None, Result, Ok, Err, slice_get, lit≤, false≢true, and_parts, Refusal, BadValue, Rule, Sym, Kind as OfKind, Name, Number, Byte, Token, symbols_of, IsSymbol, AreSymbols, Tree, Forest, branch, empty, token, fixed, nothing, grown, spell, IsTree, AreTrees, Found, Open, Next, Reading, ◌>>=◌, found, alone, standing, unfold_tree, unfold_forest, Tally, tally, tallied, plain, tree_untallied, Production, SYMBOL, Alternative, is_in, pick, kinds, may_be_empty, number_of_kind, parts_of, wide_alternatives, wide_choose, wide, rule_of, rule_taken, wide_sound, local_number, last_token, production_at, byte_of, kinds_numbered, number_at, wide_rule_at, wide_empty_at, is_wide_kind, ok_same, behind_bind, at_number, its_symbols, same_rule, known, State, Around, Value, nothing_there, named, text, is_listed, is_there, between, meaning, number_tested, opening, behind, close, cpp, first_around, first_state, makes_before, makes_at_end, cpp_makes, counted_nodes, nodes_of_shape}
use Rattle.cpp_grammar.specs.declared.kind.Kind.{Kind}
use Rattle.cpp_grammar.specs.Values as leaf_
use Rattle.cpp_grammar.specs.Unfolding as unfolding_
use Rattle.cpp_term.proofs.TreesNoted.{read_with_arguments}
use Rattle.cpp_link.proofs.CandidatesFew.{unlisted, unlisted_around, is_component, becomes_candidate, goes_on, is_arguments, in_place, pending, pending_around, makes_name, may_leave, takes_name, begins_arguments, leaves, starts_with, Flow}
use Rattle.cpp_link.proofs.CandidatesFlow.{flows}

-- ## Kinds and their productions

-- a production of a kind takes no more than is pending before the kind, and leaves no less than is pending after the
-- kind
unfoldable fits : (k : ℕ) → Production → Bool
fits k p =
    (not (is_component k) || makes_name p)
    && ((not (becomes_candidate k) || (makes_name p || may_leave p)) &&
    ((not (takes_name p) || goes_on k) && ((not (begins_arguments p) || is_arguments k) && (not (is_arguments k) || (begins_arguments p || makes_name p)))))

unfoldable all_fit : (k : ℕ) → List Alternative → Bool
all_fit k [] = true
all_fit k (a ∷ rest) = fits k a.production && all_fit k rest

kinds-fit : (kind : Kind) → all_fit (number_of_kind kind) (wide_alternatives kind) ≡ true
unfolding all_fit fits wide_alternatives number_of_kind is_component becomes_candidate goes_on is_arguments makes_name may_leave takes_name begins_arguments
kinds-fit Kind.Symbol = refl
kinds-fit _ = refl

picked-fits : (k : ℕ) (all : List Alternative) (byte : ℕ) (p : Production) → pick all byte ≡ Some p → all_fit k all ≡ true → fits k p ≡ true
unfolding pick all_fit
picked-fits k [] byte p e h = absurd cc
picked-fits k (a ∷ rest) byte p e h = go (is_in a byte) e (λ i. picked-fits k rest byte p i both.1)
  where
    both : (fits k a.production ≡ true) × (all_fit k rest ≡ true)
    both = and_parts (fits k a.production) (all_fit k rest) h

    go : (b : Bool) → cond b (Some a.production) (pick rest byte) ≡ Some p → (pick rest byte ≡ Some p → fits k p ≡ true) → fits k p ≡ true
    go true i later = let same : a.production ≡ p = cc in sym (ap (fits k) same) ∙ both.0
    go false i later = later i

place-small : (v : Value) → in_place v ≤ 1
unfolding in_place
place-small (named t qualifiers ref) = omega arith
place-small nothing_there = omega arith
place-small _ = omega arith

-- a production leaves at least as many trees pending as are pending after its kind
pending-left : (k : ℕ) (p : Production) (v : Value) → fits k p ≡ true → (begins_arguments p ≡ true → in_place v ≡ 0) → pending (OfKind k) v ≤ leaves p v
unfolding fits pending leaves unlisted
pending-left k p v h alone_ =
    let one = and_parts (not (is_component k) || makes_name p) _ h in
    let two = and_parts (not (becomes_candidate k) || (makes_name p || may_leave p)) _ one.1 in
    let three = and_parts (not (takes_name p) || goes_on k) _ two.1 in
    let four = and_parts (not (begins_arguments p) || is_arguments k) (not (is_arguments k) || (begins_arguments p || makes_name p)) three.1 in
    go (is_component k) (becomes_candidate k) (is_arguments k) (makes_name p) (may_leave p) (begins_arguments p) (cond_small v) (place-small v) alone_ one.0 two.0 four.1
  where
    cond_small : (v : Value) → unlisted v ≤ 1
    cond_small v = small (is_listed v)
      where
        small : (b : Bool) → cond b 0 1 ≤ 1
        small true = omega arith
        small false = omega arith

    go : (c b a m l g : Bool) → unlisted v ≤ 1 → in_place v ≤ 1 → (g ≡ true → in_place v ≡ 0) → not c || m ≡ true → not b || (m || l) ≡ true → not a || (g || m) ≡ true
        → cond c 1 (cond b (unlisted v) (cond a (in_place v) 0)) ≤ cond m 1 (cond l (unlisted v) 0)
    go true b a true l g few one plain e f h = omega arith
    go true b a false l g few one plain e f h = absurd (false≢true e)
    go false true a true l g few one plain e f h = few
    go false true a false true g few one plain e f h = omega arith
    go false true a false false g few one plain e f h = absurd (false≢true f)
    go false false false m l g few one plain e f h = omega arith
    go false false true true l g few one plain e f h = one
    go false false true false l true few one plain e f h = omega (arith, plain refl)
    go false false true false l false few one plain e f h = absurd (false≢true h)

-- a production begins with at most as many pending trees as are pending before its kind
pending-first : (k : ℕ) (p : Production) (around : Around) (v : Value) → fits k p ≡ true → (begins_arguments p ≡ true → is_there v ≡ true)
    → starts_with p around ≤ pending_around (OfKind k) around v
unfolding fits starts_with pending_around
pending-first k p around v h there =
    let one = and_parts (not (is_component k) || makes_name p) _ h in
    let two = and_parts (not (becomes_candidate k) || (makes_name p || may_leave p)) _ one.1 in
    let three = and_parts (not (takes_name p) || goes_on k) _ two.1 in
    let four = and_parts (not (begins_arguments p) || is_arguments k) (not (is_arguments k) || (begins_arguments p || makes_name p)) three.1 in
    go (takes_name p) (begins_arguments p) (goes_on k) (is_arguments k) (is_there v) there three.0 four.0
  where
    go : (t b g a w : Bool) → (b ≡ true → w ≡ true) → not t || g ≡ true → not b || a ≡ true
        → cond t (unlisted_around around) (cond b (unlisted_around around) 0)
        ≤ cond g (unlisted_around around) (cond a (cond w (unlisted_around around) 0) 0)
    go true b true a w is e f = omega arith
    go true b false a w is e f = absurd (false≢true e)
    go false true true a w is e f = omega arith
    go false true false true true is e f = omega arith
    go false true false true false is e f = absurd (false≢true (is refl))
    go false true false false w is e f = absurd (false≢true f)
    go false false g a w is e f = omega arith

-- arguments that are read are present
arguments-there : (p : Production) (byte : ℕ) (around : Around) (place : ℕ) (began : State) (vs : List Value) (state : State)
    (one : Found Value State)
    → close p byte around place began vs state ≡ Ok one → begins_arguments p ≡ true → is_there one.value ≡ true
unfolding begins_arguments close meaning is_there
arguments-there Production.Arguments byte around place began vs state one e h =
    ap (λ o. is_there o.value) (sym (ok_same (found (meaning Production.Arguments byte around vs)
    (behind Production.Arguments byte around began vs state)) one e))
arguments-there Production.Mark byte around place began vs state one e h = absurd (false≢true h)
arguments-there _ byte around place began vs state one e h = absurd (false≢true h)

-- arguments that are read aren't a tagged name
arguments-alone : (p : Production) (byte : ℕ) (around : Around) (place : ℕ) (began : State) (vs : List Value) (state : State)
    (one : Found Value State)
    → close p byte around place began vs state ≡ Ok one → begins_arguments p ≡ true → in_place one.value ≡ 0
unfolding begins_arguments close meaning in_place
arguments-alone Production.Arguments byte around place began vs state one e h =
    ap (λ o. in_place o.value) (sym (ok_same (found (meaning Production.Arguments byte around vs)
    (behind Production.Arguments byte around began vs state)) one e))
arguments-alone Production.Mark byte around place began vs state one e h = absurd (false≢true h)
arguments-alone _ byte around place began vs state one e h = absurd (false≢true h)

-- the production of a rule that a kind takes
record OfRule (k : ℕ) (rule : Rule) : Type 0 where
  production : Production
  is : rule ≡ rule_of production
  fit : fits k production ≡ true

rule-taken : (k byte : ℕ) (rule : Rule) → k < wide.kinds → wide.rule k byte ≡ Some rule → OfRule k rule
unfolding rule_taken wide_choose
rule-taken k byte rule lt takes = go (slice_get kinds k) refl
  where
    chosen : (kind : Kind) → slice_get kinds k ≡ Some kind → (o : Option Production) → wide_choose kind byte ≡ o → rule_taken o ≡ Some rule
        → OfRule k rule
    chosen kind at None is h = let clash : ◌≡◌ {A = Option Rule} None (Some rule) = h in absurd cc
    chosen kind at (Some p) is h = record {
      production = p;
      is = sym (same_rule p rule h);
      fit = (
          let number : number_of_kind kind ≡ k = omega (arith, number_at 0 kinds k kind kinds_numbered at) in
          ap (λ n. fits n p) (sym number) ∙ picked-fits (number_of_kind kind) (wide_alternatives kind) byte p is (kinds-fit kind));
    }

    go : (o : Option Kind) → slice_get kinds k ≡ o → OfRule k rule
    go None none = absurd (is_wide_kind k lt none)
    go (Some kind) at = chosen kind at (wide_choose kind byte) refl (sym (wide_rule_at k kind byte at) ∙ takes)

-- a kind that may be empty leaves no tree pending
never-empty : (kind : Kind) → not (may_be_empty kind) || not (is_component (number_of_kind kind) || becomes_candidate
    (number_of_kind kind)) ≡ true
unfolding may_be_empty number_of_kind is_component becomes_candidate
never-empty Kind.Symbol = refl
never-empty _ = refl

empty-leaves : (k : ℕ) → k < wide.kinds → wide.may_be_empty k ≡ true → pending (OfKind k) nothing_there ≡ 0
unfolding pending in_place
empty-leaves k lt may = go (slice_get kinds k) refl
  where
    none : (a : Bool) → ◌≡◌ {A = ℕ} (cond a 0 0) 0
    none true = refl
    none false = refl

    tested : (e c b a : Bool) → e ≡ true → not e || not (c || b) ≡ true → cond c 1 (cond b (unlisted nothing_there) (cond a 0 0)) ≡ 0
    tested false c b a is h = absurd (false≢true is)
    tested true true b a is h = absurd (false≢true h)
    tested true false true a is h = absurd (false≢true h)
    tested true false false a is h = none a

    go : (o : Option Kind) → slice_get kinds k ≡ o → cond (is_component k) 1 (cond (becomes_candidate k) (unlisted nothing_there) (cond (is_arguments k) 0 0)) ≡ 0
    go None none = absurd (is_wide_kind k lt none)
    go (Some kind) at =
        let number : number_of_kind kind ≡ k = omega (arith, number_at 0 kinds k kind kinds_numbered at) in
        tested (may_be_empty kind) (is_component k) (becomes_candidate k) (is_arguments k) (sym (wide_empty_at k kind at) ∙ may)
        (ap (λ n. not (may_be_empty kind) || not (is_component n || becomes_candidate n)) (sym number) ∙ never-empty kind)

-- ## Trees

abbrev counted : Reading Value (Tally State) Around
counted = tallied cpp cpp_makes

-- every tree that is appended, or pending at the end, was pending before or is made
record Few (x : Sym) (around : Around) (old : State) (m : ℕ) (r : Found (List Value) (Tally State)) : Type 0 where
  value : Value
  is : r.value ≡ value ∷ []
  few : length r.state.state.candidates + pending x value + m ≤ length old.candidates + r.state.nodes + pending_around x around value

abbrev TreeFew : Tree → Type 0
TreeFew t =
    (x : Sym) (around : Around) (at : ℕ) (old : State) (m : ℕ) (r : Found (List Value) (Tally State)) → IsSymbol wide x → IsTree wide x t
    → unfold_tree counted around at t (tally old m) ≡ Ok r → Few x around old m r

abbrev AllFew : Forest → Type 0
AllFew nothing = Unit {0}
AllFew (grown t f) = TreeFew t × AllFew f

-- likewise after all parts of a production
record Ends (p : Production) (around : Around) (place : ℕ) (state : State) (m now : ℕ) (r : Found (List Value) (Tally State)) : Type 0 where
  left : ℕ
  closes : Flow p around place [] r.value left
  few : length r.state.state.candidates + left + m ≤ length state.candidates + r.state.nodes + now

ends-same : (p : Production) (around : Around) (place : ℕ) (state : State) (m now : ℕ) (vs : List Value)
    (r : Found (List Value) (Tally State))
    → Flow p around place [] vs now → ◌≡◌ {A = Result (Found (List Value) (Tally State)) Refusal} (Ok (found vs (tally state m))) (Ok r)
    → Ends p around place state m now r
ends-same p around place state m now vs r flow e =
    subst (Ends p around place state m now) (ok_same (found vs (tally state m)) r e)
    (record { left = now; closes = flow; few = omega arith })

forest-few : (f : Forest) → AllFew f → (p : Production) (rule : Open (Tally State) Around) → production_at rule.rule.number ≡ p →
    (xs : List Sym)
    → AreSymbols wide xs → AreTrees wide xs f → (vs : List Value) (from : ℕ) (state : State) (m now : ℕ)
    → Flow p rule.context rule.place xs vs now
    → (r : Found (List Value) (Tally State)) → unfold_forest counted rule vs from f (tally state m) ≡ Ok r
    → Ends p rule.context rule.place state m now r
unfolding cpp
forest-few nothing all p rule number [] symbols trees vs from state m now flow r e =
    ends-same p rule.context rule.place state m now vs r flow e
forest-few nothing all p rule number (x ∷ xs) symbols trees vs from state m now flow r e = absurd trees
forest-few (grown t f) all p rule number [] symbols trees vs from state m now flow r e = absurd trees
forest-few (grown t f) all p rule number (x ∷ xs) symbols trees vs from state m now flow r e =
    let made : ℕ = m + makes_before (production_at rule.rule.number) vs in
    let onward : Next Value (Tally State) Around → Result (Found (List Value) (Tally State)) Refusal =
    λ next. unfold_tree counted next.context from t next.state >>= λ part. unfold_forest counted rule (next.values ++ part.value)
    (from + length (spell t)) f part.state in
    let counts : Next Value State Around → Result (Next Value (Tally State) Around) Refusal =
    λ next. Ok (record { context = next.context; values = next.values; state = tally next.state made }) in
    let a = behind_bind (between (production_at rule.rule.number) rule.context rule.place vs state >>= counts) onward r e in
    let b = behind_bind (between (production_at rule.rule.number) rule.context rule.place vs state) counts a.value a.is in
    let next : Next Value (Tally State) Around = record {
      context = b.value.context;
      values = b.value.values;
      state = tally b.value.state made;
    } in
    let moved : onward next ≡ Ok r = ap onward (ok_same next a.value b.next) ∙ a.next in
    let c = behind_bind (unfold_tree counted b.value.context from t (tally b.value.state made))
    (λ part. unfold_forest counted rule (b.value.values ++ part.value) (from + length (spell t)) f part.state) r moved in
    let step = flow state b.value (ap (λ q. between q rule.context rule.place vs state) (sym number) ∙ b.is) in
    let one = all.0 x b.value.context from b.value.state made c.value symbols.0 trees.0 c.is in
    let later = step.later one.value in
    let ends = forest-few f all.1 p rule number xs symbols.1 trees.1 (b.value.values ++ one.value ∷ [])
    (from + length (spell t)) c.value.state.state
    c.value.state.nodes later.now later.goes r
    (subst (λ ws. unfold_forest counted rule (b.value.values ++ ws) (from + length (spell t)) f c.value.state ≡ Ok r) one.is c.next) in
    record {
      left = ends.left;
      closes = ends.closes;
      few = omega (arith, step.few, one.few, later.few, ends.few, ap (λ q. makes_before q vs) number);
    }

tested-keeps : (b : Bool) (place : ℕ) (state new : State) → ◌≡◌ {A = Result State Refusal}
    (elim b [ true ↦ Ok state | false ↦ Err (BadValue place) ]) (Ok new) → new ≡ state
tested-keeps true place state new e = sym (ok_same state new e)
tested-keeps false place state new e = absurd cc

opening-keeps : (p : Production) (f : Forest) (place : ℕ) (state new : State) → opening p f place state ≡ Ok new → new ≡ state
unfolding opening number_tested
opening-keeps Production.Lambda f place state new e = tested-keeps (nat_lt (local_number (last_token f [])) (2 ^ 64))
    (place - 1) state new e
opening-keeps Production.Unnamed f place state new e = tested-keeps (nat_lt (local_number (last_token f [])) (2 ^ 64))
    (place - 1) state new e
opening-keeps _ f place state new e = sym (ok_same state new e)

branch-few : (rule : Rule) (taken : List ℕ) (parts : Forest) → AllFew parts → TreeFew (branch rule taken parts)
unfolding cpp
branch-few rule taken parts all (OfKind k) around at old m r lt is e =
    let t = rule-taken k is.0.byte rule lt is.0.found in
    let p : Production = t.production in
    let number : production_at rule.number ≡ p = ap (λ y. production_at y.number) t.is ∙ at_number p in
    let own : symbols_of rule ≡ parts_of p = ap symbols_of t.is ∙ its_symbols p in
    let symbols = subst (AreSymbols wide) own (wide_sound.symbols k is.0.byte rule lt is.0.is_byte is.0.found) in
    let trees = subst (λ xs. AreTrees wide xs parts) own is.1 in
    let whole : Open (Tally State) Around = standing rule taken at around (tally old m) in
    let from : ℕ = at + length taken in
    let begun : State → Result (Tally State) Refusal = λ state. Ok (tally state m) in
    let onward : Tally State → Result (Found (List Value) (Tally State)) Refusal =
    λ state. unfold_forest counted whole [] from parts state >>= λ inner. counted.close whole inner.value inner.state >>= alone in
    let a = behind_bind (opening (production_at rule.number) parts at old >>= begun) onward r e in
    let b = behind_bind (opening (production_at rule.number) parts at old) begun a.value a.is in
    let kept : b.value ≡ old = opening-keeps (production_at rule.number) parts at old b.value b.is in
    let start : tally old m ≡ a.value = ap (λ s. tally s m) (sym kept) ∙ ok_same (tally b.value m) a.value b.next in
    let c = behind_bind (unfold_forest counted whole [] from parts (tally old m))
    (λ inner. counted.close whole inner.value inner.state >>= alone) r
    (ap onward start ∙ a.next) in
    let d = behind_bind (counted.close whole c.value.value c.value.state) alone r c.next in
    let made : ℕ = c.value.state.nodes + makes_at_end (production_at rule.number) c.value.value in
    let f = behind_bind (close (production_at rule.number) (byte_of taken) around at old c.value.value c.value.state.state)
    (λ one. Ok (found one.value (tally one.state made))) d.value d.is in
    let ends = forest-few parts all p whole number (parts_of p) symbols trees [] from old m (starts_with p around)
    (flows p around at) c.value c.is in
    let closes : close p (byte_of taken) around at old c.value.value c.value.state.state ≡ Ok f.value =
    ap (λ q. close q (byte_of taken) around at old c.value.value c.value.state.state) (sym number) ∙ f.is in
    let few = ends.closes (byte_of taken) old c.value.state.state f.value closes in
    let same : found (f.value.value ∷ []) (tally f.value.state made) ≡ r =
    ap (λ o. found (o.value ∷ []) o.state) (ok_same (found f.value.value (tally f.value.state made)) d.value f.next) ∙ ok_same
    (found (d.value.value ∷ []) d.value.state) r d.next in
    subst (Few (OfKind k) around old m) same (record {
      value = f.value.value;
      is = refl;
      few = omega (
        arith,
        few,
        ends.few,
        pending-left k p f.value.value t.fit
            (arguments-alone p (byte_of taken) around at old c.value.value c.value.state.state f.value closes),
        pending-first k p around f.value.value t.fit
            (arguments-there p (byte_of taken) around at old c.value.value c.value.state.state f.value closes),
        ap (λ q. makes_at_end q c.value.value) number,
      );
    })
branch-few rule taken parts all Name around at old m r lt is e = absurd is
branch-few rule taken parts all (Number kind) around at old m r lt is e = absurd is
branch-few rule taken parts all (Byte b) around at old m r lt is e = absurd is

-- a value that is read without appending a candidate
leaf-few : (x : Sym) (around : Around) (old : State) (m : ℕ) (v : Value) (r : Found (List Value) (Tally State)) → pending x v ≡ 0
    → ◌≡◌ {A = Result (Found (List Value) (Tally State)) Refusal} (Ok (found (v ∷ []) (tally old m))) (Ok r) → Few x around old m r
leaf-few x around old m v r none e =
    subst (Few x around old m) (ok_same (found (v ∷ []) (tally old m)) r e) (record { value = v; is = refl; few = omega (arith, none) })

empty-few : TreeFew empty
unfolding cpp
empty-few (OfKind k) around at old m r lt is e = leaf-few (OfKind k) around old m nothing_there r (empty-leaves k lt is) e
empty-few Name around at old m r lt is e = absurd is
empty-few (Number kind) around at old m r lt is e = absurd is
empty-few (Byte b) around at old m r lt is e = absurd is

token-few : (t : Token) → TreeFew (token t)
unfolding cpp pending
token-few t (OfKind k) around at old m r lt is e = absurd is
token-few t Name around at old m r lt is e = leaf-few Name around old m (text t.own) r refl e
token-few t (Number kind) around at old m r lt is e = leaf-few (Number kind) around old m (text t.own) r refl e
token-few t (Byte b) around at old m r lt is e = absurd is

fixed-few : (byte : ℕ) → TreeFew (fixed byte)
unfolding cpp pending
fixed-few byte (OfKind k) around at old m r lt is e = absurd is
fixed-few byte Name around at old m r lt is e = absurd is
fixed-few byte (Number kind) around at old m r lt is e = absurd is
fixed-few byte (Byte b) around at old m r lt is e = leaf-few (Byte b) around old m nothing_there r refl e

mutual
  tree-few : (t : Tree) → TreeFew t
  tree-few (branch rule taken parts) = branch-few rule taken parts (trees-few parts)
  tree-few empty = empty-few
  tree-few (token t) = token-few t
  tree-few (fixed byte) = fixed-few byte

  trees-few : (f : Forest) → AllFew f
  trees-few nothing = tt
  trees-few (grown t f) = (tree-few t, trees-few f)

-- ## Symbols

noted-few : (shape : Tree) → IsTree wide (OfKind SYMBOL) shape → (read : Found (List Value) State)
    → unfold_tree cpp first_around 0 shape first_state ≡ Ok read
    → 4 + length read.state.candidates ≤ nodes_of_shape shape
unfolding first_state pending_around goes_on is_arguments
noted-few shape is read e =
    let a = behind_bind (unfold_tree counted first_around 0 shape (tally first_state 0)) plain read
    (tree_untallied cpp cpp_makes first_around 0 shape (tally first_state 0) ∙ e) in
    let one = tree-few shape (OfKind SYMBOL) first_around 0 first_state 0 a.value (known 0 (lit≤ tt)) is a.is in
    omega (
      arith,
      one.few,
      ap (λ r. length r.state.candidates) (ok_same (found a.value.value a.value.state.state) read a.next),
      ap counted_nodes a.is,
    )

pub candidates-few : (shape : Tree) → IsTree wide (OfKind SYMBOL) shape → (read : Found (List leaf_.Value) leaf_.State)
    → unfold_tree unfolding_.cpp unfolding_.first_around 0 shape unfolding_.first_state ≡ Ok read
    → 4 + length read.state.candidates ≤ nodes_of_shape shape
candidates-few shape is read e =
    let same = read_with_arguments shape read is e in
    omega (arith, noted-few shape is same.other same.is, same.candidates)
