-- For a name with its `M`, and for the numbers of candidates, linking does what the wide reading says.
use Rattle.cpp_link.proofs.Basics.{◌≡◌, refl, sym, ◌∙◌, ap, subst, arith, ℕ, ◌<◌, List, [], ◌∷◌, length, Bool, true, false, nat_eq, Option, Some, None, Result, Ok, Err, true≢false, false≢true, eqb-true, Refusal, BadReference, Found, Production, Term, holder, absent, Continuation, inside, after, listed_so_far, appended, appended_by, both, with_holder, counted_unless, counted_held, with_constructor, with_held, is_instance, holder_so_far, place_in, named_in, left_at, with_lists, listed_by, substituted_wide, numbered, between_wide, Stored, tree_at, IsAliasBelow, Node, Surroundings, Step, steps_apart, with_mark, going_marked, lists_after, named_left, named_after, Naming, counted_of, trees_in, prefix_in, prefix_of, name_of, around_of, IsPrefixThere, Marks, goes_on, with_candidate, constructor_by, with_marks, behind_first, named_if, appended_if, makes_before, made_before, IsStepOf}
use Rattle.cpp_grammar.specs.Values.{Counted, by_all, by_newer, by_gcc, by_clang, by_some, Lists, both_lists, longer_list, shorter_list, no_list}
use Rattle.cpp_term.specs.Values.{State, Around, Value, tree, tree_of, part, behind, prefix_tree, prefix_listed}
use Rattle.cpp_tree.specs.Nodes as nodes

-- ## What is done before a part

-- what is done for a name with its `M` is done before the second part
pub held_second : (p : Production) (l : Bool) (before : ℕ) → p ≡ Production.Holder → steps_apart p l before ≡ true → before ≡ 1
unfolding steps_apart
held_second p l before is apart = eqb-true before 1 (ap (λ q. steps_apart q l before) (sym is) ∙ apart)

pub base_first : (p : Production) (l : Bool) (before : ℕ) → p ≡ Production.HeldArguments → steps_apart p l before ≡ true → before ≡ 0
unfolding steps_apart
base_first p l before is apart = eqb-true before 0 (ap (λ q. steps_apart q l before) (sym is) ∙ apart)

pub declared_first : (p : Production) (l : Bool) (before : ℕ) → p ≡ Production.DeclaredFirst → steps_apart p l before ≡ true → before ≡ 0
unfolding steps_apart
declared_first p l before is apart = eqb-true before 0 (ap (λ q. steps_apart q l before) (sym is) ∙ apart)

-- a name becomes a candidate again with its M
pub held_read : (s : List ℕ) (y : Stored) (kept : Surroundings) (place : ℕ) (vs : List Value) (state : State) (packs : Option ℕ) (name : ℕ) → length vs ≡ 1
    → tree_at (trees_in s y) name ≡ prefix_tree (prefix_of (trees_in s y) (name_of kept)) → is_instance (tree_at (trees_in s y) name) ≡ false
    → between_wide Production.Holder (around_of (trees_in s y) kept) place vs (record state { packs = packs })
    ≡ going_marked Production.Holder (around_of (trees_in s y) kept) (goes_on s y kept vs state packs (Step.Made (Node.Holder name) true true false packs))
unfolding between_wide holder_so_far listed_so_far around_of goes_on going_marked with_mark part tree_of behind_first named_if appended_if nodes.tree_of
held_read s y kept place [] state packs name one prefix none = absurd (omega (arith, one))
held_read s y kept place (v ∷ w ∷ vs) state packs name one prefix none = absurd (omega (arith, one))
held_read s y kept place (v ∷ []) state packs name one prefix none =
    by (is_instance (prefix_tree (prefix_of (trees_in s y) (name_of kept)))) (prefix_tree (prefix_of (trees_in s y) (name_of kept))) (ap is_instance (sym prefix) ∙ none) ∙ ap ends (sym prefix)
  where
    ends : Term → Continuation
    ends t = Ok (record {
      values = tree (holder t) true ∷ [];
      context = after (holder t) true (around_of (trees_in s y) kept);
      state = with_holder (around_of (trees_in s y) kept) (holder t) (record state { packs = packs });
    })

    by : (b : Bool) (t : Term) → b ≡ false → ◌≡◌ {A = Continuation} (elim b [ true ↦ Err (BadReference place) | false ↦ ends t ]) (ends t)
    by true t h = absurd (true≢false h)
    by false t h = refl

-- an M after arguments is refused
pub held_refused : (around : Around) (place : ℕ) (vs : List Value) (state : State) → length vs ≡ 1 → is_instance (prefix_tree around.prefix) ≡ true
    → between_wide Production.Holder around place vs state ≡ Err (BadReference place)
unfolding between_wide holder_so_far
held_refused around place [] state one named = absurd (omega (arith, one))
held_refused around place (v ∷ w ∷ vs) state one named = absurd (omega (arith, one))
held_refused around place (v ∷ []) state one named = by (is_instance (prefix_tree around.prefix)) named
  where
    by : (b : Bool) → b ≡ true
        → ◌≡◌ {A = Continuation} (elim b [ true ↦ Err (BadReference place) | false ↦ listed_so_far around (holder (prefix_tree around.prefix)) [] (with_holder around (holder (prefix_tree around.prefix)) state) ]) (Err (BadReference place))
    by true h = refl
    by false h = absurd (false≢true h)

-- before the arguments of a constructor or a concept, only the marking of candidates is done
pub base_read : (s : List ℕ) (y : Stored) (kept then : Surroundings) (place : ℕ) (vs : List Value) (state : State) (packs : Option ℕ) → length vs ≡ 0
    → around_of (trees_in s y) then ≡ inside (around_of (trees_in s y) kept)
    → between_wide Production.HeldArguments (around_of (trees_in s y) kept) place vs (record state { packs = packs })
    ≡ going_marked Production.HeldArguments (around_of (trees_in s y) kept) (goes_on s y kept vs state packs (Step.Go None then packs))
unfolding between_wide goes_on going_marked with_mark with_candidate
base_read s y kept then place (v ∷ vs) state packs none surrounds = absurd (omega (arith, none))
base_read s y kept then place [] state packs none surrounds = ap ends (sym surrounds)
  where
    ends : Around → Continuation
    ends a = Ok (record { values = []; context = a; state = with_mark Production.HeldArguments (around_of (trees_in s y) kept) [] (record state { packs = packs }) })

-- nothing is done before what a lambda declares
pub declared_read : (s : List ℕ) (y : Stored) (kept : Surroundings) (place : ℕ) (vs : List Value) (state : State) (packs : Option ℕ) → length vs ≡ 0
    → between_wide Production.DeclaredFirst (around_of (trees_in s y) kept) place vs (record state { packs = packs })
    ≡ going_marked Production.DeclaredFirst (around_of (trees_in s y) kept) (goes_on s y kept vs state packs (Step.Go None kept packs))
unfolding between_wide goes_on going_marked with_mark with_candidate
declared_read s y kept place (v ∷ vs) state packs none = absurd (omega (arith, none))
declared_read s y kept place [] state packs none = refl

-- a name with its `M` makes one node before the second part
pub held_makes : (known : List Value) → length known ≡ 1 → 1 ≡ makes_before Production.Holder known
unfolding makes_before made_before
held_makes (v ∷ []) one = refl
held_makes [] one = absurd (omega (arith, one))
held_makes (v ∷ w ∷ vs) one = absurd (omega (arith, one))

pub base_makes : (known : List Value) → length known ≡ 0 → 0 ≡ makes_before Production.HeldArguments known
unfolding makes_before made_before
base_makes [] none = refl
base_makes (v ∷ vs) none = absurd (omega (arith, none))

pub declared_makes : (known : List Value) → length known ≡ 0 → 0 ≡ makes_before Production.DeclaredFirst known
unfolding makes_before made_before
declared_makes [] none = refl
declared_makes (v ∷ vs) none = absurd (omega (arith, none))

pub held_step : (before : ℕ) (node : Node) (packs : Option ℕ) → before ≡ 1 → IsStepOf Production.Holder before (Step.Made node true true false packs)
unfolding made_before
held_step before node packs one = rw one (omega arith, refl)

-- ## What becomes a candidate

pub no_marks : (around : Around) (ts : List Term) (marks : Marks) (state : State) → marks.first ≡ None → marks.second ≡ None → with_marks around ts marks state ≡ state
unfolding with_marks with_candidate
no_marks around ts marks state first second = rw (first, second) refl

-- a name becomes a candidate with its `M`, and before that unless it has become one as a prefix
pub twice_noted : (again : Bool) (around : Around) (ts : List Term) (node : ℕ) (state : State) (marks : Marks) → prefix_listed around.prefix ≡ again
    → marks.first ≡ elim again as (λ _. Option ℕ) [ true ↦ Some node | false ↦ None ] → counted_of marks.first_by ≡ by_all → marks.second ≡ Some node → counted_of marks.second_by ≡ by_newer
    → with_marks around ts marks state ≡ with_holder around (tree_at ts node) state
unfolding with_marks with_candidate with_holder
twice_noted again around ts node state marks listed first all second newer =
    both (λ b o. with_candidate b around ts o (with_candidate (counted_of marks.first_by) around ts marks.first state)) newer second
    ∙ ap (λ x. with_candidate by_newer around ts (Some node) x) (both (λ b o. with_candidate b around ts o state) all first) ∙ go again
    ∙ sym (ap (λ l. appended_by by_newer around (tree_at ts node) (elim l as (λ _. State) [ true ↦ appended around (tree_at ts node) state | false ↦ state ])) listed)
  where
    go : (b : Bool) → with_candidate by_newer around ts (Some node) (with_candidate by_all around ts (elim b as (λ _. Option ℕ) [ true ↦ Some node | false ↦ None ]) state)
        ≡ appended_by by_newer around (tree_at ts node) (elim b as (λ _. State) [ true ↦ appended around (tree_at ts node) state | false ↦ state ])
    go true = refl
    go false = refl

-- an inherited constructor becomes a candidate after its base class, if the constructor is counted
pub constructor_noted : (counted : Counted) (around : Around) (ts : List Term) (state : State) → tree_at ts 0 ≡ absent → with_constructor false counted around state ≡ with_candidate by_gcc around ts (constructor_by counted) state
unfolding with_constructor with_candidate constructor_by
constructor_noted by_gcc around ts state is = ap (λ t. appended_by by_gcc around t state) (sym is)
constructor_noted by_all around ts state is = refl
constructor_noted by_newer around ts state is = refl
constructor_noted by_clang around ts state is = refl
constructor_noted by_some around ts state is = refl

-- a base class or a concept's name becomes a candidate
pub held_noted : (counted : Counted) (around : Around) (ts : List Term) (node : ℕ) (state : State) → counted_unless false counted around (tree_at ts node) state ≡ with_candidate counted around ts (Some node) state
unfolding counted_unless with_candidate appended
held_noted by_all around ts node state = refl
held_noted by_newer around ts node state = refl
held_noted by_gcc around ts node state = refl
held_noted by_clang around ts node state = refl
held_noted by_some around ts node state = refl

pub marks_held : (marks : Marks) (around : Around) (ts : List Term) (node : ℕ) (state : State) → around.prefix ≡ behind (tree_at ts node) false → tree_at ts 0 ≡ absent
    → marks.first ≡ Some node → counted_of marks.first_by ≡ counted_held (tree_at ts node) → marks.second ≡ constructor_by (counted_held (tree_at ts node)) → counted_of marks.second_by ≡ by_gcc
    → with_marks around ts marks state ≡ with_held (prefix_listed around.prefix) around (prefix_tree around.prefix) state
unfolding with_marks with_held prefix_listed prefix_tree
marks_held marks around ts node state prefix none first by second gcc =
    let c = counted_held (tree_at ts node) in
    both (λ b o. with_candidate b around ts o (with_candidate (counted_of marks.first_by) around ts marks.first state)) gcc second
    ∙ ap (λ x. with_candidate by_gcc around ts (constructor_by c) x) (both (λ b o. with_candidate b around ts o state) by first ∙ sym (held_noted c around ts node state))
    ∙ sym (constructor_noted c around ts (counted_unless false c around (tree_at ts node) state) none)
    ∙ sym (ap (λ p. with_held (prefix_listed p) around (prefix_tree p) state) prefix)

pub constructor_below : (n : ℕ) (o : Option ℕ) (counted : Counted) → o ≡ constructor_by counted → 3 < n → IsAliasBelow n o
unfolding constructor_by
constructor_below n o by_gcc is fixed = rw is (omega (arith, fixed))
constructor_below n o by_all is fixed = rw is tt
constructor_below n o by_newer is fixed = rw is tt
constructor_below n o by_clang is fixed = rw is tt
constructor_below n o by_some is fixed = rw is tt

pub is_listed_prefix : (ts : List Term) (kept : Surroundings) (n : Naming) (listed : Bool) → kept.naming ≡ n → prefix_listed (prefix_of ts (prefix_in n kept.name)) ≡ listed → prefix_listed (around_of ts kept).prefix ≡ listed
unfolding around_of
is_listed_prefix ts kept n listed is so = ap (λ n. prefix_listed (prefix_of ts (prefix_in n kept.name))) is ∙ so

-- the name before the arguments, if it isn't a candidate yet
pub unlisted_prefix : (ts : List Term) (kept : Surroundings) → kept.naming ≡ Naming.Unlisted → (around_of ts kept).prefix ≡ behind (tree_at ts kept.name) false
unfolding around_of prefix_of prefix_in
unlisted_prefix ts kept is = ap (λ n. prefix_of ts (prefix_in n kept.name)) is

pub unlisted_below : (n : ℕ) (kept : Surroundings) → kept.naming ≡ Naming.Unlisted → IsPrefixThere n (name_of kept) → kept.name < n
unfolding prefix_in
unlisted_below n kept is there = subst (λ m. IsPrefixThere n (prefix_in m kept.name)) is there

-- no name before the arguments, or one that is a candidate already
pub outermost_prefix : (ts : List Term) (kept : Surroundings) (state : State) → kept.naming ≡ Naming.Outermost → with_held (prefix_listed (around_of ts kept).prefix) (around_of ts kept) (prefix_tree (around_of ts kept).prefix) state ≡ state
unfolding around_of prefix_of prefix_in prefix_listed with_held with_constructor counted_unless
outermost_prefix ts kept state is = ap (λ n. with_held (prefix_listed (prefix_of ts (prefix_in n kept.name))) (around_of ts kept) (prefix_tree (prefix_of ts (prefix_in n kept.name))) state) is

pub listed_prefix : (ts : List Term) (kept : Surroundings) (state : State) → kept.naming ≡ Naming.Listed → with_held (prefix_listed (around_of ts kept).prefix) (around_of ts kept) (prefix_tree (around_of ts kept).prefix) state ≡ state
unfolding around_of prefix_of prefix_in prefix_listed with_held with_constructor counted_unless
listed_prefix ts kept state is = ap (λ n. with_held (prefix_listed (prefix_of ts (prefix_in n kept.name))) (around_of ts kept) (prefix_tree (prefix_of ts (prefix_in n kept.name))) state) is

-- ## Numbers

abbrev Named : Type 0
Named = Result (Found Value State) Refusal

-- A substitution denotes the candidate that its number names at its `S`; the lists that remain after this are kept.
pub numbered_is : (around : Around) (place number : ℕ) (state : State)
    → numbered around place number state ≡ substituted_wide around place (named_after place number state) (with_lists (lists_after place number state) state)
unfolding numbered named_after lists_after listed_by named_left with_lists substituted_wide
numbered_is around place number state = go (nat_eq (place_in false state.candidates number) (place_in true state.candidates number))
  where
    by : (lists : Lists) → listed_by lists around place number (with_lists lists state) ≡ substituted_wide around place (named_left lists state.candidates number) (with_lists lists state)
    by both_lists = refl
    by longer_list = refl
    by shorter_list = refl
    by no_list = refl

    go : (b : Bool) → elim b as (λ _. Named) [
      | true ↦ substituted_wide around place (named_in false state.candidates number) state
      | false ↦ listed_by (left_at place number state) around place number (with_lists (left_at place number state) state)
    ] ≡ substituted_wide around place (elim b [ true ↦ named_in false state.candidates number | false ↦ named_left (left_at place number state) state.candidates number ]) (with_lists (elim b [ true ↦ state.counting.lists | false ↦ left_at place number state ]) state)
    go true = refl
    go false = by (left_at place number state)
