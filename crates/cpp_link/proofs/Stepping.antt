-- A step is taken as the reading says.
use Rattle.cpp_link.proofs.Basics.{◌≡◌, refl, sym, ◌∙◌, ap, subst, add-one, arith, ℕ, zero, suc, ◌+◌, ◌<◌, ◌≤◌, Bool, true, false, List, [], ◌∷◌, ◌++◌, length, take, drop, get_or, Option, Some, None, Result, Ok, Err, IfOk, Refusal, Production, Term, State, Value, Around, Continuation, Stored, over, tree_at, IsTable, Node, Linked, Part, Surroundings, Step, Candidates, by_all, Grows, state_of, made_before, owes_of, pack_makes, closes_of, quiet_owed, made_owed, closes_pushed, closes_behind, closes_made, trees_in, tree_of_node, value_of, values_of, values_in, around_of, candidates_of, AreThere, IsKeptThere, AreCandidatesThere, behind_first, named_if, appended_if, with_candidate, goes_on, values_stay, around_stays, candidates_stay, IsStepOf, Takes, nodes_of_step}
use Rattle.cpp_term.specs.Values as values
use Rattle.cpp_link.proofs.Making.{parts_more}

-- ## Nodes that steps make

-- if a production makes a node after its first part, any step taken there is a step of the production
pub first_steps : (p : Production) (result : Result Step Refusal) → get_or (made_before p) 1 0 ≡ 1 → IfOk result (λ step. IsStepOf p 1 step)
first_steps p (Err e) one = tt
first_steps p (Ok (Step.Go candidate then packs)) one = tt
first_steps p (Ok (Step.Named node listed is_name)) one = omega arith
first_steps p (Ok (Step.Made node listed is_name is_candidate packs)) one = (omega arith, one)

-- what a production owes pays for the nodes of a step
pub step_owed : (p : Production) (held : ℕ) (step : Step) → IsStepOf p held step → nodes_of_step step + owes_of p (suc held) ≤ owes_of p held
step_owed p held (Step.Go candidate then packs) of = omega (arith, quiet_owed p held)
step_owed p held (Step.Named node listed is_name) of = omega (arith, quiet_owed p held)
step_owed p held (Step.Made node listed is_name is_candidate packs) of = made_owed p held of.1

-- ## Parts

-- the values of the parts after the first
rest_values : (s : List ℕ) (ts : List Term) (base : ℕ) (parts : List Part) → behind_first (values_of s ts (drop base parts)) ≡ values_of s ts (drop (suc base) parts)
unfolding behind_first values_of
rest_values s ts zero [] = refl
rest_values s ts zero (p ∷ ps) = refl
rest_values s ts (suc base) [] = refl
rest_values s ts (suc base) (p ∷ ps) = rest_values s ts base ps

rest_there : (s : List ℕ) (n base : ℕ) (parts : List Part) → AreThere s n (drop base parts) → AreThere s n (drop (suc base) parts)
rest_there s n zero [] there = tt
rest_there s n zero (p ∷ ps) there = there.1
rest_there s n (suc base) [] there = tt
rest_there s n (suc base) (p ∷ ps) there = rest_there s n base ps there

-- the tree that is now the first part exists, and so do the parts after it
first_there : (s : List ℕ) (n base : ℕ) (parts new_parts : List Part) (node : ℕ) (listed : Bool) → AreThere s n (drop base parts) → node < n
    → drop base new_parts ≡ Part.Tree node listed ∷ drop (base + 1) parts → AreThere s n (drop base new_parts)
first_there s n base parts new_parts node listed there less own =
    let after_one : base + 1 ≡ suc base = omega arith in
    rw (own, after_one) (less, rest_there s n base parts there)

first_values : (s : List ℕ) (ts : List Term) (base : ℕ) (parts new_parts : List Part) (node : ℕ) (listed : Bool)
    → drop base new_parts ≡ Part.Tree node listed ∷ drop (base + 1) parts
    → values.tree (tree_at ts node) listed ∷ behind_first (values_of s ts (drop base parts)) ≡ values_of s ts (drop base new_parts)
unfolding value_of values_of
first_values s ts base parts new_parts node listed own =
    let after_one : suc base ≡ base + 1 = omega arith in
    ap (λ vs. values.tree (tree_at ts node) listed ∷ vs) (rest_values s ts base parts ∙ ap (λ k. values_of s ts (drop k parts)) after_one)
    ∙ ap (λ ps. values_of s ts ps) (sym own)

abbrev going : List Value → Around → State → Continuation
going vs around state = Ok (record { values = vs; context = around; state = state })

same_going : (vs ws : List Value) (a b : Around) (x y : State) → vs ≡ ws → a ≡ b → x ≡ y
    → going vs a x ≡ going ws b y
same_going vs ws a b x y values context state = rw (values, context, state) refl

-- ## Steps that are taken

grown : (s : List ℕ) (y z : Stored) → IsTable (over s y) → z ≡ y → Grows s y z 0
grown s y z table same = rw same (record { table = table; stays = λ i less. refl; least = omega arith; few = omega arith; thunks = omega arith; few_thunks = omega arith })

-- no node is made; a tree may become a candidate
pub takes_go : (s : List ℕ) (old new : Linked) (kept : Surroundings) (base : ℕ) (parts : List Part) (candidate : Option ℕ) (then : Surroundings) (packs : Option ℕ)
    → IsTable (over s old.nodes) → new.nodes ≡ old.nodes → AreCandidatesThere (length old.nodes.nodes) new.candidates
    → IsKeptThere (length old.nodes.nodes) then → AreThere s (length old.nodes.nodes) (drop base parts)
    → with_candidate by_all (around_of (trees_in s old.nodes) kept) (trees_in s old.nodes) candidate (record (state_of s old) { packs = packs }) ≡ state_of s new
    → Takes s old new kept base parts parts (Step.Go candidate then packs) then
unfolding goes_on
takes_go s old new kept base parts candidate then packs table same candidates around there is = record {
  grows = grown s old.nodes new.nodes table same;
  thunks = ap (λ y. y.thunks) same;
  candidates = rw same candidates;
  around = rw same around;
  there = rw same there;
  lower = refl;
  count = refl;
  is = same_going _ _ _ _ _ _ (ap (λ y. values_in s y (drop base parts)) (sym same)) (ap (λ y. around_of (trees_in s y) then) (sym same)) is;
}

-- the first part becomes an existing tree, which may precede the next part as the name so far
pub takes_named : (s : List ℕ) (l : Linked) (kept then : Surroundings) (base : ℕ) (parts new_parts : List Part) (node : ℕ) (listed is_name : Bool)
    → IsTable (over s l.nodes) → AreCandidatesThere (length l.nodes.nodes) l.candidates
    → AreThere s (length l.nodes.nodes) (drop base parts) → node < length l.nodes.nodes
    → around_of (trees_in s l.nodes) then ≡ named_if is_name (around_of (trees_in s l.nodes) kept) (tree_at (trees_in s l.nodes) node) listed → IsKeptThere (length l.nodes.nodes) then
    → drop base new_parts ≡ Part.Tree node listed ∷ drop (base + 1) parts → take base new_parts ≡ take base parts → length new_parts ≡ length parts
    → Takes s l l kept base parts new_parts (Step.Named node listed is_name) then
unfolding goes_on
takes_named s l kept then base parts new_parts node listed is_name table candidates there less around around_there own lower count = record {
  grows = grown s l.nodes l.nodes table refl;
  thunks = refl;
  candidates = candidates;
  around = around_there;
  there = first_there s _ base parts new_parts node listed there less own;
  lower = lower;
  count = count;
  is = same_going _ _ _ _ _ _ (first_values s (trees_in s l.nodes) base parts new_parts node listed own) (sym around) refl;
}

-- likewise with the tree of a node that has been made
pub takes_made : (s : List ℕ) (old new : Linked) (kept then : Surroundings) (base : ℕ) (parts new_parts : List Part) (node : Node) (number : ℕ) (listed is_name is_candidate : Bool) (packs : Option ℕ)
    → Grows s old.nodes new.nodes 1 → new.nodes.thunks ≡ old.nodes.thunks → AreCandidatesThere (length new.nodes.nodes) new.candidates
    → IsKeptThere (length old.nodes.nodes) kept → AreThere s (length old.nodes.nodes) (drop base parts)
    → tree_at (trees_in s new.nodes) number ≡ tree_of_node s old.nodes node → number < length new.nodes.nodes
    → around_of (trees_in s new.nodes) then ≡ named_if is_name (around_of (trees_in s new.nodes) kept) (tree_at (trees_in s new.nodes) number) listed → IsKeptThere (length new.nodes.nodes) then
    → drop base new_parts ≡ Part.Tree number listed ∷ drop (base + 1) parts → take base new_parts ≡ take base parts → length new_parts ≡ length parts
    → appended_if is_candidate (around_of (trees_in s old.nodes) kept) (tree_of_node s old.nodes node)
    (record (state_of s old) { packs = packs }) ≡ state_of s new
    → Takes s old new kept base parts new_parts (Step.Made node listed is_name is_candidate packs) then
unfolding goes_on
takes_made s old new kept then base parts new_parts node number listed is_name is_candidate packs grows thunks candidates kept_there there tree less around around_there own lower count state = record {
  grows = grows;
  thunks = thunks;
  candidates = candidates;
  around = around_there;
  there = first_there s _ base parts new_parts number listed (parts_more s _ _ (drop base parts) grows.least there) less own;
  lower = lower;
  count = count;
  is = same_going _ _ _ _ _ _
      (ap (λ u. values.tree u listed ∷ behind_first (values_in s old.nodes (drop base parts))) (sym tree)
      ∙ ap (λ vs. values.tree (tree_at (trees_in s new.nodes) number) listed ∷ behind_first vs) (sym (values_stay s old.nodes new.nodes grows.stays (drop base parts) there))
      ∙ first_values s (trees_in s new.nodes) base parts new_parts number listed own)
      (ap (λ a. named_if is_name a (tree_of_node s old.nodes node) listed) (sym (around_stays s old.nodes new.nodes grows.stays kept kept_there))
      ∙ ap (λ t. named_if is_name (around_of (trees_in s new.nodes) kept) t listed) (sym tree) ∙ sym around) state;
}

pub taken_as : (s : List ℕ) (old new : Linked) (kept : Surroundings) (base : ℕ) (parts new_parts : List Part) (step taken : Step) (then left : Surroundings) → taken ≡ step → left ≡ then
    → Takes s old new kept base parts new_parts step then → Takes s old new kept base parts new_parts taken left
taken_as s old new kept base parts new_parts step taken then left same is takes = rw (same, is) takes

-- ## A node that may become a candidate

choice : (a : Around) (ts : List Term) (number : ℕ) (state : State) (b : Bool) → appended_if b a (tree_at ts number) state ≡ with_candidate by_all a ts (elim b [ true ↦ Some number | false ↦ None ]) state
unfolding appended_if with_candidate
choice a ts number state false = refl
choice a ts number state true = refl

pub noted_is : (s : List ℕ) (y z : Stored) (kept : Surroundings) (cs : Candidates) (number : ℕ) (t : Term) (is_candidate : Bool) (candidate : Option ℕ) (before state : State)
    → ((i : ℕ) → i < length y.nodes → tree_at (trees_in s z) i ≡ tree_at (trees_in s y) i)
    → IsKeptThere (length y.nodes) kept → AreCandidatesThere (length y.nodes) cs → tree_at (trees_in s z) number ≡ t
    → candidate ≡ elim is_candidate [ true ↦ Some number | false ↦ None ]
    → with_candidate by_all (around_of (trees_in s z) kept) (trees_in s z) candidate (record before { candidates = candidates_of (trees_in s z) cs.list.items }) ≡ state
    → appended_if is_candidate (around_of (trees_in s y) kept) t (record before { candidates = candidates_of (trees_in s y) cs.list.items }) ≡ state
noted_is s y z kept cs number t is_candidate candidate before state stays there listed tree chosen is =
    same is_candidate _ _ _ _ _ _ (sym (around_stays s y z stays kept there)) (sym tree) (sym (candidates_stay s y z stays cs listed))
    ∙ choice (around_of (trees_in s z) kept) (trees_in s z) number (record before { candidates = candidates_of (trees_in s z) cs.list.items }) is_candidate
    ∙ ap (λ o. with_candidate by_all (around_of (trees_in s z) kept) (trees_in s z) o (record before { candidates = candidates_of (trees_in s z) cs.list.items })) (sym chosen) ∙ is
  where
    same : (b : Bool) (a c : Around) (t u : Term) (cs ds : List values.Candidate) → a ≡ c → t ≡ u → cs ≡ ds
        → appended_if b a t (record before { candidates = cs }) ≡ appended_if b c u (record before { candidates = ds })
    same b a c t u cs ds around tree candidates = rw (around, tree, candidates) refl

-- ## How many nodes are made

first_of : (base : ℕ) (parts : List Part) → 0 < length (drop base parts) → (first : Part) × (drop base parts ≡ first ∷ drop (base + 1) parts)
first_of base parts some = rw add-one (go base parts some)
  where
    go : (base : ℕ) (parts : List Part) → 0 < length (drop base parts) → (first : Part) × (drop base parts ≡ first ∷ drop (suc base) parts)
    go zero [] some = absurd (omega (arith, some))
    go zero (p ∷ ps) some = (p, refl)
    go (suc base) [] some = absurd (omega (arith, some))
    go (suc base) (p ∷ ps) some = go base ps some

pub pack_there : (first : Part) → (first ≡ Part.Nothing → ⊥) → pack_makes first ≡ 1
unfolding pack_makes
pack_there Part.Nothing some = absurd (some refl)
pack_there first some = refl

first_rest : (first part : Part) (rest : List Part) → first ≡ part → rest ≡ [] → first ∷ rest ≡ part ∷ []
first_rest first part rest is none = rw (is, none) refl

-- no node is made, and the parts stay
pub go_counts : (p : Production) (old new : Linked) (own : List Part) → new.nodes ≡ old.nodes → length new.nodes.nodes + closes_of p (own ++ Part.Nothing ∷ []) ≤ length old.nodes.nodes + closes_of p own
go_counts p old new own same = omega (arith, closes_pushed p own, ap (λ y. length y.nodes) same)

-- the first part is replaced
pub named_counts : (p : Production) (l : Linked) (base : ℕ) (parts new_parts : List Part) (part : Part) → 0 < length (drop base parts) → drop base new_parts ≡ part ∷ drop (base + 1) parts
    → length l.nodes.nodes + closes_of p (drop base new_parts ++ Part.Nothing ∷ []) ≤ length l.nodes.nodes + closes_of p (drop base parts)
named_counts p l base parts new_parts part some own =
    let split = first_of base parts some in
    rw (own, split.1) (omega (arith, closes_behind p split.0 part (drop (base + 1) parts)))

-- the first part is replaced by a node that has been made
pub made_counts : (p : Production) (old new : Linked) (base : ℕ) (parts new_parts : List Part) (part : Part) → 0 < length (drop base parts) → get_or (made_before p) (length (drop base parts)) 0 ≡ 1
    → (p ≡ Production.PackArgument → drop base parts ≡ Part.Nothing ∷ [] → ⊥) → length new.nodes.nodes ≤ length old.nodes.nodes + 1
    → drop base new_parts ≡ part ∷ drop (base + 1) parts
    → length new.nodes.nodes + closes_of p (drop base new_parts ++ Part.Nothing ∷ []) ≤ length old.nodes.nodes + closes_of p (drop base parts)
made_counts p old new base parts new_parts part some one no_pack more own =
    let split = first_of base parts some in
    let rest = drop (base + 1) parts in
    let counts = closes_made p split.0 part rest (subst (λ ps. get_or (made_before p) (length ps) 0 ≡ 1) split.1 one)
    (λ is none. pack_there split.0 (λ nothing. no_pack is (split.1 ∙ first_rest split.0 Part.Nothing rest nothing none))) in
    rw (own, split.1) (omega (arith, counts, more))

-- likewise where making the node is refused
pub made_refused : (p : Production) (old new : Linked) (base : ℕ) (parts : List Part) → 0 < length (drop base parts) → get_or (made_before p) (length (drop base parts)) 0 ≡ 1
    → (p ≡ Production.PackArgument → drop base parts ≡ Part.Nothing ∷ [] → ⊥) → length new.nodes.nodes ≤ length old.nodes.nodes + 1
    → length new.nodes.nodes ≤ length old.nodes.nodes + closes_of p (drop base parts)
made_refused p old new base parts some one no_pack more =
    let split = first_of base parts some in
    let again : drop base parts ≡ split.0 ∷ drop (base + 1) parts = split.1 in
    omega (arith, made_counts p old new base parts parts split.0 some one no_pack more again)

-- a pack without elements makes no node
pub none_made : (result : Result Step Refusal) (first : Part) → first ≡ Part.Nothing → IfOk result (λ step. nodes_of_step step ≡ pack_makes first) → IfOk result (λ step. nodes_of_step step ≡ 0)
unfolding pack_makes
none_made (Ok step) first none makes = makes ∙ ap pack_makes none
none_made (Err e) first none makes = tt
