-- What an `S` names in two lists.
use Rattle.cpp_link.proofs.Basics.{◌≡◌, refl, sym, ◌∙◌, ap, subst, arith, ℕ, zero, suc, ◌+◌, ◌<◌, ◌≤◌, ◌⊎◌, inl, inr, List, [], ◌∷◌, length, Bool, true, false, Option, Some, None, slice_get, nat_eq, MatchOption, IfSome, false≢true, eqb-true, eq-eqb, ne_eqb, both_lists, longer_list, shorter_list, no_list, by_all, is_by_all, is_by_some, left_by, Term, State, place_in, named_in, named_by_both, counted_so_far, can_be_named, has_head, left_at, both, Candidate, candidate_at, candidate_there, Lists, Linked, lists_after, named_left, named_after, state_of, IsNamed, trees_in, candidates_of, AreNodesThere, maybe_candidate}
use Rattle.cpp_grammar.specs.Values as plain
use Rattle.cpp_term.specs.Values as values
use Rattle.cpp_link.specs.Counting.{marks, lists_of, expected_of, is_one_place, IsCounted}
use Rattle.cpp_link.proofs.Listed.{one_place, place_same, place_behind, so_far_same}

none_at : {X : Type 0} (xs : List X) (k : ℕ) → length xs ≤ k → slice_get xs k ≡ None
none_at [] k past = refl
none_at (x ∷ xs) zero past = absurd (omega (arith, past))
none_at (x ∷ xs) (suc k) past = none_at xs k (omega (arith, past))

past_at : {X : Type 0} (xs : List X) (k : ℕ) → slice_get xs k ≡ None → length xs ≤ k
past_at [] k none = omega arith
past_at (x ∷ xs) zero none = absurd cc
past_at (x ∷ xs) (suc k) none = omega (arith, past_at xs k none)

some_all : {X : Type 0} (o : Option X) (P : Type 0) → P → IfSome o (λ x. P)
some_all None P p = tt
some_all (Some x) P p = p

-- the candidate of the list that remains
abbrev pub picked : Lists → (longer shorter : Option Candidate) → Option Candidate
picked Lists.Longer longer shorter = longer
picked Lists.Shorter longer shorter = shorter
picked _ longer shorter = None

module _ (s : List ℕ) (l : Linked) (place number : ℕ) where
  abbrev items : List Candidate
  items = l.candidates.list.items

  abbrev ts : List Term
  ts = trees_in s l.nodes

  abbrev cs : List values.Candidate
  cs = candidates_of ts items

  abbrev state : State
  state = state_of s l

  abbrev at : (is_shorter : Bool) → ℕ
  at is_shorter = place_in is_shorter (marks items) number

  abbrev pub IsAt : (is_shorter : Bool) → Option ℕ → Type 0
  IsAt is_shorter o = MatchOption o (length items ≤ at is_shorter) (λ p. (p ≡ at is_shorter) × (p < length items))

  at_is : (is_shorter : Bool) → place_in is_shorter cs number ≡ at is_shorter
  at_is is_shorter = place_same is_shorter ts [] items number

  -- the candidate that has the number in a list
  at_named : (is_shorter : Bool) (c : Option Candidate) → c ≡ slice_get items (at is_shorter) → maybe_candidate ts c ≡ named_in is_shorter cs number
  unfolding named_in
  at_named is_shorter c is = ap (λ o. maybe_candidate ts o) is ∙ candidate_at ts items (at is_shorter) ∙ ap (λ k. slice_get cs k) (sym (at_is is_shorter))

  past_named : (is_shorter : Bool) → length items ≤ at is_shorter → named_in is_shorter cs number ≡ None
  unfolding maybe_candidate
  past_named is_shorter past = sym (at_named is_shorter None (sym (none_at items (at is_shorter) past)))

  -- where both lists have the same place
  alike : at false ≡ at true → nat_eq (place_in false cs number) (place_in true cs number) ≡ true
  alike same = eq-eqb _ _ (at_is false ∙ same ∙ sym (at_is true))

  alike_named : at false ≡ at true → named_after place number state ≡ named_in false cs number
  unfolding named_after
  alike_named same = ap (λ b. elim b as (λ _. Option values.Candidate) [ true ↦ named_in false cs number | false ↦ named_left (left_at place number state) cs number ]) (alike same)

  alike_lists : at false ≡ at true → lists_after place number state ≡ state.counting.lists
  unfolding lists_after
  alike_lists same = ap (λ b. elim b as (λ _. plain.Lists) [ true ↦ state.counting.lists | false ↦ left_at place number state ]) (alike same)

  -- where they have different places
  apart : (at false ≡ at true → ⊥) → nat_eq (place_in false cs number) (place_in true cs number) ≡ false
  apart other = ne_eqb _ _ (λ same. other (sym (at_is false) ∙ same ∙ at_is true))

  apart_named : (at false ≡ at true → ⊥) → named_after place number state ≡ named_left (left_at place number state) cs number
  unfolding named_after
  apart_named other = ap (λ b. elim b as (λ _. Option values.Candidate) [ true ↦ named_in false cs number | false ↦ named_left (left_at place number state) cs number ]) (apart other)

  apart_lists : (at false ≡ at true → ⊥) → lists_after place number state ≡ left_at place number state
  unfolding lists_after
  apart_lists other = ap (λ b. elim b as (λ _. plain.Lists) [ true ↦ state.counting.lists | false ↦ left_at place number state ]) (apart other)

  -- where neither has a place
  none_named : length items ≤ at false → length items ≤ at true → named_after place number state ≡ None
  unfolding named_after named_left
  none_named longer shorter = go (nat_eq (place_in false cs number) (place_in true cs number))
    where
      by : (lists : plain.Lists) → named_left lists cs number ≡ None
      by both_lists = refl
      by longer_list = past_named false longer
      by shorter_list = past_named true shorter
      by no_list = refl

      go : (b : Bool) → elim b as (λ _. Option values.Candidate) [ true ↦ named_in false cs number | false ↦ named_left (left_at place number state) cs number ] ≡ None
      go true = past_named false longer
      go false = by (left_at place number state)

  same_place : (o p : Option ℕ) → IsAt false o → IsAt true p → is_one_place o p ≡ true → at false ≡ at true
  unfolding is_one_place
  same_place (Some a) (Some b) longer shorter is = sym longer.0 ∙ eqb-true a b is ∙ shorter.0
  same_place (Some a) None longer shorter is = absurd (false≢true is)
  same_place None p longer shorter is = absurd (false≢true is)

  other_place : (o p : Option ℕ) → IsAt false o → IsAt true p → is_one_place o p ≡ false → (at false ≡ at true → ⊥) ⊎ ((length items ≤ at false) × (length items ≤ at true))
  unfolding is_one_place
  other_place (Some a) (Some b) longer shorter is = inl (λ same. false≢true (sym is ∙ eq-eqb a b (longer.0 ∙ same ∙ sym shorter.0)))
  other_place (Some a) None longer shorter is = inl (λ same. omega (arith, longer.0, longer.1, shorter, same))
  other_place None (Some b) longer shorter is = inl (λ same. omega (arith, shorter.0, shorter.1, longer, same))
  other_place None None longer shorter is = inr (longer, shorter)

  -- the candidate that both lists name by the number, and its node
  abbrev pub IsBoth : Option Candidate → Type 0
  IsBoth c = (maybe_candidate ts c ≡ named_by_both cs number) × IfSome c (λ d. d.node < length l.nodes.nodes)

  both_is : at false ≡ at true → (c : Option Candidate) → c ≡ slice_get items (at false) → maybe_candidate ts c ≡ named_by_both cs number
  unfolding named_by_both
  both_is same c is = at_named false c is ∙ sym (ap (λ b. elim b as (λ _. Option values.Candidate) [ true ↦ named_in false cs number | false ↦ None ]) (alike same))

  both_none : (at false ≡ at true → ⊥) ⊎ ((length items ≤ at false) × (length items ≤ at true)) → maybe_candidate ts None ≡ named_by_both cs number
  unfolding named_by_both maybe_candidate
  both_none (inl other) = sym (ap (λ b. elim b as (λ _. Option values.Candidate) [ true ↦ named_in false cs number | false ↦ None ]) (apart other))
  both_none (inr past) = sym (go (nat_eq (place_in false cs number) (place_in true cs number)))
    where
      go : (b : Bool) → elim b as (λ _. Option values.Candidate) [ true ↦ named_in false cs number | false ↦ None ] ≡ None
      go true = past_named false past.0
      go false = refl

  module _ (there : AreNodesThere (length l.nodes.nodes) items) where
    there_at : (c : Option Candidate) (k : ℕ) → c ≡ slice_get items k → IfSome c (λ d. d.node < length l.nodes.nodes)
    there_at c k is = subst (λ o. IfSome o (λ d. d.node < length l.nodes.nodes)) (sym is) (candidate_there _ items k there)

    -- both lists name the same candidate
    pub named_alike : (c : Option Candidate) → c ≡ slice_get items (at false) → at false ≡ at true → IsNamed s l place number c l.counting.lists
    named_alike c is same = record {
      is = at_named false c is ∙ sym (alike_named same);
      lists = some_all c (lists_of l.counting.lists ≡ lists_after place number state) (sym (alike_lists same));
      there = there_at c (at false) is;
    }

    pub named_one : (o p : Option ℕ) (c : Option Candidate) → IsAt false o → IsAt true p → c ≡ slice_get items (at false) → is_one_place o p ≡ true → IsNamed s l place number c l.counting.lists
    named_one o p c longer shorter is one = named_alike c is (same_place o p longer shorter one)

    -- all compilers count alike
    pub named_first : IsCounted l.candidates → is_by_all (counted_so_far by_all (marks items)) ≡ true → (c : Option Candidate) → c ≡ slice_get items number → IsNamed s l place number c l.counting.lists
    named_first counted all c is =
        let first = one_place false (marks items) number all in
        let second = one_place true (marks items) number all in
        named_alike c (is ∙ ap (λ k. slice_get items k) (sym first)) (first ∙ sym second)

    -- neither list has a candidate of this number
    pub named_past : (lists : Lists) → length items ≤ number → IsNamed s l place number None lists
    unfolding maybe_candidate
    named_past lists past = record {
      is = sym (none_named (omega (arith, past, place_behind false (marks items) number)) (omega (arith, past, place_behind true (marks items) number)));
      lists = tt;
      there = tt;
    }

    -- neither list has that many candidates
    pub named_nowhere : (bound : ℕ) → bound ≤ number → (c : Option Candidate) → ((n : ℕ) → bound ≤ n → c ≡ slice_get items n) → (lists : Lists) → IsNamed s l place number c lists
    named_nowhere bound past c at lists =
        let nothing : c ≡ None = at (number + length items) (omega (arith, past)) ∙ none_at items (number + length items) (omega arith) in
        subst (λ o. IsNamed s l place number o lists) (sym nothing) (named_past lists (past_at items number (sym (at number past) ∙ nothing)))

    -- the lists that remain, given the two candidates
    abbrev left_of : (longer shorter : Option values.Candidate) → plain.Lists
    left_of longer shorter =
        left_by state.counting.lists (can_be_named state.counting.expected place longer) (can_be_named state.counting.expected place shorter)
        (has_head state.counting.expected place longer) (has_head state.counting.expected place shorter)

    -- no compiler has the longer list
    pub named_none : (o p : Option ℕ) → IsAt false o → IsAt true p → is_one_place o p ≡ false → is_by_some (counted_so_far by_all (marks items)) ≡ true → IsNamed s l place number None Lists.Neither
    unfolding maybe_candidate left_at named_left
    named_none o p longer shorter two some = record { is = sym (go (other_place o p longer shorter two)); lists = tt; there = tt }
      where
        go : (at false ≡ at true → ⊥) ⊎ ((length items ≤ at false) × (length items ≤ at true)) → named_after place number state ≡ None
        go (inl other) =
            apart_named other ∙ ap (λ b. named_left (elim b as (λ _. plain.Lists) [
              | true ↦ no_list
              | false ↦ left_of (named_in false cs number) (named_in true cs number)
            ]) cs number) (ap is_by_some (so_far_same ts [] by_all items) ∙ some)
        go (inr past) = none_named past.0 past.1

    -- one list remains, or none
    pub named_by_one : (o p : Option ℕ) (first second : Option Candidate) (fits_longer fits_shorter has_longer has_shorter : Bool) (lists : Lists) → IsAt false o → IsAt true p → is_one_place o p ≡ false
        → is_by_some (counted_so_far by_all (marks items)) ≡ false → first ≡ slice_get items (at false) → second ≡ slice_get items (at true)
        → fits_longer ≡ can_be_named (expected_of l.counting.expected) place (maybe_candidate ts first) → fits_shorter ≡ can_be_named (expected_of l.counting.expected) place (maybe_candidate ts second)
        → has_longer ≡ has_head (expected_of l.counting.expected) place (maybe_candidate ts first) → has_shorter ≡ has_head (expected_of l.counting.expected) place (maybe_candidate ts second)
        → lists_of lists ≡ left_by (lists_of l.counting.lists) fits_longer fits_shorter has_longer has_shorter → IsNamed s l place number (picked lists first second) lists
    unfolding left_at named_left lists_of maybe_candidate
    named_by_one o p first second fits_longer fits_shorter has_longer has_shorter lists longer shorter two known first_is second_is longer_fits shorter_fits longer_has shorter_has is = go (other_place o p longer shorter two)
      where
        left_is : left_at place number state ≡ lists_of lists
        left_is =
            ap (λ b. elim b as (λ _. plain.Lists) [
              | true ↦ no_list
              | false ↦ left_of (named_in false cs number) (named_in true cs number)
            ]) (ap is_by_some (so_far_same ts [] by_all items) ∙ known)
            ∙ both left_of (sym (at_named false first first_is)) (sym (at_named true second second_is))
            ∙ both (λ a b. left_by state.counting.lists a b (has_head state.counting.expected place (maybe_candidate ts first)) (has_head state.counting.expected place (maybe_candidate ts second))) (sym longer_fits) (sym shorter_fits)
            ∙ both (λ a b. left_by state.counting.lists fits_longer fits_shorter a b) (sym longer_has) (sym shorter_has) ∙ sym is

        taken : (x : Lists) → maybe_candidate ts (picked x first second) ≡ named_left (lists_of x) cs number
        taken Lists.Longer = at_named false first first_is
        taken Lists.Shorter = at_named true second second_is
        taken Lists.Both = refl
        taken Lists.Neither = refl

        taken_there : (x : Lists) → IfSome (picked x first second) (λ d. d.node < length l.nodes.nodes)
        taken_there Lists.Longer = there_at first (at false) first_is
        taken_there Lists.Shorter = there_at second (at true) second_is
        taken_there Lists.Both = tt
        taken_there Lists.Neither = tt

        no_candidate : (x : Lists) → length items ≤ at false → length items ≤ at true → picked x first second ≡ None
        no_candidate Lists.Longer a b = first_is ∙ none_at items (at false) a
        no_candidate Lists.Shorter a b = second_is ∙ none_at items (at true) b
        no_candidate Lists.Both a b = refl
        no_candidate Lists.Neither a b = refl

        go : (at false ≡ at true → ⊥) ⊎ ((length items ≤ at false) × (length items ≤ at true)) → IsNamed s l place number (picked lists first second) lists
        go (inl other) = record {
          is = taken lists ∙ ap (λ x. named_left x cs number) (sym left_is) ∙ sym (apart_named other);
          lists = some_all (picked lists first second) (lists_of lists ≡ lists_after place number state) (sym left_is ∙ sym (apart_lists other));
          there = taken_there lists;
        }
        go (inr past) =
            let nothing = no_candidate lists past.0 past.1 in
            subst (λ c. IsNamed s l place number c lists) (sym nothing) (nowhere past.0 past.1)
          where
            nowhere : length items ≤ at false → length items ≤ at true → IsNamed s l place number None lists
            nowhere a b = record { is = sym (none_named a b); lists = tt; there = tt }

    -- what both lists name, where all compilers count alike
    pub both_first : IsCounted l.candidates → is_by_all (counted_so_far by_all (marks items)) ≡ true → (c : Option Candidate) → c ≡ slice_get items number → IsBoth c
    both_first counted all c is =
        let first = one_place false (marks items) number all in
        let second = one_place true (marks items) number all in (both_is (first ∙ sym second) c (is ∙ ap (λ k. slice_get items k) (sym first)), there_at c number is)

    -- both lists name one candidate if the number has the same place in both
    pub both_one : (o p : Option ℕ) (c : Option Candidate) → IsAt false o → IsAt true p → c ≡ slice_get items (at false) → is_one_place o p ≡ true → IsBoth c
    both_one o p c longer shorter is one = (both_is (same_place o p longer shorter one) c is, there_at c (at false) is)

    pub both_two : (o p : Option ℕ) → IsAt false o → IsAt true p → is_one_place o p ≡ false → IsBoth None
    both_two o p longer shorter two = (both_none (other_place o p longer shorter two), tt)

    -- neither list has that many candidates
    pub both_nowhere : (bound : ℕ) → bound ≤ number → (c : Option Candidate) → ((n : ℕ) → bound ≤ n → c ≡ slice_get items n) → IsBoth None
    both_nowhere bound past c named =
        let nothing : c ≡ None = named (number + length items) (omega (arith, past)) ∙ none_at items (number + length items) (omega arith) in
        let few : length items ≤ number = past_at items number (sym (named number past) ∙ nothing) in
        (both_none (inr (omega (arith, few, place_behind false (marks items) number), omega (arith, few, place_behind true (marks items) number))), tt)
