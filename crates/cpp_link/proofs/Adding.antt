-- A part is made of what a production denotes, once the nodes for it have been added.
use Rattle.cpp_link.proofs.Basics.{◌≡◌, sym, ◌∙◌, ap, subst, arith, ℕ, Bool, ◌+◌, ◌<◌, ◌≤◌, List, length, Result, Ok, Err, IfOk, IfErr, OnOk, OnErr, IsErrAnd, err_from_is_err_and, Refusal, Memory, Term, tree_at, Linked, Part, Outcome, trees_in, value_in, value_of, outcome_value, IsThere, Grows, AddsNodes, nodes_of_outcome, KeepsRoom, LacksRoom}
use Rattle.cpp_term.specs.Values as values

at_most_two : (outcome : Outcome) → nodes_of_outcome outcome ≤ 2
unfolding nodes_of_outcome
at_most_two (Outcome.Given part) = omega arith
at_most_two (Outcome.There node listed) = omega arith
at_most_two (Outcome.Character letter value) = omega arith
at_most_two (Outcome.Enclosed first rest) = omega arith
at_most_two (Outcome.Applied name arguments) = omega arith
at_most_two _ = omega arith

module _ (s : List ℕ) (old new : Linked) (outcome : Outcome) where
  -- all that is known of a part that is made
  abbrev AddsPart : Result Part Refusal → Type 0
  AddsPart result = record {
    grows : Grows s old.nodes new.nodes 2;
    few : length new.nodes.nodes ≤ length old.nodes.nodes + nodes_of_outcome outcome;
    more : OnOk result (length new.nodes.nodes ≡ length old.nodes.nodes + nodes_of_outcome outcome);
    adjusts : OnOk result (length new.nodes.thunks + length old.nodes.nodes ≤ length old.nodes.thunks + length new.nodes.nodes);
    value : IfOk result (λ part. value_in s new.nodes part ≡ outcome_value s old.nodes outcome);
    there : IfOk result (λ part. IsThere s (length new.nodes.nodes) part);
    candidates : new.candidates ≡ old.candidates;
    packs : new.packs ≡ old.packs;
    counting : new.counting ≡ old.counting;
    memory : IfErr result (λ e. e ≡ Memory);
    keeps : KeepsRoom old new;
    full : OnErr result (LacksRoom old new);
  }

  module _ (count : ℕ) (counted : nodes_of_outcome outcome ≡ count) where
    grows_so : Grows s old.nodes new.nodes count → Grows s old.nodes new.nodes 2
    grows_so g = record {
      table = g.table;
      stays = g.stays;
      least = g.least;
      few = omega (arith, g.few, counted, at_most_two outcome);
      thunks = g.thunks;
      few_thunks = g.few_thunks;
    }

    -- there was no memory
    pub lacking : (result : Result Part Refusal) (e : Refusal) → IsErrAnd result (λ y. y ≡ e) → AddsNodes s old new count (Err e) → AddsPart result
    lacking result e is adds =
        let p = err_from_is_err_and result is in
        let passed : result ≡ Err e = p.1 ∙ ap (λ y. Err y) p.2 in
        let refused : AddsPart (Err e) =
        record {
          grows = grows_so adds.grows;
          few = omega (arith, adds.grows.few, counted);
          more = tt;
          adjusts = tt;
          value = tt;
          there = tt;
          candidates = adds.candidates;
          packs = adds.packs;
          counting = adds.counting;
          memory = adds.memory;
          keeps = adds.keeps;
          full = adds.full;
        } in
        subst (λ r. AddsPart r) (sym passed) refused

    module _ (number : ℕ) (adds : AddsNodes s old new count (Ok number)) where
      -- a part is made that denotes the outcome
      pub added : length new.nodes.thunks + length old.nodes.nodes ≤ length old.nodes.thunks + length new.nodes.nodes
          → (part : Part) → value_in s new.nodes part ≡ outcome_value s old.nodes outcome → IsThere s (length new.nodes.nodes) part → AddsPart (Ok part)
      added adjusts part same there = record {
        grows = grows_so adds.grows;
        few = omega (arith, adds.grows.few, counted);
        more = omega (arith, adds.more, counted);
        adjusts = adjusts;
        value = same;
        there = there;
        candidates = adds.candidates;
        packs = adds.packs;
        counting = adds.counting;
        memory = tt;
        keeps = adds.keeps;
        full = tt;
      }

      -- no thunk was added
      pub unadjusted : new.nodes.thunks ≡ old.nodes.thunks → length new.nodes.thunks + length old.nodes.nodes ≤ length old.nodes.thunks + length new.nodes.nodes
      unadjusted thunks = omega (arith, ap (λ held. length held) thunks, adds.grows.least)

      -- the part is the tree that was added last
      pub tree_added : length new.nodes.thunks + length old.nodes.nodes ≤ length old.nodes.thunks + length new.nodes.nodes
          → (tree : Term) (listed : Bool) → outcome_value s old.nodes outcome ≡ values.tree tree listed → tree_at (trees_in s new.nodes) number ≡ tree → AddsPart (Ok (Part.Tree number listed))
      unfolding value_of
      tree_added adjusts tree listed same is = added adjusts (Part.Tree number listed) (ap (λ t. values.tree t listed) is ∙ sym same) adds.there

      pub plain_tree_added : new.nodes.thunks ≡ old.nodes.thunks → (tree : Term) (listed : Bool) → outcome_value s old.nodes outcome ≡ values.tree tree listed
          → tree_at (trees_in s new.nodes) number ≡ tree → AddsPart (Ok (Part.Tree number listed))
      plain_tree_added thunks = tree_added (unadjusted thunks)

      -- the part is a pair, and the tree that was added last is one of the two
      pub pair_added : new.nodes.thunks ≡ old.nodes.thunks → (letter left right : ℕ) (first second : Term) → outcome_value s old.nodes outcome ≡ values.pair letter first second
          → left < length new.nodes.nodes → right < length new.nodes.nodes → tree_at (trees_in s new.nodes) left ≡ first → tree_at (trees_in s new.nodes) right ≡ second
          → AddsPart (Ok (Part.Pair letter left right))
      unfolding value_of
      pair_added thunks letter left right first second same left_there right_there left_is right_is =
          added (unadjusted thunks) (Part.Pair letter left right) (rw (left_is, right_is) (sym same)) (left_there, right_there)
