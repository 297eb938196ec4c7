-- The value of a substitution, by whether its candidate's free parameters may denote other arguments here.
use Rattle.cpp_link.proofs.Basics.{◌≡◌, refl, sym, ◌∙◌, ap, subst, ℕ, List, true, false, Option, Some, None, Result, Ok, Err, OnOk, Refusal, BadReference, Found, substituted, is_foreign, restated, with_lists, numbered, substituted_wide, both, Candidate as Noted, Lists, Linked, Part, lists_after, substituted_nodes, state_of, IsNamed, trees_in, candidate_of, MakesPart, maybe_candidate}
use Rattle.cpp_term.specs.Values.{Around, State, Candidate, Value}
use Rattle.cpp_link.specs.View.{GoesOn}
use Rattle.cpp_link.proofs.Held.{numbered_is}

abbrev Named : Type 0
Named = Result (Found Value State) Refusal

pub named_nothing : (around : Around) (place : ℕ) (state : State) → substituted_wide around place None state ≡ Err (BadReference place)
unfolding substituted_wide
named_nothing around place state = refl

module _ (around : Around) (place : ℕ) (c : Candidate) (state : State) where
  pub named_foreign : is_foreign around c ≡ true → substituted_wide around place (Some c) state ≡ restated around place c.tree state
  unfolding substituted_wide
  named_foreign is = ap (λ b. elim b as (λ _. Named) [ true ↦ restated around place c.tree state | false ↦ substituted around place (Some c) state ]) is

  pub named_here : is_foreign around c ≡ false → substituted_wide around place (Some c) state ≡ substituted around place (Some c) state
  unfolding substituted_wide
  named_here is = ap (λ b. elim b as (λ _. Named) [ true ↦ restated around place c.tree state | false ↦ substituted around place (Some c) state ]) is

  pub foreign_nodes : is_foreign around c ≡ true → substituted_nodes around (Some c) ≡ 1
  unfolding substituted_nodes
  foreign_nodes is = ap (λ b. elim b as (λ _. ℕ) [ true ↦ 1 | false ↦ 0 ]) is

  pub no_nodes : is_foreign around c ≡ false → substituted_nodes around (Some c) ≡ 0
  unfolding substituted_nodes
  no_nodes is = ap (λ b. elim b as (λ _. ℕ) [ true ↦ 1 | false ↦ 0 ]) is

-- ## By two lists

module _ (s : List ℕ) (l : Linked) (around : Around) (place number : ℕ) (lists : Lists) where
  abbrev pub relisted : Linked
  relisted = record l { counting = record l.counting { lists = lists } }

  pub named_by_some : (c : Noted) (o : Option Noted) → IsNamed s l place number o lists → o ≡ Some c → numbered around place number (state_of s l) ≡ substituted_wide around place (Some (candidate_of (trees_in s l.nodes) c)) (state_of s relisted)
  unfolding maybe_candidate with_lists
  named_by_some c o named is =
      let some = subst (λ x. IsNamed s l place number x lists) is named in
      numbered_is around place number (state_of s l) ∙ both (λ x y. substituted_wide around place x (with_lists y (state_of s l))) (sym some.is) (sym some.lists)

  pub named_by_none : (o : Option Noted) → IsNamed s l place number o lists → o ≡ None → numbered around place number (state_of s l) ≡ Err (BadReference place)
  unfolding maybe_candidate
  named_by_none o named is =
      let none = subst (λ x. IsNamed s l place number x lists) is named in
      numbered_is around place number (state_of s l) ∙ ap (λ x. substituted_wide around place x (with_lists (lists_after place number (state_of s l)) (state_of s l))) (sym none.is) ∙ named_nothing around place (with_lists (lists_after place number (state_of s l)) (state_of s l))

  -- a part that is made after the lists were chosen is also made from the state before the choice
  pub made_relisted : (new : Linked) (most count : ℕ) (result : Result Part Refusal) → MakesPart s relisted new most count result → MakesPart s l new most count result
  made_relisted new most count result made = record {
    there = made.there;
    grows = go result made.grows;
    few = made.few;
    makes = made.makes;
    paid = made.paid;
    whole = made.whole;
    keeps = record { nodes = made.keeps.nodes; thunks = made.keeps.thunks; candidates = made.keeps.candidates };
    full = made.full;
  }
    where
      go : (r : Result Part Refusal) → OnOk r (GoesOn s relisted new) → OnOk r (GoesOn s l new)
      go (Ok x) g = record { least = g.least; stays = g.stays }
      go (Err e) g = tt
