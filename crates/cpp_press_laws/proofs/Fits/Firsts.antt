-- The name so far between N and E fits after its first part: a piece, a parameter, an abbreviation or what a reference names.
use Rattle.cpp_press_laws.proofs.Basics.{◌≡◌, ℕ, ◌⊎◌, inl, inr, List, Option, Bool, true, false, refl, sym, subst, Kind, Term, symbol, instance, abbreviation, parameter, Candidate, State, outermost, behind, Around, prefix_tree, prefix_listed, Value, tree_of, is_listed, appended, with_type, with_prefix, after, inside, extended, no_items, Component, no_ways, type_ways, is_encoding, ways_of, any_type, begins_name, IsAbbreviation, type_fits, fits_nowhere, fits_of, MayBeReferred}
use Rattle.cpp_press_laws.proofs.Components.Parts.{IsComponent, Whole, Has, stands-found}
use Rattle.cpp_press_laws.proofs.Components.Complete.{named-stands}
use Rattle.cpp_press_laws.proofs.Components.NoneAdded.{prefix-none}
use Rattle.cpp_press_laws.proofs.Fitting as fit
use Rattle.cpp_press_laws.proofs.Components.AddedTrees.{adds}
use Rattle.cpp_press_laws.proofs.Fits.Read.{pressed_at}
use Rattle.cpp_press_laws.proofs.Fits.References.{Referred, referred-fitted}
use Rattle.cpp_press_laws.proofs.Fits.Arguments.{ArgumentsFit}
use Rattle.cpp_press_laws.proofs.Fits.Solids.{LambdasAreBare, ParameterNamed, parameter-fits, abbreviation-fits}
use Rattle.cpp_press_laws.proofs.Fits.Names.{PieceFits, PrefixFits, alone-prefix, instance-prefix}
use Rattle.cpp_press_laws.proofs.Fits.Pieces.{alone-prefix-template, local-prefix, local-prefix-template}
use Rattle.cpp_press_laws.proofs.Fits.Sorts.{KindFits}
use Rattle.cpp_press_laws.proofs.Fits.Rests.{SoFarFits}

-- ## What a reference names

component-apart : (t : Term) → IsComponent t → is_encoding t ≡ false
unfolding is_encoding
component-apart (symbol e suffix) is = refl
component-apart _ is = first_of (cc, search is)

twice : {may stands : Type 0} {one other : Type 0} → may → (stands → ⊥) → (may × (stands → one)) × (may × (stands → other))
twice may never = ((may, λ stands. absurd (never stands)), (may, λ stands. absurd (never stands)))

-- an earlier component fits as a prefix, and as a template name whose arguments end a prefix
prefix-again : (t : Term) → IsComponent t → (around : Around) (allowed : Option ℕ) → MayBeReferred around allowed t → (place : ℕ)
    (cs : List Component) → Has around.encoding t cs
    → (fits_of t).as_prefix around allowed place cs × (fits_of t).as_prefix_template around allowed place cs
unfolding fits_of type_fits fits_nowhere
prefix-again (symbol e suffix) is around allowed may place cs has = absurd is
prefix-again t is around allowed may place cs has =
    first_of (search is, search (twice, may, stands-found around.encoding t 0 cs has))

referred-so-far : (outer : Around) (old new : State) (c : Candidate) → Referred outer old new c → SoFarFits outer c.tree true old new
unfolding with_prefix after prefix_listed
referred-so-far outer old new c r = record {
  apart = λ n place cs front. component-apart c.tree
      (named-stands outer.encoding n r.number c old.candidates cs front.among r.there r.named).0;
  prefix = referred-fitted outer (fits_of c.tree).as_prefix (λ n. (ways_of n c.tree).as_prefix) old new c (Whole c.tree) r
      (λ n allowed. ((adds c.tree).at fit.as_prefix) (pressed_at n outer) allowed)
      (λ n allowed place cs may stands is complete has. (prefix-again c.tree is (pressed_at n outer) allowed may place cs has).0)
      (λ n place cs is complete has. prefix-none c.tree n place cs is has);
  template = referred-fitted outer (fits_of c.tree).as_prefix_template (λ n. (ways_of n c.tree).as_prefix) old new c (Whole c.tree) r
      (λ n allowed. ((adds c.tree).at fit.as_prefix_template) (pressed_at n outer) allowed)
      (λ n allowed place cs may stands is complete has. (prefix-again c.tree is (pressed_at n outer) allowed may place cs has).1)
      (λ n place cs is complete has. prefix-none c.tree n place cs is has);
}

-- ## First parts

abbreviation-so-far : (outer : Around) (l : ℕ) (state : State) → IsAbbreviation l → SoFarFits outer (abbreviation l) true state state
unfolding with_prefix after prefix_listed fits_of fits_nowhere ways_of type_ways no_ways with_type tree_of is_listed is_encoding
abbreviation-so-far outer l state is =
    let one = (abbreviation-fits (λ slot. true) outer l state is).types any_type tt refl in
    record { apart = λ n place cs front. refl; prefix = one; template = one }

-- what an S denotes, as the name so far
pub named-so-far : (outer : Around) (v : Value) (old new : State) → KindFits Kind.Abbreviation outer v old new
    → SoFarFits outer (tree_of v) true old new
unfolding tree_of
named-so-far outer v old new (inl (l, value, is, same)) =
    subst (λ w. SoFarFits outer (tree_of w) true old new) (sym value)
    (subst (λ s. SoFarFits outer (abbreviation l) true old s) (sym same) (abbreviation-so-far outer l old is))
named-so-far outer v old new (inr (c, value, refers)) =
    subst (λ w. SoFarFits outer (tree_of w) true old new) (sym value) (referred-so-far outer old new c refers)

-- a parameter that wasn't refused
pub parameter-so-far : (outer : Around) (k : ℕ) (old new : State) → ParameterNamed outer k old new → LambdasAreBare outer
    → SoFarFits outer (parameter k) true old new
unfolding with_prefix after prefix_listed fits_of type_fits fits_nowhere ways_of type_ways no_ways with_type tree_of is_listed is_encoding
parameter-so-far outer k old new named bare =
    let one = (parameter-fits (λ slot. true) outer k old new named bare).types any_type tt refl in
    record { apart = λ n place cs front. refl; prefix = one; template = one }

-- where a name between N and E begins, only the encoding that is its scope is named so far, or nothing
abbrev pub BeginsName : Around → Type 0
BeginsName around = (around.prefix ≡ outermost) ⊎ ((e : Term) × (is_encoding e ≡ true) × (around.prefix ≡ behind e true))

-- a piece as the name so far
pub piece-so-far : (outer : Around) (p : Term) (old new : State) → BeginsName outer → begins_name p ≡ true → PieceFits outer p old new
    → SoFarFits outer (extended outer.prefix p) false old new
unfolding extended with_prefix after prefix_listed prefix_tree appended is_encoding
piece-so-far outer p old new (inl bare) begins one =
    subst (λ q. SoFarFits outer (extended q p) false old new) (sym bare)
    (record {
      apart = λ n place cs front. refl;
      prefix = alone-prefix outer p old new bare begins one;
      template = alone-prefix-template outer p old new bare begins one;
    })
piece-so-far outer p old new (inr (e, is, scoped)) begins one =
    subst (λ q. SoFarFits outer (extended q p) false old new) (sym scoped)
    (record {
      apart = λ n place cs front. refl;
      prefix = local-prefix outer e p old new is scoped begins one;
      template = local-prefix-template outer e p old new is scoped begins one;
    })

-- the name so far with arguments after it, as a prefix
pub arguments-so-far : (outer : Around) (t : Term) (listed : Bool) (v : Value) (start old mid : State) → SoFarFits outer t listed start old
    → ArgumentsFit (inside (after t listed outer)) false (no_items v) (with_prefix (after t listed outer) old) mid
    → PrefixFits outer (instance t (no_items v)) start (appended (after t listed outer) (instance t (no_items v)) mid)
unfolding inside after appended
arguments-so-far outer t listed v start old mid so_far other =
    instance-prefix outer t (no_items v) start (with_prefix (after t listed outer) old) mid so_far.template other
