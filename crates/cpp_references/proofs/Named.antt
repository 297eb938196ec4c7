-- What a parameter names.
use Rattle.cpp_references.proofs.Basics.{◌≡◌, ◌∙◌, ap, subst, ℕ, List, true, false, Option, Some, None, Result, Ok, Err, nat_lt, IfSome, Refusal, BadReference, ◌>>=◌, Term, parameter, absent, is_open, count, element, length_if_pack, Around, State, appended, with_packs, parameter_named, argument_at, tree_at, tree_if_there}
use Rattle.sym_core.specs.declared.refusal.Refusal.TheVariants as refusals
use Rattle.sym_link.specs.Driving.{Fails}

pub fails_is : {A : Type 0} (e : Refusal) (r : Result A Refusal) → r ≡ Err e → Fails e r
fails_is refusals.Memory r is = tt
fails_is _ r is = is

-- no parameter is free in the arguments of the scope
pub scope_closed : (ts : List Term) (o : Option ℕ) (a : ℕ) → o ≡ Some a → IfSome (tree_if_there ts o) (λ x. is_open x ≡ false) → is_open (tree_at ts a) ≡ false
unfolding tree_if_there
scope_closed ts o a is closed = subst (λ x. IfSome (tree_if_there ts x) (λ y. is_open y ≡ false)) is closed

module _ (around : Around) (place k : ℕ) (state : State) where
  abbrev named_in : Term → Result State Refusal
  named_in a = with_packs place around.in_expansion (length_if_pack (element a k)) state >>= λ s. Ok (appended around (parameter k (element a k)) s)

  abbrev named_by : Option Term → Result State Refusal
  named_by o = elim o [ None ↦ Err (BadReference place) | Some a ↦ elim (nat_lt k (count a)) [ false ↦ Err (BadReference place) | true ↦ named_in a ] ]

  by_scope : (o : Option Term) → around.scope ≡ o → parameter_named around place k state ≡ named_by o
  unfolding parameter_named
  by_scope o is = ap named_by is

  pub no_scope : around.scope ≡ None → parameter_named around place k state ≡ Err (BadReference place)
  no_scope none = by_scope None none

  pub past_scope : (a : Term) → around.scope ≡ Some a → nat_lt k (count a) ≡ false → parameter_named around place k state ≡ Err (BadReference place)
  past_scope a some past = by_scope (Some a) some ∙ ap (λ b. elim b as (λ _. Result State Refusal) [ false ↦ Err (BadReference place) | true ↦ named_in a ]) past

  pub in_scope : (a : Term) (r : Result State Refusal) → around.scope ≡ Some a → nat_lt k (count a) ≡ true → with_packs place around.in_expansion (length_if_pack (element a k)) state ≡ r
      → parameter_named around place k state ≡ (r >>= λ s. Ok (appended around (parameter k (element a k)) s))
  in_scope a r some less goes =
      by_scope (Some a) some ∙ ap (λ b. elim b as (λ _. Result State Refusal) [ false ↦ Err (BadReference place) | true ↦ named_in a ]) less
      ∙ ap (λ m. m >>= λ s. Ok (appended around (parameter k (element a k)) s)) goes

  -- the argument that a parameter names
  pub argument_in_scope : (a : Term) → around.scope ≡ Some a → argument_at around k ≡ element a k
  unfolding argument_at
  argument_in_scope a some = ap (λ o. elim o as (λ _. Term) [ None ↦ absent | Some b ↦ element b k ]) some
