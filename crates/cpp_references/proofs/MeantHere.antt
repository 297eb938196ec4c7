-- The value here of a tree that was made elsewhere.
use Rattle.cpp_references.proofs.Basics.{◌≡◌, ◌∙◌, sym, ap, ℕ, Bool, true, false, not, ◌&&◌, Option, Some, None, Result, Ok, Err, nat_lt, Refusal, BadReference, Found, ◌>>=◌, found, Free, none_free, one_free, several_free, reargued, Term, count, element, is_list, has_pack, free_in, pack_length, Around, State, Value, tree, with_packs, in_scope, under_scope, with_free, restated, both, free_is}
use Rattle.cpp_term.specs.Items.{auto}
use Rattle.cpp_tree.specs.declared.node.Free.{Free as Noted}

-- if one free parameter is noted, the tree has exactly this free parameter
pub one_is : {g : Free} (f : Noted) (k : ℕ) → f ≡ Noted.One k → free_is f ≡ g → one_free k ≡ g
unfolding free_is
one_is f k is free = sym (ap free_is is) ∙ free

pub several_is : {g : Free} (f : Noted) (m : ℕ) → f ≡ Noted.Several m → free_is f ≡ g → several_free m ≡ g
unfolding free_is
several_is f m is free = sym (ap free_is is) ∙ free

pub none_is : {g : Free} (f : Noted) → f ≡ Noted.None → free_is f ≡ g → none_free ≡ g
unfolding free_is
none_is f is free = sym (ap free_is is) ∙ free

abbrev Named : Type 0
Named = Result (Found Value State) Refusal

module _ (around : Around) (place : ℕ) (t : Term) (state : State) where
  abbrev of_free : Free → Named
  of_free f = with_free f around place t state

  pub restated_own : around.in_lambda ≡ true → restated around place t state ≡ Ok (found (tree (reargued (Some auto) t) true) state)
  unfolding restated
  restated_own is = ap (λ b. elim b as (λ _. Named) [ true ↦ Ok (found (tree (reargued (Some auto) t) true) state) | false ↦ of_free (free_in t) ]) is

  outside : around.in_lambda ≡ false → restated around place t state ≡ of_free (free_in t)
  unfolding restated
  outside is = ap (λ b. elim b as (λ _. Named) [ true ↦ Ok (found (tree (reargued (Some auto) t) true) state) | false ↦ of_free (free_in t) ]) is

  -- outside a lambda's signature, what is meant depends on which parameters are free
  pub restated_by : around.in_lambda ≡ false → (f : Free) → f ≡ free_in t → restated around place t state ≡ of_free f
  restated_by apart f is = outside apart ∙ ap of_free (sym is)

  -- ## Where one is free

  module _ (k : ℕ) where
    abbrev named_in : Term → Named
    named_in a = with_packs place around.in_expansion (pack_length (reargued (Some (element a k)) t)) state >>= λ s. Ok (found (tree (reargued (Some (element a k)) t) true) s)

    abbrev in_tested : Term → Bool → Named
    in_tested a b = elim b [ false ↦ Err (BadReference place) | true ↦ named_in a ]

    abbrev by_scope : Option Term → Named
    by_scope o = elim o [ None ↦ Err (BadReference place) | Some a ↦ in_tested a (nat_lt k (count a) && not (is_list (element a k))) ]

    scoped : (o : Option Term) → around.scope ≡ o → in_scope around place t k state ≡ by_scope o
    unfolding in_scope
    scoped o is = ap by_scope is

    pub scope_none : around.scope ≡ None → in_scope around place t k state ≡ Err (BadReference place)
    scope_none none = scoped None none

    pub scope_past : (a : Term) → around.scope ≡ Some a → nat_lt k (count a) ≡ false → in_scope around place t k state ≡ Err (BadReference place)
    scope_past a some past = scoped (Some a) some ∙ ap (λ b. in_tested a (b && not (is_list (element a k)))) past

    pub scope_listed : (a : Term) → around.scope ≡ Some a → nat_lt k (count a) ≡ true → is_list (element a k) ≡ true → in_scope around place t k state ≡ Err (BadReference place)
    scope_listed a some less listed = scoped (Some a) some ∙ both (λ b l. in_tested a (b && not l)) less listed

    pub scope_here : (a : Term) (r : Result State Refusal) → around.scope ≡ Some a → nat_lt k (count a) ≡ true → is_list (element a k) ≡ false
        → with_packs place around.in_expansion (pack_length (reargued (Some (element a k)) t)) state ≡ r
        → in_scope around place t k state ≡ (r >>= λ s. Ok (found (tree (reargued (Some (element a k)) t) true) s))
    scope_here a r some less alone goes =
        scoped (Some a) some ∙ both (λ b l. in_tested a (b && not l)) less alone
        ∙ ap (λ m. m >>= λ s. Ok (found (tree (reargued (Some (element a k)) t) true) s)) goes

  -- ## Where several are free

  module _ (m : ℕ) where
    abbrev under_in : Term → Named
    under_in a = Ok (found (tree (reargued (Some a) t) true) state)

    abbrev under_tested : Term → Bool → Named
    under_tested a b = elim b [ false ↦ Err (BadReference place) | true ↦ under_in a ]

    abbrev under_by : Option Term → Named
    under_by o = elim o [ None ↦ Err (BadReference place) | Some a ↦ under_tested a (nat_lt m (count a) && not (has_pack a)) ]

    covered : (o : Option Term) → around.scope ≡ o → under_scope around place t m state ≡ under_by o
    unfolding under_scope
    covered o is = ap under_by is

    pub under_none : around.scope ≡ None → under_scope around place t m state ≡ Err (BadReference place)
    under_none none = covered None none

    pub under_past : (a : Term) → around.scope ≡ Some a → nat_lt m (count a) ≡ false → under_scope around place t m state ≡ Err (BadReference place)
    under_past a some past = covered (Some a) some ∙ ap (λ b. under_tested a (b && not (has_pack a))) past

    pub under_packed : (a : Term) → around.scope ≡ Some a → nat_lt m (count a) ≡ true → has_pack a ≡ true → under_scope around place t m state ≡ Err (BadReference place)
    under_packed a some less packed = covered (Some a) some ∙ both (λ b p. under_tested a (b && not p)) less packed

    pub under_here : (a : Term) → around.scope ≡ Some a → nat_lt m (count a) ≡ true → has_pack a ≡ false → under_scope around place t m state ≡ Ok (found (tree (reargued (Some a) t) true) state)
    under_here a some less plain = covered (Some a) some ∙ both (λ b p. under_tested a (b && not p)) less plain
