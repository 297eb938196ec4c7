-- Why the tree of a component is spelled out again.
use Rattle.cpp_press_laws.proofs.Basics.{◌≡◌, ℕ, List, [], ◌∷◌, ◌++◌, ◌⊎◌, inl, inr, Bool, true, false, refl, subst, not, ◌&&◌, ◌||◌, nat_eq, Term, is_open, same_tree, Component, is_same, Marked, unmarked, IsNeverReferred, IsNew, IsApart, AreApartBehind, marked_components}
use Rattle.cpp_press_laws.specs.Repeated.{is_spelled, repeated, HaveReasons, RepeatedComponentsHaveReasons}
use Rattle.cpp_press_laws.proofs.Components.Growing.{unmarked-append}
use Rattle.cpp_press_laws.proofs.Components.Apart.{components-apart, components-marked}

-- if a tree is the tree of a component and still isn't equal to this component, the tree has free parameters
open-by : (same free other : Bool) → same && (not free || other) ≡ false → same ≡ true → free ≡ true
open-by true true other differ is = refl
open-by true false other differ is = cc
open-by false free other differ is = cc

new-open : (n : ℕ) (own : Term) (before : List Component) → IsNew n own before → is_spelled own before ≡ true → is_open own ≡ true
unfolding is_same is_spelled
new-open n own [] new is = cc
new-open n own (c ∷ cs) new is = go (same_tree own c.tree) refl is (new-open n own cs new.1)
  where
    go : (b : Bool) → same_tree own c.tree ≡ b → b || is_spelled own cs ≡ true → (is_spelled own cs ≡ true → is_open own ≡ true)
        → is_open own ≡ true
    go true same is more = open-by (same_tree own c.tree) (is_open own) (nat_eq c.encoding n) new.0 same
    go false same is more = more is

-- among components that are apart, each component whose tree is spelled already has a reason
reasons : (tree : Term) (before cs : List Marked) → AreApartBehind tree before cs → HaveReasons tree (repeated (unmarked before) (unmarked cs))
unfolding repeated
reasons tree before [] apart = tt
reasons tree before (c ∷ cs) apart =
    go (is_spelled c.component.tree (unmarked before)) refl
    (subst (λ l. HaveReasons tree (repeated l (unmarked cs))) (unmarked-append before (c ∷ [])) (reasons tree (before ++ c ∷ []) cs apart.1))
  where
    later : List Component
    later = repeated (unmarked before ++ c.component ∷ []) (unmarked cs)

    why : IsApart tree before c → is_spelled c.component.tree (unmarked before) ≡ true
        → (is_open c.component.tree ≡ true) ⊎ IsNeverReferred c.component.tree tree
    why (inl new) is = inl (new-open c.component.encoding c.component.tree (unmarked before) new.1 is)
    why (inr never) is = inr never.1

    go : (b : Bool) → is_spelled c.component.tree (unmarked before) ≡ b → HaveReasons tree later
        → HaveReasons tree (elim b as (λ _. List Component) [ true ↦ c.component ∷ later | false ↦ later ])
    go true is more = (why apart.0 is, more)
    go false is more = more

pub repeated-reasons : RepeatedComponentsHaveReasons
repeated-reasons t =
    subst (λ l. HaveReasons t (repeated [] l)) (components-marked t).1 (reasons t [] (marked_components t) (components-apart t))
