-- If a tree is among the components already, its spelling adds no component. If it is a function type, its spelling right
-- under qualifiers adds none, either.
use Rattle.cpp_press_laws.proofs.Basics.{◌≡◌, ℕ, ◌+◌, inl, inr, length, List, [], ◌++◌, Option, Some, None, refl, sym, subst, cond, codes, ◌and◌, Term, alone, function_type, list, Component, Spelling, first_equal, reference, spelled_out, component, ways_of, no_ways, type_ways, name_ways, piece_ways, argument_ways, encoding_ways, function_text}
use Rattle.sym_spell.specs.Pressing as spell
use Rattle.cpp_press_laws.proofs.Components.Parts.{IsComponent, Inside, Has, stands-found}
use Rattle.cpp_press_laws.proofs.Components.Complete.{Complete, complete-has}

component-none : (n : ℕ) (t : Term) (s : Spelling) (place : ℕ) (cs : List Component) → Has n t cs →
    (component n t s place cs).components ≡ cs
unfolding component reference
component-none n t s place cs has = go (first_equal n t 0 cs) refl
  where
    go : (o : Option ℕ) → first_equal n t 0 cs ≡ o → spell.Pressed.components (elim o as (λ _. spell.Pressed Component)
        [ Some number ↦ reference number place cs | None ↦ spelled_out n t s place cs ]) ≡ cs
    go (Some number) is = refl
    go None is = absurd (stands-found n t 0 cs has is)

-- a type's spelling adds no component, if the type is among the components or is never a component
pub type-none : (t : Term) (n place : ℕ) (cs : List Component) → (IsComponent t → Has n t cs) →
    ((ways_of n t).as_type place cs).components ≡ cs
unfolding ways_of no_ways type_ways name_ways piece_ways argument_ways encoding_ways
type-none (alone p) n place cs has = component-none n (alone p) _ place cs (has tt)
type-none _ n place cs has = first_of (cc, search (component-none, has))

-- a prefix that is among the components adds none
pub prefix-none : (t : Term) (n place : ℕ) (cs : List Component) → IsComponent t → Has n t cs →
    ((ways_of n t).as_prefix place cs).components ≡ cs
unfolding ways_of no_ways type_ways name_ways piece_ways argument_ways encoding_ways
prefix-none (alone p) n place cs is has = component-none n (alone p) _ place cs has
prefix-none _ n place cs is has = first_of (search is, search (component-none, has))

-- parameters add no component, if each component within them is among the components
parameters-none : (t : Term) (n place : ℕ) (cs : List Component) → ((x : Term) → Inside t x → Has n x cs)
    → ((ways_of n t).as_more_parameters place cs).components ≡ cs
unfolding ways_of no_ways type_ways name_ways piece_ways argument_ways encoding_ways
parameters-none (list first rest) n place cs has =
    let later : ℕ = place + length ((ways_of n first).as_type place cs).bytes in
    subst (λ ds. ((ways_of n rest).as_more_parameters later ds).components ≡ cs)
    (sym (type-none first n place cs (λ is. has first (inl (inl (is, refl))))))
    (parameters-none rest n later cs (λ x i. has x (inr i)))
parameters-none (alone p) n place cs has = refl
parameters-none _ n place cs has = refl

all-parameters-none : (t : Term) (n place : ℕ) (cs : List Component) → ((x : Term) → Inside t x → Has n x cs)
    → ((ways_of n t).as_parameters place cs).components ≡ cs
unfolding ways_of no_ways type_ways name_ways piece_ways argument_ways encoding_ways
all-parameters-none (list first rest) n place cs has = parameters-none (list first rest) n place cs has
all-parameters-none (alone p) n place cs has = refl
all-parameters-none _ n place cs has = refl

-- a function type that is among complete components adds none right under qualifiers
pub bare-none : (t : Term) (n place : ℕ) (cs : List Component) → IsComponent t → Complete cs → Has n t cs
    → ((ways_of n t).under_qualifiers place cs).components ≡ cs
unfolding ways_of no_ways type_ways name_ways piece_ways argument_ways encoding_ways function_text
bare-none (function_type c x ref returned parameters) n place cs is complete has =
    let inner : (y : Term) → Inside (function_type c x ref returned parameters) y → Has n y cs =
    λ y i. complete-has n (function_type c x ref returned parameters) cs complete has y (inr i) in
    let marks : List ℕ = cond x (codes "Do") [] ++ codes "F" ++ cond c (codes "Y") [] in
    let from : ℕ = place + length marks in
    let later : ℕ = from + length ((ways_of n returned).as_type from cs).bytes in
    subst (λ ds. ((ways_of n parameters).as_parameters later ds).components ≡ cs)
    (sym (type-none returned n from cs (λ own. inner returned (inl (inl (own, refl))))))
    (all-parameters-none parameters n later cs (λ y i. inner y (inr i)))
bare-none _ n place cs is complete has = first_of (search is, search (component-none, has))
