-- A function type whose parts fit where it was read may be spelled again wherever its parts may be.
use Rattle.cpp_press_laws.proofs.Basics.{◌≡◌, ℕ, ◌+◌, ◌⊎◌, inl, inr, length, List, Option, Some, None, Bool, refl, subst, sym, ◌∙◌, RefQualifier, Term, symbol, abbreviation, builtin, function_type, nil, list, first_of, pack_length, Around, packs_in, Component, ways_of, Slot, any_type, parameter_type, type_fits, piece_fits, argument_fits, encoding_fits, fits_nowhere, fits_of, PacksFit, IsAbiMark}
use Rattle.sym_spell.specs.Pressing as spell
use Rattle.cpp_press_laws.proofs.Slots.{each-slot}
use Rattle.cpp_press_laws.proofs.Components.AddedWays.{IsNotBare}
use Rattle.cpp_press_laws.proofs.Components.Again.{ItemStands, ItemsStand, IsNoVoid, FunctionStands}

-- a part names no packs, or the packs of the whole
abbrev pub PacksOf : (packs own : Option ℕ) → Type 0
PacksOf packs own = (own ≡ None) ⊎ (own ≡ packs)

-- a type that fits may be spelled again
pub item-stands : (t : Term) (slot : Slot) → IsNotBare slot → (around : Around) (allowed packs : Option ℕ) (place : ℕ) (cs : List Component)
    → (fits_of t).as_type slot around allowed place cs → PacksOf packs (packs_in around.scope t) → ItemStands slot around.scope packs t
unfolding fits_of type_fits piece_fits argument_fits encoding_fits fits_nowhere
item-stands (builtin code) slot other around allowed packs place cs fits own = fits
item-stands (abbreviation l) slot other around allowed packs place cs fits own = fits
item-stands (symbol e suffix) slot other around allowed packs place cs fits own = absurd fits
item-stands _ slot other around allowed packs place cs fits own = search (fits, own)

-- a tree whose packs have no length names no packs
pub packs-none : (scope : Option Term) (t : Term) → ((arguments : Term) → pack_length arguments t ≡ None) → packs_in scope t ≡ None
unfolding packs_in
packs-none None t none = refl
packs-none (Some arguments) t none = none arguments

pub item-packs : (t : Term) (slot : Slot) → IsNotBare slot → (around : Around) (allowed : Option ℕ) (place : ℕ) (cs : List Component)
    → (fits_of t).as_type slot around allowed place cs → PacksFit around allowed (packs_in around.scope t)
unfolding fits_of type_fits piece_fits argument_fits encoding_fits fits_nowhere pack_length
item-packs (builtin code) slot other around allowed place cs fits = inl (packs-none around.scope (builtin code) (λ arguments. refl))
item-packs (abbreviation l) slot other around allowed place cs fits = inl (packs-none around.scope (abbreviation l) (λ arguments. refl))
item-packs (symbol e suffix) slot other around allowed place cs fits = absurd fits
item-packs (function_type c_linkage noexcept ref returned parameters) slot other around allowed place cs fits = go slot other fits
  where
    own : Term
    own = function_type c_linkage noexcept ref returned parameters

    go : (slot : Slot) → IsNotBare slot → (fits_of own).as_type slot around allowed place cs → PacksFit around allowed
        (packs_in around.scope own)
    go = each-slot _ (λ h f. f.0.packs) (λ h f. absurd h) (λ h f. f.0.packs) (λ h f. f.0.packs) (λ h f. f.0.packs)
item-packs _ slot other around allowed place cs fits = search fits

-- ## Lists

-- each of two parts names no packs, or the packs of the whole
first-is : (around : Around) (allowed a b : Option ℕ) → PacksFit around allowed a → PacksFit around allowed b
    → PacksOf (first_of a b) a × PacksOf (first_of a b) b
unfolding first_of
first-is around allowed None b one other = (inl refl, inr refl)
first-is around allowed (Some m) b one other = (inr refl, go one other)
  where
    clash : Some m ≡ None → ⊥
    clash h = cc

    go : PacksFit around allowed (Some m) → PacksFit around allowed b → PacksOf (Some m) b
    go (inl none) other = absurd (clash none)
    go (inr named) (inl none) = inl none
    go (inr named) (inr same) = inr (same.1 ∙ sym named.1)

pub first-fits : (around : Around) (allowed a b : Option ℕ) → PacksFit around allowed a → PacksFit around allowed b
    → PacksFit around allowed (first_of a b)
unfolding first_of
first-fits around allowed None b one other = other
first-fits around allowed (Some m) b one other = one

part-of : (p q r : Option ℕ) → PacksOf p q → PacksOf q r → PacksOf p r
part-of p q r one (inl none) = inl none
part-of p q r (inl none) (inr same) = inl (same ∙ none)
part-of p q r (inr equal) (inr same) = inr (same ∙ equal)

packs-list : (scope : Option Term) (first rest : Term) → packs_in scope (list first rest) ≡ first_of (packs_in scope first)
    (packs_in scope rest)
unfolding packs_in pack_length first_of
packs-list None first rest = refl
packs-list (Some arguments) first rest = refl

packs-function : (scope : Option Term) (c_linkage noexcept : Bool) (ref : RefQualifier) (returned parameters : Term)
    → packs_in scope (function_type c_linkage noexcept ref returned parameters) ≡ first_of (packs_in scope returned)
    (packs_in scope parameters)
unfolding packs_in pack_length first_of
packs-function None c_linkage noexcept ref returned parameters = refl
packs-function (Some arguments) c_linkage noexcept ref returned parameters = refl

items-packs : (t : Term) (around : Around) (allowed : Option ℕ) (place : ℕ) (cs : List Component)
    → (fits_of t).as_more_parameters parameter_type around allowed place cs → PacksFit around allowed (packs_in around.scope t)
unfolding fits_of type_fits piece_fits argument_fits encoding_fits fits_nowhere pack_length
items-packs nil around allowed place cs fits = inl (packs-none around.scope nil (λ arguments. refl))
items-packs (list first rest) around allowed place cs fits =
    let w : spell.Pressed Component = (ways_of around.encoding first).as_type place cs in
    subst (PacksFit around allowed) (sym (packs-list around.scope first rest))
    (first-fits around allowed (packs_in around.scope first) (packs_in around.scope rest)
    (item-packs first parameter_type tt around allowed place cs fits.0)
    (items-packs rest around allowed (place + length w.bytes) w.components fits.1))
items-packs (symbol e suffix) around allowed place cs fits = absurd fits
items-packs _ around allowed place cs fits = absurd fits

items-stand : (t : Term) (around : Around) (allowed packs : Option ℕ) (place : ℕ) (cs : List Component)
    → (fits_of t).as_more_parameters parameter_type around allowed place cs → PacksOf packs (packs_in around.scope t)
    → ItemsStand around.scope packs t
unfolding fits_of type_fits piece_fits argument_fits encoding_fits fits_nowhere
items-stand nil around allowed packs place cs fits own = tt
items-stand (list first rest) around allowed packs place cs fits own =
    let w : spell.Pressed Component = (ways_of around.encoding first).as_type place cs in
    let a : Option ℕ = packs_in around.scope first in
    let b : Option ℕ = packs_in around.scope rest in
    let whole : PacksOf packs (first_of a b) = subst (PacksOf packs) (packs-list around.scope first rest) own in
    let parts = first-is around allowed a b (item-packs first parameter_type tt around allowed place cs fits.0)
    (items-packs rest around allowed (place + length w.bytes) w.components fits.1) in (
      item-stands first parameter_type tt around allowed packs place cs fits.0 (part-of packs (first_of a b) a whole parts.0),
      items-stand rest around allowed packs (place + length w.bytes) w.components fits.1 (part-of packs (first_of a b) b whole parts.1),
    )
items-stand (symbol e suffix) around allowed packs place cs fits own = absurd fits
items-stand _ around allowed packs place cs fits own = absurd fits

more-parameters : (t : Term) (around : Around) (allowed : Option ℕ) (place : ℕ) (cs : List Component)
    → (fits_of t).as_parameters parameter_type around allowed place cs
    → (fits_of t).as_more_parameters parameter_type around allowed place cs × IsNoVoid t
unfolding fits_of type_fits piece_fits argument_fits encoding_fits fits_nowhere
more-parameters nil around allowed place cs fits = (tt, tt)
more-parameters (list first rest) around allowed place cs fits = (fits.1, fits.0)
more-parameters (symbol e suffix) around allowed place cs fits = absurd fits
more-parameters _ around allowed place cs fits = absurd fits

-- A function type whose return type and parameters fit may be spelled again.
pub function-stands : (c_linkage noexcept : Bool) (ref : RefQualifier) (returned parameters : Term) (around : Around) (allowed : Option ℕ)
    (place later : ℕ) (cs ds : List Component) → (fits_of returned).as_type any_type around allowed place cs
    → (fits_of parameters).as_parameters parameter_type around allowed later ds → IsAbiMark ref
    → FunctionStands around.scope (function_type c_linkage noexcept ref returned parameters)
function-stands c_linkage noexcept ref returned parameters around allowed place later cs ds one two good =
    let own : Option ℕ = packs_in around.scope (function_type c_linkage noexcept ref returned parameters) in
    let a : Option ℕ = packs_in around.scope returned in
    let b : Option ℕ = packs_in around.scope parameters in
    let more = more-parameters parameters around allowed later ds two in
    let whole : PacksOf own (first_of a b) = inr (sym (packs-function around.scope c_linkage noexcept ref returned parameters)) in
    let parts = first-is around allowed a b (item-packs returned any_type tt around allowed place cs one)
    (items-packs parameters around allowed later ds more.0) in (
      item-stands returned any_type tt around allowed own place cs one (part-of own (first_of a b) a whole parts.0),
      items-stand parameters around allowed own later ds more.0 (part-of own (first_of a b) b whole parts.1),
      more.1,
      good,
    )
