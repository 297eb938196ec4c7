-- A function type right under qualifiers is spelled out even if it is among the components. It fits there, since its parts
-- are among the components, too.
use Rattle.cpp_press_laws.proofs.Basics.{◌≡◌, ℕ, ◌+◌, ◌⊎◌, inl, inr, length, List, [], ◌++◌, Option, None, Bool, true, false, refl, subst, sym, ◌&&◌, ◌||◌, codes, cond, ◌and◌, RefQualifier, Term, symbol, abbreviation, builtin, function_type, nil, list, is_open, Around, packs_in, is_void, is_nil, ways_of, Component, first_equal, Slot, any_type, bare_type, parameter_type, IsBuiltin, IsAbbreviation, type_fits, piece_fits, argument_fits, encoding_fits, fits_nowhere, fits_of, PacksFit, MayBeReferred, IsAbiMark}
use Rattle.sym_spell.specs.Pressing as spell
use Rattle.cpp_press_laws.proofs.Components.Parts.{IsComponent, Inside, Whole, Has, stands-found}
use Rattle.cpp_press_laws.proofs.Components.KnownTrees.{In}
use Rattle.cpp_press_laws.proofs.Components.Complete.{Complete, complete-has}
use Rattle.cpp_press_laws.proofs.Slots.{each-slot}
use Rattle.cpp_press_laws.proofs.Fitting as fit
use Rattle.cpp_press_laws.proofs.Components.AddedWays.{AddsParts, IsNotBare, way_at}
use Rattle.cpp_press_laws.proofs.Components.AddedTrees.{adds}

-- a type within a function type: it is no component, or it names no packs, or it names the same packs as the function type
abbrev pub ItemStands : Slot → (scope : Option Term) → (packs : Option ℕ) → Term → Type 0
ItemStands slot scope packs (builtin code) = IsBuiltin slot code
ItemStands slot scope packs (abbreviation l) = IsAbbreviation l
ItemStands slot scope packs t = IsComponent t × ((packs_in scope t ≡ None) ⊎ (packs_in scope t ≡ packs))

abbrev pub ItemsStand : (scope : Option Term) → (packs : Option ℕ) → Term → Type 0
ItemsStand scope packs nil = Unit {0}
ItemsStand scope packs (list first rest) = ItemStands parameter_type scope packs first × ItemsStand scope packs rest
ItemsStand scope packs _ = ⊥

abbrev pub IsNoVoid : Term → Type 0
IsNoVoid (list first rest) = is_void first && is_nil rest ≡ false
IsNoVoid _ = Unit {0}

-- what is known of a function type that is a candidate in this scope; nothing is known of other trees
abbrev pub FunctionStands : (scope : Option Term) → Term → Type 0
FunctionStands scope (function_type c_linkage noexcept ref returned parameters) =
    ItemStands any_type scope (packs_in scope (function_type c_linkage noexcept ref returned parameters)) returned
    × ItemsStand scope (packs_in scope (function_type c_linkage noexcept ref returned parameters)) parameters
    × IsNoVoid parameters
    × IsAbiMark ref
FunctionStands scope _ = Unit {0}

-- ## Types that are among the components

same-packs : (around : Around) (allowed packs own : Option ℕ) → PacksFit around allowed packs → (own ≡ None) ⊎ (own ≡ packs)
    → PacksFit around allowed own
same-packs around allowed packs own fits (inl none) = inl none
same-packs around allowed packs own fits (inr same) = subst (PacksFit around allowed) (sym same) fits

pub once : {may stands one : Type 0} → may → (stands → ⊥) → may × (stands → one)
once may never = (may, λ stands. absurd (never stands))

stands-again : (t : Term) (around : Around) (allowed packs : Option ℕ) → PacksFit around allowed packs → is_open t && around.in_lambda ≡ false
    → (packs_in around.scope t ≡ None) ⊎ (packs_in around.scope t ≡ packs) → MayBeReferred around allowed t
stands-again t around allowed packs fits shut own = record { lambda = shut; packs = same-packs around allowed packs (packs_in around.scope t) fits own }

never-first : (t : Term) (around : Around) (cs : List Component) → In (Whole t) (λ x. Has around.encoding x cs) → IsComponent t → first_equal around.encoding t 0 cs ≡ None → ⊥
never-first t around cs has is first = stands-found around.encoding t 0 cs (has t (inl (is, refl))) first

-- a type that is among the components fits wherever it may be referred to
pub item-again : (t : Term) (slot : Slot) → IsNotBare slot → (around : Around) (allowed packs : Option ℕ)
    → ItemStands slot around.scope packs t
    → PacksFit around allowed packs → is_open t && around.in_lambda ≡ false → (place : ℕ) (cs : List Component)
    → In (Whole t) (λ x. Has around.encoding x cs) → (fits_of t).as_type slot around allowed place cs
unfolding fits_of type_fits piece_fits argument_fits encoding_fits fits_nowhere
item-again (builtin code) slot other around allowed packs item fits shut place cs has = item
item-again (abbreviation l) slot other around allowed packs item fits shut place cs has = item
item-again (symbol e suffix) slot other around allowed packs item fits shut place cs has = absurd item.0
item-again (function_type c_linkage noexcept ref returned parameters) slot other around allowed packs item fits shut place cs has = go slot other
  where
    own : Term
    own = function_type c_linkage noexcept ref returned parameters

    may : MayBeReferred around allowed own
    may = record { lambda = shut; packs = same-packs around allowed packs (packs_in around.scope own) fits item.1 }

    go : (slot : Slot) → IsNotBare slot → (fits_of own).as_type slot around allowed place cs
    go = each-slot _ (λ h. (may, λ first. absurd (stands-found around.encoding own 0 cs (has own (inl (tt, refl))) first))) (λ h. absurd h) (λ h. (may, λ first. absurd (stands-found around.encoding own 0 cs (has own (inl (tt, refl))) first))) (λ h. (may, λ first. absurd (stands-found around.encoding own 0 cs (has own (inl (tt, refl))) first))) (λ h. (may, λ first. absurd (stands-found around.encoding own 0 cs (has own (inl (tt, refl))) first)))
item-again t slot other around allowed packs item fits shut place cs has =
    first_of (search item.0, search (once, stands-again t around allowed packs fits shut item.1, never-first t around cs has item.0))

left-shut : (a b c : Bool) → (a || b) && c ≡ false → a && c ≡ false
left-shut true b c h = h
left-shut false b c h = refl

right-shut : (a b c : Bool) → (a || b) && c ≡ false → b && c ≡ false
right-shut true true c h = h
right-shut true false c h = refl
right-shut false b c h = h

-- parameters whose components are among the components fit wherever the function type may be referred to
items-again : (t : Term) (around : Around) (allowed packs : Option ℕ) → ItemsStand around.scope packs t → PacksFit around allowed packs
    → is_open t && around.in_lambda ≡ false → (place : ℕ) (cs : List Component) → Complete cs → In (Inside t) (λ x. Has around.encoding x cs)
    → (fits_of t).as_more_parameters parameter_type around allowed place cs
unfolding fits_of fits_nowhere is_open way_at
items-again nil around allowed packs items fits shut place cs complete has = tt
items-again (list first rest) around allowed packs items fits shut place cs complete has =
    let n : ℕ = around.encoding in
    let one = item-again first parameter_type tt around allowed packs items.0 fits (left-shut (is_open first)
    (is_open rest) around.in_lambda shut)
    place cs (λ x w. has x (inl w)) in
    let w : spell.Pressed Component = (ways_of n first).as_type place cs in
    let a : AddsParts 1 n (Whole first) cs w = ((adds first).at fit.as_type) parameter_type around allowed place cs one in (
      one,
      items-again rest around allowed packs items.1 fits (right-shut (is_open first) (is_open rest) around.in_lambda shut)
          (place + length w.bytes) w.components (a.complete complete) (λ x i. a.keeps n x (has x (inr i))),
    )
items-again (symbol e suffix) around allowed packs items fits shut place cs complete has = absurd items
items-again _ around allowed packs items fits shut place cs complete has = absurd items

parameters-again : (t : Term) (around : Around) (allowed packs : Option ℕ) → ItemsStand around.scope packs t → IsNoVoid t
    → PacksFit around allowed packs → is_open t && around.in_lambda ≡ false → (place : ℕ) (cs : List Component) → Complete cs
    → In (Inside t) (λ x. Has around.encoding x cs) → (fits_of t).as_parameters parameter_type around allowed place cs
unfolding fits_of fits_nowhere
parameters-again nil around allowed packs items void fits shut place cs complete has = tt
parameters-again (list first rest) around allowed packs items void fits shut place cs complete has =
    (void, items-again (list first rest) around allowed packs items fits shut place cs complete has)
parameters-again (symbol e suffix) around allowed packs items void fits shut place cs complete has = absurd items
parameters-again _ around allowed packs items void fits shut place cs complete has = absurd items

-- A function type that may be referred to and is among complete components fits under qualifiers.
pub function-again : (c_linkage noexcept : Bool) (ref : RefQualifier) (returned parameters : Term) (around : Around) (allowed : Option ℕ)
    → FunctionStands around.scope (function_type c_linkage noexcept ref returned parameters)
    → MayBeReferred around allowed (function_type c_linkage noexcept ref returned parameters)
    → (place : ℕ) (cs : List Component) → Complete cs → Has around.encoding (function_type c_linkage noexcept ref returned parameters) cs
    → (fits_of (function_type c_linkage noexcept ref returned parameters)).as_type bare_type around allowed place cs
unfolding fits_of is_open way_at
function-again c_linkage noexcept ref returned parameters around allowed stands may place cs complete has =
    let own : Term = function_type c_linkage noexcept ref returned parameters in
    let n : ℕ = around.encoding in
    let packs : Option ℕ = packs_in around.scope own in
    let marks : List ℕ = cond noexcept (codes "Do") [] ++ codes "F" ++ cond c_linkage (codes "Y") [] in
    let all : In (Whole own) (λ x. Has n x cs) = complete-has n own cs complete has in
    let one = item-again returned any_type tt around allowed packs stands.0 may.packs
    (left-shut (is_open returned) (is_open parameters) around.in_lambda may.lambda) (place + length marks) cs (λ x w. all x (inr (inl w))) in
    let w : spell.Pressed Component = (ways_of n returned).as_type (place + length marks) cs in
    let a : AddsParts 1 n (Whole returned) cs w = ((adds returned).at fit.as_type) any_type around allowed
    (place + length marks) cs one in (
      one,
      parameters-again parameters around allowed packs stands.1 stands.2 may.packs
          (right-shut (is_open returned) (is_open parameters) around.in_lambda may.lambda) (place + length
          (marks ++ w.bytes)) w.components (a.complete complete)
          (λ x i. a.keeps n x (all x (inr (inr i)))),
      stands.3,
    )
