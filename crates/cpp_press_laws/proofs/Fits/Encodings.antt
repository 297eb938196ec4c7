-- An encoding that was read fits where it is: its parts fit in surroundings of their own, and no tree with free
-- parameters that was made in the encoding is named outside it.
use Rattle.cpp_press_laws.proofs.Basics.{◌≡◌, ℕ, ◌<◌, ◌⊎◌, inl, inr, List, [], ◌∷◌, ◌++◌, Option, Some, None, Bool, true, false, refl, sym, subst, arith, ◌||◌, true≢false, Term, symbol, abbreviation, builtin, function_type, nil, list, is_open, arguments_of, Candidate, State, Around, packs_in, in_name, in_types, Component, Spelling, ways_of, Fitting, Slot, any_type, parameter_type, fits_of}
use Rattle.cpp_press_laws.proofs.Components.Parts.{Has, has-closed}
use Rattle.cpp_press_laws.proofs.Components.Complete.{EachStands, StandAmong, AllBefore, each-append, each-others, among-inner}
use Rattle.cpp_press_laws.proofs.Fits.Packs.{closed-packs}
use Rattle.cpp_press_laws.proofs.Components.Again.{ItemStands, ItemsStand, FunctionStands}
use Rattle.cpp_press_laws.proofs.Fitting as fit
use Rattle.cpp_press_laws.proofs.Components.AddedTrees.{adds}
use Rattle.cpp_press_laws.proofs.Fits.Read.{pressed_at, FunctionsStand, Front, Fitted}
use Rattle.cpp_press_laws.proofs.Fits.Types.{may-closed}

-- ## Function types in another scope

-- a scope in which a tree names no packs
abbrev NoPacks : Option Term → Term → Type 0
NoPacks scope t = (scope ≡ None) ⊎ (is_open t ≡ false)

no-packs : (scope : Option Term) (t : Term) → NoPacks scope t → packs_in scope t ≡ None
unfolding packs_in
no-packs None t none = refl
no-packs (Some arguments) t (inl none) = absurd cc
no-packs (Some arguments) t (inr closed) = closed-packs arguments t closed

left-none : (scope : Option Term) (a b : Bool) → (scope ≡ None) ⊎ (a || b ≡ false) → (scope ≡ None) ⊎ (a ≡ false)
left-none scope a b (inl none) = inl none
left-none scope true b (inr closed) = absurd (true≢false closed)
left-none scope false b (inr closed) = inr refl

right-none : (scope : Option Term) (a b : Bool) → (scope ≡ None) ⊎ (a || b ≡ false) → (scope ≡ None) ⊎ (b ≡ false)
right-none scope a b (inl none) = inl none
right-none scope true b (inr closed) = absurd (true≢false closed)
right-none scope false b (inr closed) = inr closed

item-moved : (slot : Slot) (scope other : Option Term) (packs own : Option ℕ) (t : Term) → NoPacks other t → ItemStands slot scope packs t
    → ItemStands slot other own t
item-moved slot scope other packs own (builtin code) none item = item
item-moved slot scope other packs own (abbreviation l) none item = item
item-moved slot scope other packs own (symbol e suffix) none item = absurd item.0
item-moved slot scope other packs own t none item = (item.0, inl (no-packs other t none))

items-moved : (scope other : Option Term) (packs own : Option ℕ) (t : Term) → NoPacks other t → ItemsStand scope packs t
    → ItemsStand other own t
unfolding is_open
items-moved scope other packs own nil none items = tt
items-moved scope other packs own (list first rest) none items = (
  item-moved parameter_type scope other packs own first (left-none other (is_open first) (is_open rest) none) items.0,
  items-moved scope other packs own rest (right-none other (is_open first) (is_open rest) none) items.1,
)
items-moved scope other packs own (symbol e suffix) none items = absurd items
items-moved scope other packs own t none items = absurd items

-- a function type that may be spelled again in one scope may be spelled again in another, if it names no packs there
pub stands-moved : (scope other : Option Term) (t : Term) → NoPacks other t → FunctionStands scope t → FunctionStands other t
unfolding is_open
stands-moved scope other (function_type c_linkage noexcept ref returned parameters) none stands = (
  item-moved any_type scope other _ _ returned (left-none other (is_open returned) (is_open parameters) none) stands.0,
  items-moved scope other _ _ parameters (right-none other (is_open returned) (is_open parameters) none) stands.1,
  stands.2,
  stands.3,
)
stands-moved scope other (symbol e suffix) none stands = tt
stands-moved scope other t none stands = tt

-- ## Into an encoding and out of it

-- each candidate was made in an encoding that begins after a place
abbrev pub AllAfter : ℕ → List Candidate → Type 0
AllAfter place [] = Unit {0}
AllAfter place (c ∷ cs) = (place < c.encoding) × AllAfter place cs

-- each candidate that was made in this encoding has no free parameters
abbrev pub AllShut : ℕ → List Candidate → Type 0
AllShut encoding [] = Unit {0}
AllShut encoding (c ∷ cs) = (c.encoding ≡ encoding → is_open c.tree ≡ false) × AllShut encoding cs

functions-inner : (scope : Option Term) (read at : ℕ) (cs : List Candidate) → AllBefore at cs → FunctionsStand scope read cs
    → FunctionsStand None at cs
functions-inner scope read at [] before stand = tt
functions-inner scope read at (c ∷ cs) before stand = (
  λ may. elim may [
    | inl closed ↦ stands-moved scope None c.tree (inl refl) (stand.0 (inl closed))
    | inr here ↦ absurd (omega (arith, here, before.0))
  ],
  functions-inner scope read at cs before.1 stand.1,
)

front-inner : (around : Around) (n place at : ℕ) (cs : List Component) (old : State) → AllBefore at old.candidates
    → Front around n place cs old → Front (in_name at) place place cs old
unfolding in_name
front-inner around n place at cs old before front = record {
  later = omega arith;
  complete = front.complete;
  among = among-inner around.encoding n at place old.candidates cs before front.among;
  functions = functions-inner around.scope around.encoding at old.candidates before front.functions;
}

among-new : (read n at place : ℕ) (more : List Candidate) (ds : List Component) → AllAfter read more → EachStands at place more ds → EachStands read n more ds
among-new read n at place [] ds later among = tt
among-new read n at place (c ∷ cs) ds later among = (
  (
    among.0.0,
    λ may. elim may [
      | inl closed ↦ has-closed place n c.tree ds closed (among.0.1 (inl closed))
      | inr here ↦ absurd (omega (arith, here, later.0))
    ],
  ),
  among-new read n at place cs ds later.1 among.1,
)

among-last : (read n : ℕ) (olds more : List Candidate) (ds : List Component) → EachStands read n (olds ++ more) ds → EachStands read n more ds
among-last read n [] more ds among = among
among-last read n (c ∷ cs) more ds among = among-last read n cs more ds among.1

-- After an encoding, the candidates from before it are still among the components, and so are the candidates from inside it
-- that have no free parameters.
among-outer : (read n at place : ℕ) (olds more : List Candidate) (cs ds : List Component) → ((m : ℕ) (x : Term) → Has m x cs → Has m x ds) → AllAfter read more
    → StandAmong read n olds cs → StandAmong at place (olds ++ more) ds → StandAmong read n (olds ++ more) ds
among-outer read n at place olds more cs ds keeps later before inner = (
  each-append read n olds more ds (each-others read n olds cs ds (λ x is has. keeps n x has) before.0)
      (among-new read n at place more ds later (among-last at place olds more ds inner.0)),
  inner.1,
)

functions-outer : (scope : Option Term) (read at : ℕ) (olds more : List Candidate) → AllAfter read more → FunctionsStand scope read olds
    → FunctionsStand None at (olds ++ more) → FunctionsStand scope read (olds ++ more)
functions-outer scope read at [] [] later before inner = tt
functions-outer scope read at [] (c ∷ cs) later before inner = (
  λ may. elim may [
    | inl closed ↦ stands-moved None scope c.tree (inr closed) (inner.0 (inl closed))
    | inr here ↦ absurd (omega (arith, here, later.0))
  ],
  functions-outer scope read at [] cs later.1 before inner.1,
)
functions-outer scope read at (c ∷ cs) more later before inner = (before.0, functions-outer scope read at cs more later before.1 inner.1)

-- an encoding that begins at a place
pub encoding-fitted : (around : Around) (at : ℕ) (e : Term) (F : Fitting) (s : ℕ → Spelling) (old new : State) (more : List Candidate)
    → is_open e ≡ false → new.candidates ≡ old.candidates ++ more → AllBefore at old.candidates → AllAfter around.encoding more
    → ((allowed : Option ℕ) (place : ℕ) (cs : List Component) → F (in_name place) allowed place cs → (fits_of e).as_encoding allowed place cs)
    → ((n place : ℕ) (cs : List Component) → (s place place cs).components ≡ ((ways_of n e).as_encoding place cs).components)
    → Fitted (in_name at) F s e old new
    → Fitted around (λ inner allowed place cs. (fits_of e).as_encoding allowed place cs) (λ n. (ways_of n e).as_encoding) e old new
unfolding in_name
encoding-fitted around at e F s old new more shut grows before later into same inner = record {
  stay = inner.stay;
  fits = λ n place cs allowed front allows. (
      let p = inner.fits place place cs allowed (front-inner around n place at cs old before front) allows in
      let f = into allowed place cs p.fits in
      let added = (adds e).at fit.as_encoding allowed n n place cs f in
      let ds = ((ways_of n e).as_encoding place cs).components in
      record {
        fits = f;
        may = may-closed (pressed_at n around) allowed e shut;
        complete = added.complete front.complete;
        among = subst (λ l. StandAmong around.encoding n l ds) (sym grows)
            (among-outer around.encoding n at place old.candidates more cs ds added.keeps later front.among
            (subst (λ l. StandAmong at place l ds) grows (subst (StandAmong at place new.candidates) (same n place cs) p.among)));
        functions = subst (FunctionsStand around.scope around.encoding) (sym grows)
            (functions-outer around.scope around.encoding at old.candidates more later front.functions
            (subst (FunctionsStand None at) grows p.functions));
      });
}

-- ## The types of an encoding

functions-typed : (scope : Option Term) (at : ℕ) (cs : List Candidate) → AllShut at cs → FunctionsStand None at cs → FunctionsStand scope at cs
functions-typed scope at [] shut stand = tt
functions-typed scope at (c ∷ cs) shut stand = (
  λ may. (
      let closed : is_open c.tree ≡ false = elim may [ inl shut_ ↦ shut_ | inr here ↦ shut.0 here ] in
      stands-moved None scope c.tree (inr closed) (stand.0 (inl closed))),
  functions-typed scope at cs shut.1 stand.1,
)

pub functions-bare : (scope : Option Term) (at : ℕ) (cs : List Candidate) → FunctionsStand scope at cs → FunctionsStand None at cs
functions-bare scope at [] stand = tt
functions-bare scope at (c ∷ cs) stand = (
  λ may. stands-moved scope None c.tree (inl refl) (stand.0 may),
  functions-bare scope at cs stand.1,
)

-- a tree in the types of an encoding, if no tree with free parameters was made in the encoding before its types
pub types-fitted : (at : ℕ) (name e t : Term) (F : Fitting) (s : ℕ → Spelling) (mid new : State) → is_open e ≡ false
    → AllShut at mid.candidates → Fitted (in_types at name) F s t mid new
    → Fitted (in_name at) (λ inner. F (in_types inner.encoding name)) s e mid new
unfolding in_name in_types
types-fitted at name e t F s mid new shut all one = record {
  stay = one.stay;
  fits = λ n place cs allowed front allows. (
      let p = one.fits n place cs allowed (record {
        later = front.later;
        complete = front.complete;
        among = front.among;
        functions = functions-typed (arguments_of name) at mid.candidates all front.functions;
      }) allows in
      record {
        fits = p.fits;
        may = may-closed (pressed_at n (in_name at)) allowed e shut;
        complete = p.complete;
        among = p.among;
        functions = functions-bare (arguments_of name) at new.candidates p.functions;
      });
}
