-- A type that was read fits, both before and after it becomes a candidate.
use Rattle.cpp_press_laws.proofs.Basics.{◌≡◌, ℕ, ◌+◌, inl, inr, length, List, ◌++◌, Option, Some, None, Bool, true, false, refl, ap, sym, subst, ◌∙◌, ◌&&◌, ◌||◌, codes, Decimal, Digits, ◌and◌, text, Qualifiers, Term, pointer, lvalue, rvalue, array, member_pointer, qualified, vector, complex, is_open, first_of, pack_length, State, Around, Value, tree, tree_of, is_listed, appended, is_function_type, with_type, with_unqualified, packs_in, qualifier_letters, Component, Spelling, component, type_ways, no_ways, ways_of, AreSpellableDigits, Fitting, Behind, as_component, Slot, any_type, bare_type, item_type, parameter_type, literal_type, takes_all, takes_qualified, has_letters, type_fits, fits_nowhere, fits_of, PacksFit, MayBeReferred}
use Rattle.cpp_press_laws.proofs.Components.Parts.{IsComponent, Whole}
use Rattle.cpp_press_laws.proofs.Components.Known.{KeepsTo, text-keeps, and-keeps}
use Rattle.cpp_press_laws.proofs.Components.KnownTrees.{In, keeps}
use Rattle.cpp_press_laws.proofs.Components.Complete.{Complete}
use Rattle.cpp_press_laws.proofs.Fits.Packs.{closed-packs}
use Rattle.cpp_press_laws.proofs.Components.Again.{FunctionStands}
use Rattle.cpp_press_laws.proofs.Fits.FunctionsStand.{packs-none, first-fits}
use Rattle.cpp_press_laws.proofs.Fitting as fit
use Rattle.cpp_press_laws.proofs.Ways as way
use Rattle.cpp_press_laws.proofs.Components.AddedWays.{way_at, IsNotBare}
use Rattle.cpp_press_laws.proofs.Components.AddedTrees.{adds}
use Rattle.cpp_press_laws.proofs.Fits.Read.{pressed_at, Fitted, refitted, and-fitted, bytes-fitted, component-fitted, behind-both, fitted-as}

-- ## What may be referred to

packs-same : (scope : Option Term) (a t : Term) → ((arguments : Term) → pack_length arguments t ≡ pack_length arguments a)
    → packs_in scope t ≡ packs_in scope a
unfolding packs_in
packs-same None a t same = refl
packs-same (Some arguments) a t same = same arguments

packs-of-two : (scope : Option Term) (a b t : Term)
    → ((arguments : Term) → pack_length arguments t ≡ first_of (pack_length arguments a) (pack_length arguments b))
    → packs_in scope t ≡ first_of (packs_in scope a) (packs_in scope b)
unfolding packs_in first_of
packs-of-two None a b t same = refl
packs-of-two (Some arguments) a b t same = same arguments

-- a tree may be referred to where another one with the same free parameters and packs may be
pub may-as : (around : Around) (allowed : Option ℕ) (a t : Term) → is_open t ≡ is_open a
    → ((arguments : Term) → pack_length arguments t ≡ pack_length arguments a)
    → MayBeReferred around allowed a → MayBeReferred around allowed t
may-as around allowed a t open_ packs may = record {
  lambda = ap (λ b. b && around.in_lambda) open_ ∙ may.lambda;
  packs = subst (PacksFit around allowed) (sym (packs-same around.scope a t packs)) may.packs;
}

both-shut : (a b c : Bool) → a && c ≡ false → b && c ≡ false → (a || b) && c ≡ false
both-shut true b c one other = one
both-shut false b c one other = other

-- a tree may be referred to where two others may be, if these together have its free parameters and packs
pub may-as-two : (around : Around) (allowed : Option ℕ) (a b t : Term) → is_open t ≡ (is_open a || is_open b)
    → ((arguments : Term) → pack_length arguments t ≡ first_of (pack_length arguments a) (pack_length arguments b))
    → MayBeReferred around allowed a → MayBeReferred around allowed b → MayBeReferred around allowed t
may-as-two around allowed a b t open_ packs one other = record {
  lambda = ap (λ c. c && around.in_lambda) open_ ∙ both-shut (is_open a) (is_open b) around.in_lambda one.lambda other.lambda;
  packs = subst (PacksFit around allowed) (sym (packs-of-two around.scope a b t packs))
      (first-fits around allowed (packs_in around.scope a) (packs_in around.scope b) one.packs other.packs);
}

-- a tree without free parameters may always be referred to
pub may-closed : (around : Around) (allowed : Option ℕ) (t : Term) → is_open t ≡ false → MayBeReferred around allowed t
may-closed around allowed t closed = record {
  lambda = ap (λ b. b && around.in_lambda) closed;
  packs = inl (packs-none around.scope t (λ arguments. closed-packs arguments t closed));
}

-- ## Types where they are

abbrev pub TypeFits : (around : Around) → Slot → Term → (old new : State) → Type 0
TypeFits around slot t old new = Fitted around ((fits_of t).as_type slot) (λ n. (ways_of n t).as_type) t old new

-- a type fits directly under qualifiers
abbrev pub BareFits : (around : Around) → Term → (old new : State) → Type 0
BareFits around t old new = Fitted around ((fits_of t).as_type bare_type) (λ n. (ways_of n t).under_qualifiers) t old new

-- A type fits in some slots, and directly under qualifiers. It becomes a candidate differently in these two cases, so the
-- states after it differ.
pub record SolidAs (takes : Slot → Bool) (around : Around) (t : Term) (as_type : Slot → Fitting) (typed under : ℕ → Spelling)
    (old listed bared : State) : Type 0 where
  pub types : (slot : Slot) → IsNotBare slot → takes slot ≡ true → Fitted around (as_type slot) typed t old listed
  pub bare : takes bare_type ≡ true → Fitted around (as_type bare_type) under t old bared

-- a type's value, before the type is a candidate
abbrev pub SolidFits : (takes : Slot → Bool) → Around → Value → (old new : State) → Type 0
SolidFits takes around v old new =
    SolidAs takes around (tree_of v) (fits_of (tree_of v)).as_type (λ n. (ways_of n (tree_of v)).as_type)
    (λ n. (ways_of n (tree_of v)).under_qualifiers) old (with_type around v new) (with_unqualified around v new)

-- ## Components that are spelled alike wherever they are

pub typed-complete : (t : Term) → ((n : ℕ) → (ways_of n t).under_qualifiers ≡ (ways_of n t).as_type) → (slot : Slot) (around : Around)
    (allowed : Option ℕ) (place : ℕ) (cs : List Component) → (fits_of t).as_type slot around allowed place cs → Complete cs
    → Complete ((ways_of around.encoding t).as_type place cs).components
unfolding way_at
typed-complete t alike any_type around allowed place cs fits = ((adds t).at fit.as_type any_type around allowed place cs fits).complete
typed-complete t alike item_type around allowed place cs fits = ((adds t).at fit.as_type item_type around allowed place cs fits).complete
typed-complete t alike parameter_type around allowed place cs fits = ((adds t).at fit.as_type parameter_type around allowed place cs fits).complete
typed-complete t alike literal_type around allowed place cs fits = ((adds t).at fit.as_type literal_type around allowed place cs fits).complete
typed-complete t alike bare_type around allowed place cs fits =
    subst (λ w. Complete cs → Complete (w place cs).components) (alike around.encoding)
    ((adds t).at fit.as_type bare_type around allowed place cs fits).complete

-- what is known of a component that isn't a function type
pub record Spelled (around : Around) (t : Term) (G : Slot → Fitting) (s : ℕ → Spelling) : Type 0 where
  pub is : IsComponent t
  pub keeps : (n : ℕ) → KeepsTo Unit n (Whole t) (s n)
  pub function : FunctionStands around.scope t
  pub whole : (slot : Slot) (n : ℕ) (allowed : Option ℕ) (place : ℕ) (cs : List Component)
      → as_component t (G slot) (pressed_at n around) allowed place cs → Complete cs → Complete (component n t (s n) place cs).components

pub spelled-fitted : (around : Around) (t : Term) (G : Slot → Fitting) (s : ℕ → Spelling) (slot : Slot) (old new : State)
    → Spelled around t G s → Fitted around (G slot) s t old new
    → Fitted around (as_component t (G slot)) (λ n. component n t (s n)) t old (appended around t new)
spelled-fitted around t G s slot old new spelled one =
    component-fitted one spelled.is spelled.keeps (λ n allowed place cs fits. spelled.function) (spelled.whole slot)

pub spelled-solid : (takes : Slot → Bool) (around : Around) (t : Term) (G : Slot → Fitting) (s : ℕ → Spelling) (old new : State)
    → Spelled around t G s → ((slot : Slot) → takes slot ≡ true → Fitted around (G slot) s t old new)
    → SolidAs takes around t (λ slot. as_component t (G slot)) (λ n. component n t (s n)) (λ n. component n t (s n)) old
    (appended around t new) (appended around t new)
spelled-solid takes around t G s old new spelled one = record {
  types = λ slot other take. spelled-fitted around t G s slot old new spelled (one slot take);
  bare = λ take. spelled-fitted around t G s bare_type old new spelled (one bare_type take);
}

-- a type after bytes adds only the components in it
pub bytes-keep : (n : ℕ) (t a : Term) (bytes : List ℕ) → In (Whole a) (Whole t) → KeepsTo Unit n (Whole t) (text bytes and (ways_of n a).as_type)
bytes-keep n t a bytes inside =
    and-keeps Unit n (Whole t) (text bytes) (ways_of n a).as_type (text-keeps Unit n (Whole t) bytes) ((keeps a Unit n (Whole t) way.as_type) inside)

-- a component of one type after bytes
pub one-part : (takes : Slot → Bool) (around : Around) (t a : Term) (bytes : List ℕ) (G : Slot → Fitting) (old new : State)
    → Spelled around t G (λ n. text bytes and (ways_of n a).as_type) → is_open t ≡ is_open a
    → ((arguments : Term) → pack_length arguments t ≡ pack_length arguments a)
    → ((slot : Slot) → takes slot ≡ true → (n : ℕ) (allowed : Option ℕ) (place : ℕ) (cs : List Component)
    → (fits_of a).as_type any_type (pressed_at n around) allowed (place + length bytes) cs → G slot (pressed_at n around) allowed place cs)
    → TypeFits around any_type a old new
    → SolidAs takes around t (λ slot. as_component t (G slot)) (λ n. component n t (text bytes and (ways_of n a).as_type))
    (λ n. component n t (text bytes and (ways_of n a).as_type)) old (appended around t new) (appended around t new)
one-part takes around t a bytes G old new spelled open_ packs more one =
    let s : ℕ → Spelling = λ n. text bytes and (ways_of n a).as_type in
    spelled-solid takes around t G s old new spelled
    (λ slot take. refitted (fitted-as (bytes-fitted bytes one)
    (λ n allowed. may-as (pressed_at n around) allowed a t open_ packs)) (more slot take))

-- ## Pointers and their like

pub pointer-fits : (takes : Slot → Bool) (around : Around) (a : Term) (old new : State) → TypeFits around any_type a old new
    → SolidFits takes around (tree (pointer a) false) old new
unfolding fits_of type_fits fits_nowhere ways_of type_ways no_ways is_open pack_length with_type with_unqualified is_function_type tree_of is_listed
pointer-fits takes around a old new one =
    one-part takes around (pointer a) a (codes "P")
    (λ slot inner allowed place cs. (fits_of a).as_type any_type inner allowed (place + length (codes "P")) cs) old new
    (record {
      is = tt;
      keeps = λ n. bytes-keep n (pointer a) a (codes "P") (λ x w. inr w);
      function = tt;
      whole = λ slot n. typed-complete (pointer a) (λ m. refl) slot (pressed_at n around);
    }) refl (λ arguments. refl) (λ slot take n allowed place cs fits. fits) one

-- Generated by tools/trees.py.
pub lvalue-fits : (around : Around) (type : Term) (old new : State) → TypeFits around any_type type old new
    → SolidFits takes_all around (tree (lvalue type) false) old new
unfolding fits_of type_fits fits_nowhere ways_of type_ways no_ways is_open pack_length with_type with_unqualified is_function_type tree_of is_listed
lvalue-fits around type old new one =
    one-part takes_all around (lvalue type) type (codes "R") (λ slot inner allowed place cs. (takes_all slot ≡ true) × (fits_of type).as_type any_type inner allowed (place + length (codes "R")) cs) old new
    (record {
      is = tt;
      keeps = λ n. bytes-keep n (lvalue type) type (codes "R") (λ x w. inr w);
      function = tt;
      whole = λ slot n. typed-complete (lvalue type) (λ m. refl) slot (pressed_at n around);
    }) refl (λ arguments. refl) (λ slot take n allowed place cs fits. (take, fits)) one

-- Generated by tools/trees.py.
pub rvalue-fits : (around : Around) (type : Term) (old new : State) → TypeFits around any_type type old new
    → SolidFits takes_all around (tree (rvalue type) false) old new
unfolding fits_of type_fits fits_nowhere ways_of type_ways no_ways is_open pack_length with_type with_unqualified is_function_type tree_of is_listed
rvalue-fits around type old new one =
    one-part takes_all around (rvalue type) type (codes "O") (λ slot inner allowed place cs. (takes_all slot ≡ true) × (fits_of type).as_type any_type inner allowed (place + length (codes "O")) cs) old new
    (record {
      is = tt;
      keeps = λ n. bytes-keep n (rvalue type) type (codes "O") (λ x w. inr w);
      function = tt;
      whole = λ slot n. typed-complete (rvalue type) (λ m. refl) slot (pressed_at n around);
    }) refl (λ arguments. refl) (λ slot take n allowed place cs fits. (take, fits)) one

-- Generated by tools/trees.py.
pub complex-fits : (around : Around) (type : Term) (old new : State) → TypeFits around any_type type old new
    → SolidFits takes_all around (tree (complex type) false) old new
unfolding fits_of type_fits fits_nowhere ways_of type_ways no_ways is_open pack_length with_type with_unqualified is_function_type tree_of is_listed
complex-fits around type old new one =
    one-part takes_all around (complex type) type (codes "C") (λ slot inner allowed place cs. (takes_all slot ≡ true) × (fits_of type).as_type any_type inner allowed (place + length (codes "C")) cs) old new
    (record {
      is = tt;
      keeps = λ n. bytes-keep n (complex type) type (codes "C") (λ x w. inr w);
      function = tt;
      whole = λ slot n. typed-complete (complex type) (λ m. refl) slot (pressed_at n around);
    }) refl (λ arguments. refl) (λ slot take n allowed place cs fits. (take, fits)) one

-- Generated by tools/trees.py.
pub array-fits : (around : Around) (digits : List ℕ) (type : Term) (old new : State) → AreSpellableDigits Decimal digits → TypeFits around any_type type old new
    → SolidFits takes_all around (tree (array digits type) false) old new
unfolding fits_of type_fits fits_nowhere ways_of type_ways no_ways is_open pack_length with_type with_unqualified is_function_type tree_of is_listed
array-fits around digits type old new digit one =
    one-part takes_all around (array digits type) type (codes "A" ++ digits ++ codes "_") (λ slot inner allowed place cs. (takes_all slot ≡ true) × AreSpellableDigits Decimal digits × (fits_of type).as_type any_type inner allowed (place + length (codes "A" ++ digits ++ codes "_")) cs) old new
    (record {
      is = tt;
      keeps = λ n. bytes-keep n (array digits type) type (codes "A" ++ digits ++ codes "_") (λ x w. inr w);
      function = tt;
      whole = λ slot n. typed-complete (array digits type) (λ m. refl) slot (pressed_at n around);
    }) refl (λ arguments. refl) (λ slot take n allowed place cs fits. (take, digit, fits)) one

-- Generated by tools/trees.py.
pub vector-fits : (around : Around) (digits : List ℕ) (type : Term) (old new : State) → AreSpellableDigits Digits digits → TypeFits around any_type type old new
    → SolidFits takes_all around (tree (vector digits type) false) old new
unfolding fits_of type_fits fits_nowhere ways_of type_ways no_ways is_open pack_length with_type with_unqualified is_function_type tree_of is_listed
vector-fits around digits type old new digit one =
    one-part takes_all around (vector digits type) type (codes "Dv" ++ digits ++ codes "_") (λ slot inner allowed place cs. (takes_all slot ≡ true) × AreSpellableDigits Digits digits × (fits_of type).as_type any_type inner allowed (place + length (codes "Dv" ++ digits ++ codes "_")) cs) old new
    (record {
      is = tt;
      keeps = λ n. bytes-keep n (vector digits type) type (codes "Dv" ++ digits ++ codes "_") (λ x w. inr w);
      function = tt;
      whole = λ slot n. typed-complete (vector digits type) (λ m. refl) slot (pressed_at n around);
    }) refl (λ arguments. refl) (λ slot take n allowed place cs fits. (take, digit, fits)) one

-- a pointer to a member fits if its two parts fit
pub member-pointer-fits : (takes : Slot → Bool) (around : Around) (a b : Term) (old mid new : State) → TypeFits around any_type a old mid
    → TypeFits around any_type b mid new → SolidFits takes around (tree (member_pointer a b) false) old new
unfolding fits_of type_fits fits_nowhere ways_of type_ways no_ways is_open pack_length with_type with_unqualified is_function_type tree_of is_listed
member-pointer-fits takes around a b old mid new one other =
    let t : Term = member_pointer a b in
    let A : Fitting = (fits_of a).as_type any_type in
    let B : Fitting = (fits_of b).as_type any_type in
    let s : ℕ → Spelling = λ n. (ways_of n a).as_type in
    let r : ℕ → Spelling = λ n. (ways_of n b).as_type in
    let G : Slot → Fitting = λ slot inner allowed place cs. A inner allowed (place + 1) cs
    × Behind (text (codes "M") and s inner.encoding) (B inner allowed) place cs in
    spelled-solid takes around t G (λ n. text (codes "M") and s n and r n) old new (record {
      is = tt;
      keeps = λ n. and-keeps Unit n (Whole t) (text (codes "M")) (s n and r n) (text-keeps Unit n (Whole t) (codes "M"))
          (and-keeps Unit n (Whole t) (s n) (r n) ((keeps a Unit n (Whole t) way.as_type) (λ x w. inr (inl w)))
          ((keeps b Unit n (Whole t) way.as_type) (λ x w. inr (inr w))));
      function = tt;
      whole = λ slot n. typed-complete t (λ m. refl) slot (pressed_at n around);
    }) (λ slot take. refitted (bytes-fitted (codes "M")
    (and-fitted one other (λ n allowed. may-as-two (pressed_at n around) allowed a b t refl (λ arguments. refl))))
    (λ n allowed place cs fits. (fits.0, behind-both (text (codes "M")) (s n) (B (pressed_at n around) allowed) place cs fits.1)))

-- ## Qualified types

-- a bare type after the letters of qualifiers
pub qualified-fits : (around : Around) (q : Qualifiers) (a : Term) (slot : Slot) (old new : State) → takes_qualified slot ≡ true
    → has_letters q ≡ true → BareFits around a old new → TypeFits around slot (qualified q a) old (appended around (qualified q a) new)
unfolding fits_of type_fits fits_nowhere ways_of type_ways no_ways is_open pack_length
qualified-fits around q a slot old new take letters one =
    let t : Term = qualified q a in
    let bytes : List ℕ = qualifier_letters q in
    let s : ℕ → Spelling = λ n. text bytes and (ways_of n a).under_qualifiers in
    let F : Fitting = λ inner allowed place cs. (fits_of a).as_type bare_type inner allowed (place + length bytes) cs in
    let G : Slot → Fitting = λ slot inner allowed place cs. (takes_qualified slot ≡ true) × (has_letters q ≡ true)
    × F inner allowed place cs in
    spelled-fitted around t G s slot old new (record {
      is = tt;
      keeps = λ n. and-keeps Unit n (Whole t) (text bytes) (ways_of n a).under_qualifiers
          (text-keeps Unit n (Whole t) bytes) ((keeps a Unit n (Whole t) way.under_qualifiers) (λ x w. inr w));
      function = tt;
      whole = λ slot n. typed-complete t (λ m. refl) slot (pressed_at n around);
    }) (refitted (fitted-as (bytes-fitted bytes one)
    (λ n allowed. may-as (pressed_at n around) allowed a t refl (λ arguments. refl)))
    (λ n allowed place cs fits. (take, letters, fits)))
