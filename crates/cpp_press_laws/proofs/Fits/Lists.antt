-- A list of types that was read fits, and so does a function type that is made of one.
use Rattle.cpp_press_laws.proofs.Basics.{◌≡◌, ℕ, ◌+◌, length, List, [], ◌∷◌, ◌++◌, Bool, true, false, inl, inr, refl, sym, ◌∙◌, subst, ◌&&◌, codes, cond, and_right, false≢true, ◌and◌, text, RefQualifier, Term, symbol, builtin, function_type, nil, list, is_open, pack_length, State, Around, tree, tree_of, is_listed, appended, is_function_type, with_type, with_unqualified, is_void, is_nil, parameters, either, mark_letter, Component, Spelling, component, type_ways, no_ways, function_text, ways_of, Fitting, Behind, as_component, Slot, any_type, parameter_type, takes_all, type_fits, fits_nowhere, fits_of, IsAbiMark}
use Rattle.cpp_press_laws.proofs.Components.Parts.{Whole}
use Rattle.cpp_press_laws.proofs.Components.Known.{KeepsTo, text-keeps, and-keeps}
use Rattle.cpp_press_laws.proofs.Components.KnownTrees.{keeps}
use Rattle.cpp_press_laws.proofs.Components.Complete.{StandAmong}
use Rattle.cpp_press_laws.proofs.Fits.FunctionsStand.{function-stands}
use Rattle.cpp_press_laws.proofs.Slots.{each-slot}
use Rattle.cpp_press_laws.proofs.Fitting as fit
use Rattle.cpp_press_laws.proofs.Ways as way
use Rattle.cpp_press_laws.proofs.Components.AddedWays.{way_at, IsNotBare}
use Rattle.cpp_press_laws.proofs.Components.AddedTrees.{adds}
use Rattle.cpp_press_laws.proofs.Fits.Read.{pressed_at, Fitted, refitted, text-fitted, and-fitted, bytes-fitted, fitted-bytes, component-fitted, behind-both}
use Rattle.cpp_press_laws.proofs.Fits.Types.{may-as-two, may-closed, TypeFits, SolidFits}

-- ## Lists

-- the items of an encoding, or the parameters of a function type
abbrev pub ListFits : (around : Around) → Slot → Term → (old new : State) → Type 0
ListFits around slot t old new = Fitted around ((fits_of t).as_more_parameters slot) (λ n. (ways_of n t).as_more_parameters) t old new

pub nil-fits : (around : Around) (slot : Slot) (state : State) → ListFits around slot nil state state
unfolding fits_of fits_nowhere ways_of no_ways is_open
nil-fits around slot state =
    text-fitted around ((fits_of nil).as_more_parameters slot) [] nil state (λ n allowed place cs. tt)
    (λ n allowed. may-closed (pressed_at n around) allowed nil refl)

pub list-fits : (around : Around) (slot : Slot) (a b : Term) (old mid new : State) → TypeFits around slot a old mid
    → ListFits around slot b mid new → ListFits around slot (list a b) old new
unfolding fits_of fits_nowhere ways_of no_ways is_open pack_length
list-fits around slot a b old mid new one other =
    and-fitted one other (λ n allowed. may-as-two (pressed_at n around) allowed a b (list a b) refl (λ arguments. refl))

-- a lone void adds nothing
pub void-adds-none : (a b : Term) → is_void a && is_nil b ≡ true → (n place : ℕ) (cs : List Component)
    → ((ways_of n (list a b)).as_more_parameters place cs).components ≡ cs
unfolding is_void is_nil ways_of no_ways type_ways
void-adds-none (builtin (l ∷ [])) nil void n place cs = refl
void-adds-none (builtin (l ∷ [])) (symbol e suffix) void n place cs = absurd (false≢true (sym (and_right (is_void (builtin (l ∷ []))) false refl) ∙ void))
void-adds-none (builtin (l ∷ [])) b void n place cs = absurd (false≢true (sym (and_right (is_void (builtin (l ∷ []))) false refl) ∙ void))
void-adds-none (builtin []) b void n place cs = absurd (false≢true void)
void-adds-none (builtin (l ∷ m ∷ ls)) b void n place cs = absurd (false≢true void)
void-adds-none (symbol e suffix) b void n place cs = absurd (false≢true void)
void-adds-none _ b void n place cs = absurd (false≢true void)

-- parameters; a lone void means that there are none
abbrev pub ParametersFit : (around : Around) → Slot → Term → (old new : State) → Type 0
ParametersFit around slot t old new = Fitted around ((fits_of t).as_parameters slot) (λ n. (ways_of n t).as_parameters) t old new

pub no-parameters-fit : (around : Around) (slot : Slot) (a : Term) (s : ℕ → Spelling) (F : Fitting) (old new : State)
    → ((n place : ℕ) (cs : List Component) → (s n place cs).components ≡ cs) → Fitted around F s a old new → ParametersFit around slot nil old new
unfolding fits_of fits_nowhere ways_of no_ways is_open
no-parameters-fit around slot a s F old new none one = record {
  stay = one.stay;
  fits = λ n place cs allowed front allows. (
      let p = one.fits n place cs allowed front allows in
      record {
        fits = tt;
        may = may-closed (pressed_at n around) allowed nil refl;
        complete = front.complete;
        among = subst (λ l. StandAmong around.encoding n new.candidates l) (none n place cs) p.among;
        functions = p.functions;
      });
}

abbrev pub IsList : Term → Type 0
IsList nil = Unit {0}
IsList (list a b) = Unit {0}
IsList _ = ⊥

pub parameters-fit : (around : Around) (slot : Slot) (t : Term) (old new : State) → IsList t → ListFits around slot t old new
    → ParametersFit around slot (parameters t) old new
unfolding fits_of fits_nowhere ways_of no_ways parameters
parameters-fit around slot nil old new is one =
    no-parameters-fit around slot nil (λ n. (ways_of n nil).as_more_parameters) ((fits_of nil).as_more_parameters slot)
    old new (λ n place cs. refl) one
parameters-fit around slot (list a b) old new is one =
    either (λ t. ParametersFit around slot t old new) (is_void a && is_nil b) nil (list a b)
    (λ void. no-parameters-fit around slot (list a b) (λ n. (ways_of n (list a b)).as_more_parameters)
    ((fits_of (list a b)).as_more_parameters slot) old new (void-adds-none a b void) one)
    (λ others. refitted one (λ n allowed place cs fits. (others, fits)))
parameters-fit around slot (symbol e suffix) old new is one = absurd is
parameters-fit around slot _ old new is one = absurd is

-- ## Function types

abbrev FunctionSpelled : (c_linkage noexcept : Bool) → RefQualifier → (returned parameters_ : Term) → Fitting
FunctionSpelled c_linkage noexcept ref returned parameters_ around allowed place cs =
    (fits_of returned).as_type any_type around allowed (place + length (cond noexcept (codes "Do") [] ++ codes "F" ++ cond c_linkage
    (codes "Y") [])) cs
    × Behind (text (cond noexcept (codes "Do") [] ++ codes "F" ++ cond c_linkage (codes "Y") []) and (ways_of around.encoding returned).as_type)
    ((fits_of parameters_).as_parameters parameter_type around allowed) place cs
    × IsAbiMark ref

function-spelled : (around : Around) (c_linkage noexcept : Bool) (ref : RefQualifier) → IsAbiMark ref → (a b : Term) (old mid new : State)
    → TypeFits around any_type a old mid → ParametersFit around parameter_type b mid new
    → Fitted around (FunctionSpelled c_linkage noexcept ref a b)
    (λ n. function_text c_linkage noexcept ref (ways_of n a).as_type (ways_of n b).as_parameters) (function_type c_linkage noexcept ref a b) old new
unfolding function_text is_open pack_length
function-spelled around c_linkage noexcept ref good a b old mid new one other =
    let t : Term = function_type c_linkage noexcept ref a b in
    let marks : List ℕ = cond noexcept (codes "Do") [] ++ codes "F" ++ cond c_linkage (codes "Y") [] in
    let end : List ℕ = mark_letter ref ++ codes "E" in
    let B : Fitting = (fits_of b).as_parameters parameter_type in
    let s : ℕ → Spelling = λ n. (ways_of n a).as_type in
    refitted (bytes-fitted marks (and-fitted one (fitted-bytes end other)
    (λ n allowed. may-as-two (pressed_at n around) allowed a b t refl (λ arguments. refl))))
    (λ n allowed place cs fits. (fits.0, behind-both (text marks) (s n) (B (pressed_at n around) allowed) place cs fits.1, good))

-- a function type, which isn't a candidate right under qualifiers
pub function-fits : (around : Around) (c_linkage noexcept : Bool) (ref : RefQualifier) → IsAbiMark ref → (a b : Term) (old mid new : State)
    → TypeFits around any_type a old mid → ParametersFit around parameter_type b mid new
    → SolidFits takes_all around (tree (function_type c_linkage noexcept ref a b) false) old new
unfolding fits_of type_fits fits_nowhere ways_of type_ways no_ways with_type with_unqualified is_function_type tree_of is_listed takes_all way_at function_text
function-fits around c_linkage noexcept ref good a b old mid new one other = record {
  types = λ slot other_ take. go slot other_ take;
  bare = λ take. spelled;
}
  where
    t : Term
    t = function_type c_linkage noexcept ref a b

    s : ℕ → Spelling
    s = λ n. function_text c_linkage noexcept ref (ways_of n a).as_type (ways_of n b).as_parameters

    spelled : Fitted around (FunctionSpelled c_linkage noexcept ref a b) s t old new
    spelled = function-spelled around c_linkage noexcept ref good a b old mid new one other

    marks : List ℕ
    marks = cond noexcept (codes "Do") [] ++ codes "F" ++ cond c_linkage (codes "Y") []

    kept : (n : ℕ) → KeepsTo Unit n (Whole t) (s n)
    kept n =
        and-keeps Unit n (Whole t) (text marks) ((ways_of n a).as_type and (ways_of n b).as_parameters and text (mark_letter ref ++ codes "E"))
        (text-keeps Unit n (Whole t) marks)
        (and-keeps Unit n (Whole t) (ways_of n a).as_type ((ways_of n b).as_parameters and text (mark_letter ref ++ codes "E"))
        ((keeps a Unit n (Whole t) way.as_type) (λ x w. inr (inl w)))
        (and-keeps Unit n (Whole t) (ways_of n b).as_parameters (text (mark_letter ref ++ codes "E"))
        ((keeps b Unit n (Whole t) way.as_parameters) (λ x i. inr (inr i))) (text-keeps Unit n (Whole t) (mark_letter ref ++ codes "E"))))

    whole : Fitted around (as_component t (FunctionSpelled c_linkage noexcept ref a b)) (λ n. component n t (s n)) t old (appended around t new)
    whole = component-fitted spelled tt kept
        (λ n allowed place cs fits. function-stands c_linkage noexcept ref a b (pressed_at n around) allowed _ _ _ _ fits.0 fits.1 fits.2)
        (λ n allowed place cs fits. ((adds t).at fit.as_type any_type (pressed_at n around) allowed place cs fits).complete)

    go : (slot : Slot) → IsNotBare slot → takes_all slot ≡ true
        → Fitted around ((fits_of t).as_type slot) (λ n. (ways_of n t).as_type) t old (appended around t new)
    go = each-slot _ (λ h take. whole) (λ h take. absurd h) (λ h take. whole) (λ h take. whole) (λ h take. absurd (false≢true take))
