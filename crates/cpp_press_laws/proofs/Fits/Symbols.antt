-- An encoding of each sort that was read fits, since its name and its types fit.
use Rattle.cpp_press_laws.proofs.Basics.{◌≡◌, ℕ, ◌+◌, ◌<◌, length, List, [], ◌∷◌, ◌++◌, Option, Some, true, false, refl, ap, sym, subst, ◌∙◌, arith, ◌&&◌, codes, ◌and◌, text, Kind, Production, choose, Qualifiers, RefQualifier, Thunk, Term, symbol, function, object, special, thunk, of_name, nil, list, absent, is_open, has_return_type, Candidate, State, Around, in_name, in_types, is_void, is_nil, parameters, special_front, name_letters, thunk_text, Component, Spelling, no_ways, type_ways, name_ways, encoding_ways, piece_ways, argument_ways, begun, ways_of}
use Rattle.sym_spell.specs.Pressing as spell
use Rattle.cpp_grammar.proofs.Chosen as chosen
use Rattle.cpp_press_laws.proofs.Components.AddedNames.{at-none}
use Rattle.cpp_press_laws.proofs.Components.Complete.{AllBefore}
use Rattle.cpp_press_laws.specs.Fits.{Fitting, Slot, any_type, item_type, Behind, either, type_fits, piece_fits, argument_fits, encoding_fits, fits_nowhere, IsSpellableThunk, IsAbiMark, fits_of}
use Rattle.cpp_press_laws.proofs.Fits.Read.{pressed_at, Fitted, behind-both, and-fitted, bytes-fitted, fitted-as}
use Rattle.cpp_press_laws.proofs.Fits.Types.{TypeFits, may-closed}
use Rattle.cpp_press_laws.proofs.Fits.Lists.{ListFits, void-adds-none}
use Rattle.cpp_press_laws.proofs.Fits.Nests.{OwnNameFits}
use Rattle.cpp_press_laws.proofs.Fits.Encodings.{AllAfter, AllShut, encoding-fitted, types-fitted}

-- ## Where encodings are

-- old candidates were made in encodings that begin before `at`, and added candidates in encodings that begin after the
-- surrounding one
pub record StaysBehind (around : Around) (at : ℕ) (old new : State) : Type 0 where
  pub more : List Candidate
  pub grows : new.candidates ≡ old.candidates ++ more
  pub before : AllBefore at old.candidates
  pub later : AllAfter around.encoding more

abbrev pub WholeFits : Around → Term → (old new : State) → Type 0
WholeFits around e old new =
    Fitted around (λ inner allowed place cs. (fits_of e).as_encoding allowed place cs) (λ n. (ways_of n e).as_encoding) e old new

-- ## Guards and special encodings

pub guard-fits : (around : Around) (at : ℕ) (name : Term) (q : Qualifiers) (ref : RefQualifier) (old new : State) → IsAbiMark ref → StaysBehind around at old new
    → OwnNameFits (in_name at) name q ref old new → WholeFits around (of_name 86 name q ref) old new
unfolding special_front fits_of encoding_fits fits_nowhere ways_of encoding_ways no_ways begun is_open in_name
guard-fits around at name q ref old new good stays one =
    let e : Term = of_name 86 name q ref in
    let F : Fitting = λ inner allowed place cs. (fits_of name).as_name q ref inner allowed (place + 2) cs in
    encoding-fitted around at e F (λ n. text (codes "GV") and (ways_of n name).as_name (name_letters q ref)) old new
    stays.more refl stays.grows stays.before stays.later (λ allowed place cs fits. (refl, fits, good)) (λ n place cs. refl)
    (fitted-as (bytes-fitted (codes "GV") one) (λ n allowed may. may-closed (pressed_at n (in_name at)) allowed e refl))

-- a special encoding of a type, such as the type's table
pub special-fits : (around : Around) (at l : ℕ) (type : Term) (old new : State) → l < 256
    → choose Kind.Special l ≡ Some Production.SpecialType → StaysBehind around at old new
    → TypeFits (in_name at) any_type type old new → WholeFits around (special l type) old new
unfolding fits_of encoding_fits fits_nowhere ways_of encoding_ways no_ways begun is_open in_name
special-fits around at l type old new small chosen stays one =
    let e : Term = special l type in
    let F : Fitting = λ inner allowed place cs. (fits_of type).as_type any_type inner allowed (place + 2) cs in
    let s : ℕ → Spelling = λ n. text (codes "T" ++ l ∷ []) and (ways_of n type).as_type in
    encoding-fitted around at e F s old new stays.more refl stays.grows stays.before stays.later
    (λ allowed place cs fits. (small, chosen, fits)) (λ n place cs. refl)
    (fitted-as (bytes-fitted (codes "T" ++ l ∷ []) one)
    (λ n allowed may. may-closed (pressed_at n (in_name at)) allowed e refl))

-- a thunk of an encoding
pub thunk-fits : (around : Around) (at : ℕ) (kind : Thunk) (e : Term) (old new : State) → IsSpellableThunk kind → StaysBehind around at old new
    → WholeFits (in_name at) e old new → WholeFits around (thunk kind e) old new
unfolding fits_of encoding_fits fits_nowhere ways_of encoding_ways no_ways begun is_open in_name
thunk-fits around at kind e old new good stays one =
    let whole : Term = thunk kind e in
    let F : Fitting = λ inner allowed place cs. (fits_of e).as_encoding allowed (place + length (thunk_text kind)) cs in
    let s : ℕ → Spelling = λ n. text (thunk_text kind) and (ways_of n e).as_encoding in
    encoding-fitted around at whole F s old new stays.more refl stays.grows stays.before stays.later
    (λ allowed place cs fits. (good, fits)) (λ n place cs. refl)
    (fitted-as (bytes-fitted (thunk_text kind) one)
    (λ n allowed may. may-closed (pressed_at n (in_name at)) allowed whole refl))

-- ## Functions

at-zero : (place : ℕ) → place ≡ place + 0
at-zero place = omega arith

-- parameters; a lone void means that there are none
parameters-standing : (slot : Slot) (t : Term) (around : Around) (allowed : Option ℕ) (place : ℕ) (cs : List Component)
    → (fits_of t).as_more_parameters slot around allowed place cs → (fits_of (parameters t)).as_parameters slot around allowed place cs
unfolding fits_of type_fits piece_fits argument_fits encoding_fits fits_nowhere parameters
parameters-standing slot nil around allowed place cs fits = tt
parameters-standing slot (list a b) around allowed place cs fits =
    chosen.either (λ t. (fits_of t).as_parameters slot around allowed place cs) (is_void a && is_nil b) nil (list a b) (λ void. tt)
    (λ others. (others, fits))
parameters-standing slot (symbol e suffix) around allowed place cs fits = absurd fits
parameters-standing slot _ around allowed place cs fits = absurd fits

parameters-components : (t : Term) (n place : ℕ) (cs : List Component)
    → ((ways_of n t).as_more_parameters place cs).components ≡ ((ways_of n (parameters t)).as_parameters place cs).components
unfolding ways_of type_ways name_ways encoding_ways piece_ways argument_ways no_ways parameters
parameters-components nil n place cs = refl
parameters-components (list a b) n place cs =
    chosen.either (λ t. ((ways_of n (list a b)).as_more_parameters place cs).components ≡ ((ways_of n t).as_parameters place cs).components)
    (is_void a && is_nil b) nil (list a b)
    (λ void. void-adds-none a b void n place cs) (λ others. refl)
parameters-components (symbol e suffix) n place cs = refl
parameters-components _ n place cs = refl

-- the name of an encoding and its types
items-behind : (at : ℕ) (e name items : Term) (q : Qualifiers) (ref : RefQualifier) (old mid new : State) → is_open e ≡ false
    → AllShut at mid.candidates → OwnNameFits (in_name at) name q ref old mid → ListFits (in_types at name) item_type items mid new
    → Fitted (in_name at) (λ inner allowed place cs. (fits_of name).as_name q ref inner allowed place cs
    × Behind ((ways_of inner.encoding name).as_name (name_letters q ref))
    ((fits_of items).as_more_parameters item_type (in_types inner.encoding name) allowed) place cs)
    (λ n. (ways_of n name).as_name (name_letters q ref) and (ways_of n items).as_more_parameters) e old new
items-behind at e name items q ref old mid new shut all one other =
    and-fitted one (types-fitted at name e items ((fits_of items).as_more_parameters item_type)
    (λ n. (ways_of n items).as_more_parameters)
    mid new shut all other) (λ n allowed a b. b)

-- a function whose return type is spelled
pub returning-fits : (around : Around) (at : ℕ) (name first rest : Term) (q : Qualifiers) (ref : RefQualifier) (old mid new : State)
    → IsAbiMark ref → has_return_type name ≡ true → StaysBehind around at old new → AllShut at mid.candidates → OwnNameFits (in_name at) name q ref old mid
    → ListFits (in_types at name) item_type (list first rest) mid new → WholeFits around (function name q ref first (parameters rest)) old new
unfolding fits_of encoding_fits fits_nowhere ways_of encoding_ways no_ways begun is_open in_name in_types either
returning-fits around at name first rest q ref old mid new good returns stays all one other =
    let e : Term = function name q ref first (parameters rest) in
    encoding-fitted around at e _ _ old new stays.more refl stays.grows stays.before stays.later
    (λ allowed place cs fits. (
      fits.0,
      subst (λ b. Behind ((ways_of place name).as_name (name_letters q ref)) (λ p ds. either b
          ((fits_of first).as_type item_type (in_types place name) allowed p ds) (first ≡ absent)) place cs) (sym returns) fits.1.0,
      behind-both ((ways_of place name).as_name (name_letters q ref)) (ways_of place first).as_type
          ((fits_of (parameters rest)).as_parameters item_type (in_types place name) allowed) place cs
          (parameters-standing item_type rest (in_types place name) allowed _ _ fits.1.1),
      good,
    ))
    (λ n place cs. parameters-components rest place _ _)
    (items-behind at e name (list first rest) q ref old mid new refl all one other)

-- a function whose return type isn't spelled
pub plain-function-fits : (around : Around) (at : ℕ) (name items : Term) (q : Qualifiers) (ref : RefQualifier) (old mid new : State)
    → IsAbiMark ref → has_return_type name ≡ false → StaysBehind around at old new → AllShut at mid.candidates → OwnNameFits (in_name at) name q ref old mid
    → ListFits (in_types at name) item_type items mid new → WholeFits around (function name q ref absent (parameters items)) old new
unfolding fits_of encoding_fits fits_nowhere ways_of encoding_ways no_ways begun is_open in_name in_types either
plain-function-fits around at name items q ref old mid new good plain stays all one other =
    let e : Term = function name q ref absent (parameters items) in
    encoding-fitted around at e _ _ old new stays.more refl stays.grows stays.before stays.later
    (λ allowed place cs fits. (
      fits.0,
      subst (λ b. Behind ((ways_of place name).as_name (name_letters q ref)) (λ p ds. either b
          ((fits_of absent).as_type item_type (in_types place name) allowed p ds) (absent ≡ absent)) place cs) (sym plain) refl,
      behind-both ((ways_of place name).as_name (name_letters q ref)) (ways_of place absent).as_type
          ((fits_of (parameters items)).as_parameters item_type (in_types place name) allowed) place cs
          (at-none ((fits_of (parameters items)).as_parameters item_type (in_types place name) allowed) _ _
          (parameters-standing item_type items (in_types place name) allowed _ _ fits.1)),
      good,
    ))
    (λ n place cs. (
    let w : spell.Pressed Component = (ways_of place name).as_name (name_letters q ref) place cs in
    ap (λ p. spell.Pressed.components ((ways_of place items).as_more_parameters p w.components)) (at-zero (place + length w.bytes))
    ∙ parameters-components items place (place + length w.bytes + 0) w.components))
    (items-behind at e name items q ref old mid new refl all one other)

-- data, which has no types
pub object-fits : (around : Around) (at : ℕ) (name : Term) (q : Qualifiers) (ref : RefQualifier) (old mid new : State)
    → IsAbiMark ref → StaysBehind around at old new → AllShut at mid.candidates → OwnNameFits (in_name at) name q ref old mid
    → ListFits (in_types at name) item_type nil mid new → WholeFits around (object name q ref) old new
unfolding fits_of encoding_fits fits_nowhere ways_of encoding_ways no_ways begun is_open in_name
object-fits around at name q ref old mid new good stays all one other =
    encoding-fitted around at (object name q ref) _ _ old new stays.more refl stays.grows stays.before stays.later
    (λ allowed place cs fits. (fits.0, good)) (λ n place cs. refl)
    (items-behind at (object name q ref) name nil q ref old mid new refl all one other)
