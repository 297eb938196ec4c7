-- A name that was read piece by piece fits: a longer name fits if what comes before its last piece fits, and the piece fits
-- after that.
use Rattle.cpp_press_laws.proofs.Basics.{◌≡◌, ℕ, ◌+◌, inl, inr, List, [], ◌∷◌, Option, true, false, refl, subst, Bool, codes, ◌and◌, text, and-assoc-at, Term, alone, in_std, within, instance, is_open, pack_length, State, Prefix, outermost, behind, Around, by_all, appended, after, inside, Component, Spelling, ended, component, no_ways, name_ways, ways_of, Fitting, as_component, begins_name, names_function, names_member, fits_of, MayBeReferred}
use Rattle.sym_spell.specs.Pressing as spell
use Rattle.cpp_press_laws.proofs.Components.Parts.{IsComponent, Inside, Whole, prefix-whole}
use Rattle.cpp_press_laws.proofs.Components.Known.{KeepsTo, text-keeps, and-keeps}
use Rattle.cpp_press_laws.proofs.Components.KnownTrees.{In, keeps}
use Rattle.cpp_press_laws.proofs.Components.Complete.{Complete, complete-ended, StandAmong, among-ended}
use Rattle.cpp_press_laws.proofs.Components.Again.{FunctionStands}
use Rattle.cpp_press_laws.proofs.Fitting as fit
use Rattle.cpp_press_laws.proofs.Ways as way
use Rattle.cpp_press_laws.proofs.Components.AddedWays.{AddsParts}
use Rattle.cpp_press_laws.proofs.Components.AddedTrees.{adds}
use Rattle.cpp_press_laws.proofs.Fits.Read.{pressed_at, functions-append, Fitted, refitted, and-fitted, bytes-fitted, fitted-bytes, component-fitted, fitted-as}
use Rattle.cpp_press_laws.proofs.Fits.Types.{may-as, may-as-two}
use Rattle.cpp_press_laws.proofs.EveryWay.Within.{piece-anywhere}

-- ## Surroundings and spellings

-- the same surroundings after another prefix
abbrev pub having : Prefix → Around → Around
having prefix around = record {
  scope = around.scope;
  encoding = around.encoding;
  in_lambda = around.in_lambda;
  in_expansion = around.in_expansion;
  prefix = prefix;
  showing = around.showing;
}

-- what fits in these surroundings with another prefix also fits in these surroundings themselves, if its fitting sets
-- that prefix
pub moved : (around : Around) (prefix : Prefix) {F : Fitting} {s : ℕ → Spelling} {t : Term} {old new : State}
    → Fitted (having prefix around) F s t old new → Fitted around (λ inner. F (having prefix inner)) s t old new
moved around prefix one = record {
  stay = one.stay;
  fits = λ n place cs allowed front allows. (
      let p = one.fits n place cs allowed (record {
        later = front.later;
        complete = front.complete;
        among = front.among;
        functions = front.functions;
      }) allows in
      record {
        fits = p.fits;
        may = record { lambda = p.may.lambda; packs = p.may.packs };
        complete = p.complete;
        among = p.among;
        functions = p.functions;
      });
}

-- what fits with one spelling fits with an equal spelling
pub respelled : {around : Around} {F : Fitting} {s r : ℕ → Spelling} {t : Term} {old new : State} → Fitted around F s t old new
    → ((n place : ℕ) (cs : List Component) → s n place cs ≡ r n place cs) → Fitted around F r t old new
respelled {around} {F} {s} {r} {t} {old} {new} one same = record {
  stay = one.stay;
  fits = λ n place cs allowed front allows. (
      let p = one.fits n place cs allowed front allows in
      record {
        fits = p.fits;
        may = p.may;
        complete = subst (λ w. Complete (spell.Pressed.components w)) (same n place cs) p.complete;
        among = subst (λ w. StandAmong around.encoding n new.candidates (spell.Pressed.components w)) (same n place cs) p.among;
        functions = p.functions;
      });
}

-- a tree that fits becomes a component without more bytes, and a candidate
pub ended-fitted : {k : ℕ} {around : Around} {t : Term} {F : Fitting} {s : ℕ → Spelling} {old new : State} → Fitted around F s t old new
    → IsComponent t → FunctionStands around.scope t
    → ((n : ℕ) (allowed : Option ℕ) (place : ℕ) (cs : List Component) → F (pressed_at n around) allowed place cs
    → AddsParts k n (Inside t) cs (s n place cs))
    → Fitted around F (λ n. s n and ended n t) t old (appended around t new)
unfolding ended appended
ended-fitted {k} {around} {t} {F} {s} {old} {new} one is stands whole = record {
  stay = one.stay;
  fits = λ n place cs allowed front allows. (
      let p = one.fits n place cs allowed front allows in
      record {
        fits = p.fits;
        may = p.may;
        complete = complete-ended n t (s n place cs).components p.complete ((whole n allowed place cs p.fits).has front.complete);
        among = among-ended around.encoding n around.in_lambda t new.candidates (s n place cs).components is p.among;
        functions = functions-append around.scope around.encoding new.candidates (record { tree = t; encoding = around.encoding; in_lambda = around.in_lambda; counted = by_all } ∷ [])
            p.functions (λ may. stands, tt);
      });
}

-- ## The ways of names

abbrev pub PrefixFits : Around → Term → (old now : State) → Type 0
PrefixFits around t old now = Fitted around (fits_of t).as_prefix (λ n. (ways_of n t).as_prefix) t old now

-- a prefix to which arguments are added
abbrev pub TemplatePrefixFits : Around → Term → (old now : State) → Type 0
TemplatePrefixFits around t old now = Fitted around (fits_of t).as_prefix_template (λ n. (ways_of n t).as_prefix) t old now

abbrev pub BetweenFits : Around → Term → (old now : State) → Type 0
BetweenFits around t old now = Fitted around (fits_of t).between (λ n. (ways_of n t).between_N_and_E) t old now

abbrev pub TemplateBetweenFits : Around → Term → (old now : State) → Type 0
TemplateBetweenFits around t old now = Fitted around (fits_of t).between_template (λ n. (ways_of n t).between_N_and_E) t old now

abbrev pub PieceFits : Around → Term → (old now : State) → Type 0
PieceFits around p old now = Fitted around (fits_of p).as_piece (λ n. (ways_of n p).as_piece) p old now

-- the arguments of a template, without their I and E
abbrev pub ElementsFit : Around → Term → (old now : State) → Type 0
ElementsFit around a old now = Fitted (inside around) ((fits_of a).as_elements false) (λ n. (ways_of n a).as_elements) a old now

-- the arguments with their I and E, whatever name comes before them
abbrev pub arguments_standing : Term → Fitting
arguments_standing a around allowed place cs = (fits_of a).as_elements false (inside around) allowed (place + 1) cs

abbrev pub arguments_text : Term → ℕ → Spelling
arguments_text a n = text (codes "I") and (ways_of n a).as_elements and text (codes "E")

pub arguments-fitted : (around : Around) (a : Term) (old now : State) → ElementsFit around a old now
    → Fitted around (arguments_standing a) (arguments_text a) a old now
unfolding inside
arguments-fitted around a old now one =
    bytes-fitted (codes "I") (fitted-bytes (codes "E") (moved around outermost one))

-- ## A piece after a prefix

pub within-may : (around : Around) (t p : Term) (n : ℕ) (allowed : Option ℕ) → MayBeReferred (pressed_at n around) allowed t
    → MayBeReferred (pressed_at n around) allowed p → MayBeReferred (pressed_at n around) allowed (within t p)
unfolding is_open pack_length
within-may around t p n allowed one other =
    may-as-two (pressed_at n around) allowed t p (within t p) refl (λ arguments. refl) one other

-- a piece after a prefix
pub within-joined : (around : Around) (t p : Term) (listed : Bool) (old mid now : State) → names_member p ≡ true → PrefixFits around t old mid
    → PieceFits (after t listed around) p mid now → BetweenFits around (within t p) old now
unfolding after fits_of ways_of name_ways no_ways
within-joined around t p listed old mid now names one other =
    refitted (and-fitted one (moved around (behind t listed) other) (within-may around t p))
    (λ n allowed place cs both. (
      both.0,
      names,
      piece-anywhere p around.scope n around.in_lambda around.in_expansion around.showing (behind t listed) (behind t true) allowed _ _ both.1,
    ))

-- A name between N and E becomes a component when it is a prefix.
pub prefix-component : {around : Around} {t : Term} {F G : Fitting} {old now : State}
    → Fitted around F (λ n. (ways_of n t).between_N_and_E) t old now → IsComponent t → FunctionStands around.scope t
    → ((n : ℕ) (allowed : Option ℕ) (place : ℕ) (cs : List Component) → F (pressed_at n around) allowed place cs
    → G (pressed_at n around) allowed place cs)
    → ((n : ℕ) (allowed : Option ℕ) (place : ℕ) (cs : List Component) → as_component t G (pressed_at n around) allowed place cs → Complete cs
    → Complete (component n t (ways_of n t).between_N_and_E place cs).components)
    → Fitted around (as_component t G) (λ n. component n t (ways_of n t).between_N_and_E) t old (appended around t now)
prefix-component {around} {t} {F} {G} {old} {now} one is stands more whole =
    component-fitted (refitted one more) is (λ n. (keeps t Unit n (Whole t) way.between_N_and_E) (λ x i. inr i))
    (λ n allowed place cs fits. stands) whole

-- a prefix and a piece become a component when both together are a prefix
pub within-prefix : (around : Around) (t p : Term) (old now : State) → BetweenFits around (within t p) old now
    → PrefixFits around (within t p) old (appended around (within t p) now)
unfolding fits_of ways_of name_ways no_ways
within-prefix around t p old now one =
    prefix-component one tt tt (λ n allowed place cs joined. inr joined)
    (λ n allowed place cs fits. ((adds (within t p)).at fit.as_prefix (pressed_at n around) allowed place cs fits).complete)

pub within-prefix-template : (around : Around) (t p : Term) (old now : State) → BetweenFits around (within t p) old now
    → TemplatePrefixFits around (within t p) old (appended around (within t p) now)
unfolding fits_of ways_of name_ways no_ways
within-prefix-template around t p old now one =
    prefix-component one tt tt (λ n allowed place cs joined. inr joined)
    (λ n allowed place cs fits. ((adds (within t p)).at fit.as_prefix_template (pressed_at n around) allowed place cs fits).complete)

-- ## A piece after St

pub std-between : (around : Around) (p : Term) (old now : State) → names_function p ≡ true → PieceFits around p old now
    → BetweenFits around (in_std p) old now
unfolding fits_of ways_of name_ways no_ways is_open pack_length
std-between around p old now names one =
    refitted (fitted-as (bytes-fitted (codes "St") one)
    (λ n allowed may. may-as (pressed_at n around) allowed p (in_std p) refl (λ arguments. refl) may))
    (λ n allowed place cs fits. (names, fits))

pub std-prefix : (around : Around) (p : Term) (old now : State) → BetweenFits around (in_std p) old now
    → PrefixFits around (in_std p) old (appended around (in_std p) now)
unfolding fits_of ways_of name_ways no_ways
std-prefix around p old now one =
    prefix-component one tt tt (λ n allowed place cs fits. fits)
    (λ n allowed place cs fits. ((adds (in_std p)).at fit.as_prefix (pressed_at n around) allowed place cs fits).complete)

-- ## Arguments after a template name

pub instance-may : (around : Around) (t a : Term) (n : ℕ) (allowed : Option ℕ) → MayBeReferred (pressed_at n around) allowed t
    → MayBeReferred (pressed_at n around) allowed a → MayBeReferred (pressed_at n around) allowed (instance t a)
unfolding is_open pack_length
instance-may around t a n allowed one other =
    may-as-two (pressed_at n around) allowed t a (instance t a) refl (λ arguments. refl) one other

-- an instance between N and E
pub instance-between : (around : Around) (t a : Term) (old mid now : State) → IsComponent t → FunctionStands around.scope t
    → TemplateBetweenFits around t old mid → ElementsFit around a (appended around t mid) now → BetweenFits around (instance t a) old now
unfolding fits_of ways_of name_ways no_ways
instance-between around t a old mid now is stands one other =
    let s : ℕ → Spelling = λ n. (ways_of n t).between_N_and_E in
    respelled (and-fitted (ended-fitted one is stands
    (λ n. (adds t).at fit.between_template (pressed_at n around)))
    (arguments-fitted around a (appended around t mid) now other) (instance-may around t a))
    (λ n place cs. and-assoc-at (s n) (ended n t) (arguments_text a n) place cs)

-- arguments add only the components in them
pub arguments-keep : (n : ℕ) (R : Term → Type 0) (a : Term) → In (Inside a) R → KeepsTo Unit n R (arguments_text a n)
arguments-keep n R a inside =
    and-keeps Unit n R (text (codes "I")) ((ways_of n a).as_elements and text (codes "E")) (text-keeps Unit n R (codes "I"))
    (and-keeps Unit n R (ways_of n a).as_elements (text (codes "E")) ((keeps a Unit n R way.as_elements) inside) (text-keeps Unit n R (codes "E")))

-- an instance as a prefix
pub instance-prefix : (around : Around) (t a : Term) (old mid now : State) → TemplatePrefixFits around t old mid
    → ElementsFit around a mid now → PrefixFits around (instance t a) old (appended around (instance t a) now)
unfolding fits_of ways_of name_ways no_ways
instance-prefix around t a old mid now one other =
    let own : Term = instance t a in
    let s : ℕ → Spelling = λ n. (ways_of n t).as_prefix in
    component-fitted (and-fitted one (arguments-fitted around a mid now other) (instance-may around t a)) tt
    (λ n. and-keeps Unit n (Whole own) (s n) (arguments_text a n)
    ((keeps t Unit n (Whole own) way.as_prefix) (λ x w. inr (inl (prefix-whole t x (Inside t x) w))))
    (arguments-keep n (Whole own) a (λ x i. inr (inr i)))) (λ n allowed place cs fits. tt)
    (λ n allowed place cs fits. ((adds own).at fit.as_prefix (pressed_at n around) allowed place cs fits).complete)

-- ## First pieces

-- a piece alone as a prefix
pub alone-prefix : (around : Around) (p : Term) (old now : State) → around.prefix ≡ outermost → begins_name p ≡ true
    → PieceFits around p old now → PrefixFits around (alone p) old (appended around (alone p) now)
unfolding fits_of ways_of name_ways no_ways is_open pack_length
alone-prefix around p old now outer begins one =
    prefix-component (fitted-as one (λ n allowed may. may-as (pressed_at n around) allowed p (alone p) refl
    (λ arguments. refl) may)) tt tt
    (λ n allowed place cs fits. (outer, begins, fits))
    (λ n allowed place cs fits. ((adds (alone p)).at fit.as_prefix (pressed_at n around) allowed place cs fits).complete)
