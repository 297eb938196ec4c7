-- A template name that was read with arguments fits before them: as a reference, or spelled out.
use Rattle.cpp_press_laws.proofs.Basics.{◌≡◌, ℕ, ◌+◌, length, List, [], Option, Some, None, Bool, true, false, refl, ap, sym, subst, ◌∙◌, arith, codes, ◌&&◌, ◌and◌, text, and-assoc-at, Term, in_std, within, instance, State, Around, appended, Component, Spelling, first_equal, reference, ended, spelled_out, referred, component, no_ways, name_ways, in_N_and_E, template_before, is_operator, is_encoding, is_one_piece, ways_of, Standing, Fitting, Behind, as_component, as_template, fits_of}
use Rattle.sym_spell.specs.Pressing as spell
use Rattle.cpp_press_laws.proofs.Components.Parts.{IsComponent, Inside}
use Rattle.cpp_press_laws.proofs.Components.AddedWays.{AddsParts}
use Rattle.cpp_press_laws.proofs.Components.AddedTrees.{adds}
use Rattle.cpp_press_laws.proofs.Components.Again.{FunctionStands}
use Rattle.cpp_press_laws.proofs.Components.Complete.{Complete, StandAmong}
use Rattle.cpp_press_laws.proofs.Fitting as fit
use Rattle.cpp_press_laws.proofs.Fits.Read.{pressed_at, Fitted, Wherever, refitted, behind-both, and-fitted, bytes-fitted, fitted-bytes}
use Rattle.cpp_press_laws.proofs.Fits.Names.{respelled, ended-fitted, BetweenFits, TemplateBetweenFits, TemplatePrefixFits, within-prefix, within-prefix-template, std-prefix, ElementsFit, arguments_standing, arguments_text, arguments-fitted, instance-may}

-- what holds after a component holds after a reference, if an equal component comes before
behind-found : (n number : ℕ) (own : Term) (s : Spelling) (G : Standing) (place : ℕ) (cs : List Component) → first_equal n own 0 cs ≡ Some number
    → Behind (component n own s) G place cs → Behind (reference number) G place cs
unfolding component
behind-found n number own s G place cs is fits = go (first_equal n own 0 cs) is fits
  where
    go : (o : Option ℕ) → o ≡ Some number
        → (let w : spell.Pressed Component = elim o as (λ _. spell.Pressed Component) [ Some k ↦ reference k place cs | None ↦ spelled_out n own s place cs ] in
        G (place + length w.bytes) w.components)
        → Behind (reference number) G place cs
    go (Some k) same h = let equal : k ≡ number = cc in subst (λ j. Behind (reference j) G place cs) equal h
    go None same h = absurd cc

-- P holds of the components in both cases, if it holds after a reference with its arguments and after the whole spelling
components-before : (n : ℕ) (own : Term) (needs_N : Bool) (s between arguments : Spelling) (place : ℕ) (cs : List Component)
    (P : List Component → Type 0) → P ((component n own s and arguments) place cs).components
    → P ((elim needs_N as (λ _. Spelling) [
      | true ↦ in_N_and_E [] (between and ended n own and arguments)
      | false ↦ between and ended n own and arguments
    ]) place cs).components
    → P (template_before n own needs_N between arguments place cs).components
unfolding template_before referred component
components-before n own needs_N s between arguments place cs P found new = go (first_equal n own 0 cs) found
  where
    go : (o : Option ℕ)
        → P (let w : spell.Pressed Component = elim o as (λ _. spell.Pressed Component) [ Some k ↦ reference k place cs | None ↦ spelled_out n own s place cs ] in
        (arguments (place + length w.bytes) w.components).components)
        → P (spell.Pressed.components (elim o as (λ _. spell.Pressed Component) [
          | Some number ↦ (reference number and arguments) place cs
          | None ↦ (elim needs_N as (λ _. Spelling) [
            | true ↦ in_N_and_E [] (between and ended n own and arguments)
            | false ↦ between and ended n own and arguments
          ]) place cs
        ]))
    go (Some k) h = h
    go None h = new

-- a template name fits before its arguments, if it fits as a component and if it fits spelled out before them
pub template-fitted : (around : Around) (own a : Term) (needs_N : Bool) (F H : Fitting) (s front between : ℕ → Spelling) (old mid now : State)
    → Fitted around (as_component own F) (λ n. component n own (s n)) own old (appended around own mid)
    → Fitted around (λ inner allowed place cs. H inner allowed place cs
    × Behind (front inner.encoding and ended inner.encoding own) (arguments_standing a inner allowed) place cs)
    (λ n. elim needs_N as (λ _. Spelling) [
      | true ↦ in_N_and_E [] (between n and ended n own and arguments_text a n)
      | false ↦ between n and ended n own and arguments_text a n
    ])
    (instance own a) old now
    → ElementsFit around a (appended around own mid) now
    → Fitted around (as_template own H front (arguments_standing a)) (λ n. template_before n own needs_N (between n) (arguments_text a n))
    (instance own a) old now
template-fitted around own a needs_N F H s front between old mid now one whole other = record {
  stay = whole.stay;
  fits = λ n place cs allowed before allows. (
      let both = and-fitted one (arguments-fitted around a (appended around own mid) now other)
      (instance-may around own a) in
      let p = both.fits n place cs allowed before allows in
      let q = whole.fits n place cs allowed before allows in
      record {
        fits = (
          p.fits.0.0,
          λ number is. behind-found n number own (s n) (arguments_standing a (pressed_at n around) allowed) place cs is
              p.fits.1,
          λ first. q.fits,
        );
        may = p.may;
        complete = components-before n own needs_N (s n) (between n) (arguments_text a n) place cs Complete p.complete
            q.complete;
        among = components-before n own needs_N (s n) (between n) (arguments_text a n) place cs
            (StandAmong around.encoding n now.candidates) p.among q.among;
        functions = p.functions;
      });
}

-- ## Spelled out

-- nothing before a spelling
pub nothing-and : (s : Spelling) (place : ℕ) (cs : List Component) → (text [] and s) place cs ≡ s place cs
nothing-and s place cs = let same : place + 0 ≡ place = omega arith in ap (λ q. s q cs) same

behind-same : (s r : Spelling) (G : Standing) (place : ℕ) (cs : List Component) → s place cs ≡ r place cs → Behind s G place cs
    → Behind r G place cs
behind-same s r G place cs same fits = subst (λ w. G (place + length (spell.Pressed.bytes w)) (spell.Pressed.components w)) same fits

abbrev pub SpelledBefore : Around → (own a : Term) → (H : Fitting) → (front whole : ℕ → Spelling) → (old now : State) → Type 0
SpelledBefore around own a H front whole old now =
    Fitted around (λ inner allowed place cs. H inner allowed place cs
    × Behind (front inner.encoding and ended inner.encoding own) (arguments_standing a inner allowed) place cs) whole (instance own a) old now

-- a template name that is spelled out, and its arguments
pub spelled-before : {k : ℕ} {around : Around} {own a : Term} {F : Fitting} {between : ℕ → Spelling} {old mid now : State}
    → Fitted around F between own old mid → ElementsFit around a (appended around own mid) now → IsComponent own
    → FunctionStands around.scope own
    → ((n : ℕ) (allowed : Option ℕ) (place : ℕ) (cs : List Component) → F (pressed_at n around) allowed place cs
    → AddsParts k n (Inside own) cs (between n place cs))
    → SpelledBefore around own a F between (λ n. between n and ended n own and arguments_text a n) old now
spelled-before {k} {around} {own} {a} {F} {between} {old} {mid} {now} one other is stands whole =
    respelled (and-fitted (ended-fitted one is stands whole) (arguments-fitted around a (appended around own mid) now other)
    (instance-may around own a)) (λ n. and-assoc-at (between n) (ended n own) (arguments_text a n))

-- a template name that is spelled out between N and E, and its arguments
pub nested-before : {around : Around} {own a : Term} {F : Fitting} {whole : ℕ → Spelling} {old now : State} (between : ℕ → Spelling)
    → SpelledBefore around own a F between whole old now
    → SpelledBefore around own a (λ inner allowed place cs. F inner allowed (place + 1) cs) (λ n. text (codes "N") and between n)
    (λ n. in_N_and_E [] (whole n)) old now
unfolding in_N_and_E
nested-before {around} {own} {a} {F} {whole} {old} {now} between one =
    let G : Fitting = arguments_standing a in
    refitted (bytes-fitted (codes "N") (fitted-bytes (codes "E") one)) (λ n allowed place cs fits. (
      fits.0,
      behind-same (text (codes "N") and between n and ended n own) ((text (codes "N") and between n) and ended n own)
          (G (pressed_at n around) allowed) place cs
          (sym (and-assoc-at (text (codes "N")) (between n) (ended n own) place cs))
          (behind-both (text (codes "N")) (between n and ended n own) (G (pressed_at n around) allowed) place cs
          fits.1),
    ))

-- ## Template names

-- a template name that was read from one state to another, before arguments
pub record TemplateFits (around : Around) (t : Term) (old mid : State) : Type 0 where
  pub is : IsComponent t
  pub stands : FunctionStands around.scope t
  pub pieces : (a : Term) → Wherever around old (is_one_piece (instance t a) ≡ false)
  pub between : TemplateBetweenFits around t old mid
  pub prefix : TemplatePrefixFits around t old (appended around t mid)
  pub before : (typed : Bool) (a : Term) (now : State) → ElementsFit around a (appended around t mid) now
      → Fitted around ((fits_of t).before typed (arguments_standing a)) (λ n. (ways_of n t).before typed (arguments_text a n)) (instance t a) old
      now

-- a piece after a prefix that isn't an encoding
pub within-template : (around : Around) (t p : Term) (old mid : State) → Wherever around old (is_encoding t ≡ false)
    → BetweenFits around (within t p) old mid → TemplateFits around (within t p) old mid
unfolding fits_of ways_of name_ways no_ways is_one_piece
within-template around t p old mid apart one = record {
  is = tt;
  stands = tt;
  pieces = λ a. apart;
  between = one;
  prefix = within-prefix-template around t p old mid one;
  before = λ typed a now other. (
      let own : Term = within t p in
      let between : ℕ → Spelling = λ n. (ways_of n (within t p)).between_N_and_E in
      template-fitted around own a true _ _ between (λ n. text (codes "N") and between n) between old mid now
      (within-prefix around t p old mid one) (nested-before between (spelled-before one other tt tt
      (λ n. (adds own).at fit.between (pressed_at n around)))) other);
}

-- a piece after St, with an N before it if it is an operator in a type
pub std-template : (around : Around) (p : Term) (old mid : State) → BetweenFits around (in_std p) old mid
    → TemplateFits around (in_std p) old mid
unfolding fits_of ways_of name_ways no_ways is_one_piece
std-template around p old mid one = record {
  is = tt;
  stands = tt;
  pieces = λ a n place cs front. refl;
  between = one;
  prefix = std-prefix around p old mid one;
  before = λ typed a now other. by typed (is_operator p) a now other;
}
  where
    own : Term
    own = in_std p

    std : Fitting
    std = (fits_of (in_std p)).between

    between : ℕ → Spelling
    between n = text (codes "St") and (ways_of n p).as_piece

    front : Bool → ℕ → Spelling
    front b n = text (elim b as (λ _. List ℕ) [ true ↦ codes "N" | false ↦ [] ]) and between n

    plain : (H : Fitting)
        → ((n : ℕ) (allowed : Option ℕ) (place : ℕ) (cs : List Component) → std (pressed_at n around) allowed place cs
        → H (pressed_at n around) allowed place cs)
        → (a : Term) (now : State) → ElementsFit around a (appended around own mid) now
        → Fitted around (as_template own H (front false) (arguments_standing a))
        (λ n. template_before n own false (between n) (arguments_text a n)) (instance own a) old now
    plain H more a now other =
        template-fitted around own a false std H between (front false) between old mid now
        (std-prefix around p old mid one) (refitted (spelled-before one other tt tt
        (λ n. (adds own).at fit.between (pressed_at n around))) (λ n allowed place cs fits. (
          more n allowed place cs fits.0,
          behind-same (between n and ended n own) (front false n and ended n own)
              (arguments_standing a (pressed_at n around) allowed) place cs
              (sym (and-assoc-at (text []) (between n) (ended n own) place cs ∙ nothing-and (between n and ended n own)
              place cs)) fits.1,
        ))) other

    nested : (a : Term) (now : State) → ElementsFit around a (appended around own mid) now
        → Fitted around (as_template own (λ inner allowed place cs. std inner allowed (place + 1) cs) (front true)
        (arguments_standing a))
        (λ n. template_before n own true (between n) (arguments_text a n)) (instance own a) old now
    nested a now other =
        template-fitted around own a true std _ between (front true) between old mid now
        (std-prefix around p old mid one) (nested-before between (spelled-before one other tt tt
        (λ n. (adds own).at fit.between (pressed_at n around)))) other

    at-once : (n : ℕ) (allowed : Option ℕ) (place : ℕ) (cs : List Component) → std (pressed_at n around) allowed place cs
        → std (pressed_at n around) allowed (place + 0) cs
    at-once n allowed place cs fits = let same : place ≡ place + 0 = omega arith in subst (λ q. std (pressed_at n around) allowed q cs) same fits

    by : (typed operator_ : Bool) (a : Term) (now : State) → ElementsFit around a (appended around own mid) now
        → Fitted around (as_template own (elim typed as (λ _. Fitting) [
          | true ↦ (λ inner allowed place cs. std inner allowed
              (place + length (elim operator_ as (λ _. List ℕ) [ true ↦ codes "N" | false ↦ [] ])) cs)
          | false ↦ std
        ]) (front (typed && operator_)) (arguments_standing a))
        (λ n. template_before n own (typed && operator_) (between n) (arguments_text a n)) (instance own a) old now
    by true true a now other = nested a now other
    by true false a now other = plain (λ inner allowed place cs. std inner allowed (place + 0) cs) at-once a now other
    by false true a now other = plain std (λ n allowed place cs fits. fits) a now other
    by false false a now other = plain std (λ n allowed place cs fits. fits) a now other
