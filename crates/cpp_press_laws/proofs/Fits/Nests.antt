-- A name that was read between N and E fits in each of its ways: as a type, as an encoding's own name, as an entity and as a prefix.
use Rattle.cpp_press_laws.proofs.Basics.{◌≡◌, ℕ, ◌+◌, inl, inr, length, List, [], ◌∷◌, ◌++◌, Option, Bool, true, false, refl, ap, sym, subst, arith, codes, Qualifiers, RefQualifier, Term, in_std, within, instance, State, Around, appended, is_function_type, name_letters, Component, Spelling, no_ways, name_ways, in_N_and_E, with_letters, is_operator, is_encoding, is_one_piece, entity_text, ways_of, Fitting, Slot, Role, letters_of, by_letters, fits_of}
use Rattle.cpp_press_laws.proofs.Components.Parts.{IsComponent, Whole}
use Rattle.cpp_press_laws.proofs.Components.Known.{KeepsTo, in-N-and-E-keeps}
use Rattle.cpp_press_laws.proofs.Components.KnownTrees.{keeps}
use Rattle.cpp_press_laws.proofs.Ways as way
use Rattle.cpp_press_laws.proofs.Fits.Read.{pressed_at, Fitted, Wherever, fitted-wherever, refitted, bytes-fitted, fitted-bytes, component-fitted}
use Rattle.cpp_press_laws.proofs.Fits.Types.{TypeFits, typed-complete}
use Rattle.cpp_press_laws.proofs.Fits.Names.{respelled, PrefixFits, BetweenFits, ElementsFit, arguments_text, arguments-keep, within-prefix, std-prefix, instance-between, instance-prefix}
use Rattle.cpp_press_laws.proofs.Fits.Templates.{TemplateFits}

-- ## The ways of a name between N and E

abbrev pub OwnNameFits : Around → Term → Qualifiers → RefQualifier → (old now : State) → Type 0
OwnNameFits around t q ref old now =
    Fitted around ((fits_of t).as_name q ref) (λ n. (ways_of n t).as_name (name_letters q ref)) t old now

abbrev pub EntityFits : Around → Term → Role → (old now : State) → Type 0
EntityFits around t role old now =
    Fitted around ((fits_of t).as_entity role) (λ n. entity_text t (letters_of role) (ways_of n t).between_N_and_E) t old now

-- a name between N and E that was read from one state to another
pub record NestFits (around : Around) (t : Term) (old now : State) : Type 0 where
  pub is : IsComponent t
  pub apart : is_encoding t ≡ false
  pub plain : is_function_type t ≡ false
  pub alike : (n : ℕ) → (ways_of n t).under_qualifiers ≡ (ways_of n t).as_type
  pub between : BetweenFits around t old now
  pub prefix : PrefixFits around t old (appended around t now)
  pub typed : (slot : Slot) → TypeFits around slot t old (appended around t now)
  pub own : (q : Qualifiers) (ref : RefQualifier) → OwnNameFits around t q ref old now
  pub entity : (role : Role) → EntityFits around t role old now

-- ## Between N and E

pub nested-fitted : {around : Around} {F : Fitting} {s : ℕ → Spelling} {t : Term} {old now : State} (letters : List ℕ)
    → Fitted around F s t old now
    → Fitted around (λ inner allowed place cs. F inner allowed (place + length (codes "N" ++ letters)) cs) (λ n. in_N_and_E letters (s n)) t old
    now
unfolding in_N_and_E
nested-fitted letters one =
    bytes-fitted (codes "N" ++ letters) (fitted-bytes (codes "E") one)

-- a name that needs an N for its letters
pub letters-fitted : {around : Around} {F G : Fitting} {own between : ℕ → Spelling} {t : Term} {old now : State} (letters : List ℕ)
    → Fitted around F own t old now → Fitted around G between t old now
    → Fitted around (by_letters letters F G) (λ n. with_letters letters (own n) (between n)) t old now
unfolding by_letters with_letters
letters-fitted [] one other = one
letters-fitted (l ∷ ls) one other = nested-fitted (l ∷ ls) other

-- an entity of more than one piece
nested-entity : (around : Around) (t : Term) (role : Role) (old now : State) → Wherever around old (is_one_piece t ≡ false)
    → ((n : ℕ) (allowed : Option ℕ) (place : ℕ) (cs : List Component)
    → (fits_of t).between (pressed_at n around) allowed (place + length (codes "N" ++ letters_of role)) cs
    → (fits_of t).as_entity role (pressed_at n around) allowed place cs)
    → BetweenFits around t old now → EntityFits around t role old now
unfolding entity_text
nested-entity around t role old now apart more one =
    fitted-wherever around ((fits_of t).as_entity role) (λ n. entity_text t letters (s n)) t old now
    (is_one_piece t ≡ false) one.stay apart (λ known. respelled (refitted (nested-fitted letters one) more)
    (λ n place cs. sym (ap (λ b. (elim b as (λ _. Spelling) [ true ↦ s n | false ↦ in_N_and_E letters (s n) ]) place cs)
    known)))
  where
    letters : List ℕ
    letters = letters_of role

    s : ℕ → Spelling
    s n = (ways_of n t).between_N_and_E

-- ## Names

-- a piece after a prefix
pub within-nest : (around : Around) (t p : Term) (old now : State) → Wherever around old (is_encoding t ≡ false)
    → BetweenFits around (within t p) old now → NestFits around (within t p) old now
unfolding fits_of ways_of name_ways no_ways is_encoding is_function_type is_one_piece with_letters
within-nest around t p old now apart one = record {
  is = tt;
  apart = refl;
  plain = refl;
  alike = λ n. refl;
  between = one;
  prefix = within-prefix around t p old now one;
  typed = λ slot. component-fitted (nested-fitted [] one) tt
      (λ n. in-N-and-E-keeps Unit n (Whole own) [] (between n)
      ((keeps own Unit n (Whole own) way.between_N_and_E) (λ x i. inr i))) (λ n allowed place cs fits. tt)
      (λ n. typed-complete own (λ m. refl) slot (pressed_at n around));
  own = λ q ref. by (name_letters q ref);
  entity = λ role. nested-entity around own role old now apart (λ n allowed place cs fits. inr fits) one;
}
  where
    own : Term
    own = within t p

    between : ℕ → Spelling
    between n = (ways_of n (within t p)).between_N_and_E

    by : (letters : List ℕ)
        → Fitted around (λ inner allowed place cs. (fits_of own).between inner allowed
        (place + length (codes "N" ++ letters)) cs)
        (λ n. with_letters letters (in_N_and_E [] (between n)) (between n)) own old now
    by [] = nested-fitted [] one
    by (l ∷ ls) = nested-fitted (l ∷ ls) one

-- a piece after St
pub std-nest : (around : Around) (p : Term) (old now : State) → BetweenFits around (in_std p) old now → NestFits around (in_std p) old now
unfolding fits_of ways_of name_ways no_ways is_encoding is_function_type is_one_piece
std-nest around p old now one = record {
  is = tt;
  apart = refl;
  plain = refl;
  alike = λ n. refl;
  between = one;
  prefix = std-prefix around p old now one;
  typed = λ slot. component-fitted (spelled (is_operator p)) tt (λ n. text-keep n (is_operator p))
      (λ n allowed place cs fits. tt) (λ n. typed-complete own (λ m. refl) slot (pressed_at n around));
  own = λ q ref. letters-fitted (name_letters q ref) one one;
  entity = λ role. nested-entity around own role old now (λ n place cs front. refl) (λ n allowed place cs fits. fits) one;
}
  where
    own : Term
    own = in_std p

    std : Fitting
    std = (fits_of (in_std p)).between

    between : ℕ → Spelling
    between n = (ways_of n (in_std p)).between_N_and_E

    text-keep : (n : ℕ) (b : Bool)
        → KeepsTo Unit n (Whole own) (elim b as (λ _. Spelling) [ true ↦ in_N_and_E [] (between n) | false ↦ between n ])
    text-keep n true = in-N-and-E-keeps Unit n (Whole own) [] (between n) ((keeps own Unit n (Whole own) way.between_N_and_E) (λ x i. inr i))
    text-keep n false = (keeps own Unit n (Whole own) way.between_N_and_E) (λ x i. inr i)

    spelled : (b : Bool) → Fitted around (λ inner allowed place cs. std inner allowed
        (place + length (elim b as (λ _. List ℕ) [ true ↦ codes "N" | false ↦ [] ])) cs)
        (λ n. elim b as (λ _. Spelling) [ true ↦ in_N_and_E [] (between n) | false ↦ between n ]) own old now
    spelled true = nested-fitted [] one
    spelled false =
        refitted one (λ n allowed place cs fits.
        (let same : place ≡ place + 0 = omega arith in subst (λ q. std (pressed_at n around) allowed q cs) same fits))

-- a template name and its arguments
pub instance-nest : (around : Around) (t a : Term) (old mid now : State) → TemplateFits around t old mid
    → ElementsFit around a (appended around t mid) now → NestFits around (instance t a) old now
unfolding fits_of ways_of name_ways no_ways is_encoding is_function_type
instance-nest around t a old mid now one other =
    let between = instance-between around t a old mid now one.is one.stands one.between other in
    record {
      is = tt;
      apart = refl;
      plain = refl;
      alike = λ n. refl;
      between = between;
      prefix = instance-prefix around t a old (appended around t mid) now one.prefix other;
      typed = λ slot. component-fitted (one.before true a now other) tt
          (λ n. (keeps t Unit n (Whole (instance t a)) way.before) (λ x w. inr (inl w)) true (arguments_text a n)
          (arguments-keep n (Whole (instance t a)) a (λ x i. inr (inr i)))) (λ n allowed place cs fits. tt)
          (λ n. typed-complete (instance t a) (λ m. refl) slot (pressed_at n around));
      own = λ q ref. letters-fitted (name_letters q ref) (one.before false a now other) between;
      entity = λ role. nested-entity around (instance t a) role old now (one.pieces a)
          (λ n allowed place cs fits. inr fits) between;
    }
