-- A name that was read fits where it is: as a type, as an encoding's own name and as a local entity, with arguments or without.
use Rattle.cpp_press_laws.proofs.Basics.{◌≡◌, ℕ, inl, inr, [], Bool, true, false, refl, ap, sym, subst, Kind, any_value, Term, alone, in_std, within, instance, abbreviation, State, outermost, behind, Around, prefix_tree, prefix_listed, Value, unqualified, tree, tree_of, is_listed, appended, is_function_type, with_type, with_unqualified, with_prefix, after, inside, applied, qualifier_letters, mark_letter, name_letters, no_ways, type_ways, name_ways, with_letters, is_encoding, ways_of, Slot, bare_type, Role, letters_of, names_in, begins_name, names_type, names_function, IsAbbreviation, by_letters, fits_nowhere, fits_of}
use Rattle.cpp_press_laws.proofs.Fits.Read.{Fitted}
use Rattle.cpp_press_laws.proofs.Fits.Types.{BareFits, SolidFits}
use Rattle.cpp_press_laws.proofs.Fits.Names.{respelled, PieceFits, ElementsFit, arguments_standing, arguments_text}
use Rattle.cpp_press_laws.proofs.Fits.Nests.{NestFits, OwnNameFits, EntityFits}
use Rattle.cpp_press_laws.proofs.Fits.Pieces.{alone-typed, alone-own, alone-before, alone-instance-own, local-entity, local-instance-entity}
use Rattle.cpp_press_laws.proofs.Fits.Solids.{abbreviation-before, instance-fits}
use Rattle.cpp_press_laws.proofs.Fits.References.{referred-before}
use Rattle.cpp_press_laws.proofs.Fits.Sorts.{KindFits, ArgumentsRead}
use Rattle.cpp_press_laws.proofs.Fits.Rests.{NestRead, applied-as, std-read}

-- ## Names of one piece

alone-solid : (takes : Slot → Bool) (around : Around) (p : Term) (old new : State) → around.prefix ≡ outermost → names_type p ≡ true
    → PieceFits around p old new → SolidFits takes around (tree (alone p) false) old new
unfolding fits_of ways_of name_ways no_ways with_type with_unqualified is_function_type tree_of is_listed
alone-solid takes around p old new outer names one = record {
  types = λ slot other take. alone-typed around p slot old new outer names one;
  bare = λ take. alone-typed around p bare_type old new outer names one;
}

-- a name of one piece as a type
pub piece-solid : (takes : Slot → Bool) (around : Around) (p : Term) (w : Value) (old mid new : State) → around.prefix ≡ outermost
    → names_type p ≡ true → PieceFits around p old mid → KindFits Kind.MaybeArguments (after (alone p) false around) w mid new
    → SolidFits takes around (tree (applied (alone p) w) false) old new
unfolding after inside with_prefix prefix_listed prefix_tree appended
piece-solid takes around p w old mid new outer names one arguments =
    applied-as (λ u s. SolidFits takes around (tree u false) old s) around (alone p) w mid new
    (alone-solid takes around p old mid outer names one)
    (λ h. instance-fits takes around (alone p) (tree_of w) old new (alone-before around p (tree_of w) true old mid new outer names one h))
    arguments

-- a name of one piece as an encoding's own name
pub piece-own : (around : Around) (p : Term) (w : Value) (old mid new : State) → around.prefix ≡ outermost → names_function p ≡ true
    → PieceFits around p old mid → KindFits Kind.MaybeArguments (after (alone p) false around) w mid new
    → OwnNameFits around (applied (alone p) w) unqualified any_value old new
unfolding after inside with_prefix prefix_listed prefix_tree appended name_letters qualifier_letters mark_letter
piece-own around p w old mid new outer names one arguments =
    applied-as (λ u s. OwnNameFits around u unqualified any_value old s) around (alone p) w mid new
    (alone-own around p unqualified any_value old mid outer names refl one)
    (λ h. alone-instance-own around p (tree_of w) unqualified any_value old mid new outer names refl one h) arguments

-- a name of one piece as a local entity
pub piece-entity : (around : Around) (e p : Term) (w : Value) (role : Role) (old mid new : State) → is_encoding e ≡ true
    → around.prefix ≡ behind e true → begins_name p ≡ true → names_in role p ≡ true → letters_of role ≡ [] → PieceFits around p old mid
    → KindFits Kind.MaybeArguments (after (within e p) false around) w mid new → EntityFits around (applied (within e p) w) role old new
unfolding after inside with_prefix prefix_listed prefix_tree appended
piece-entity around e p w role old mid new is scoped begins names none one arguments =
    applied-as (λ u s. EntityFits around u role old s) around (within e p) w mid new
    (local-entity around e p role old mid is scoped names none one)
    (λ h. local-instance-entity around e p (tree_of w) role old mid new is scoped begins none one h) arguments

-- ## Names between N and E

-- a name between N and E as a type
pub nest-solid : (takes : Slot → Bool) (around : Around) (v : Value) (old new : State) → NestRead around v old new
    → SolidFits takes around v old new
unfolding with_type with_unqualified tree_of is_listed
nest-solid takes around v old new read =
    subst (λ w. SolidFits takes around w old new) (sym read.0)
    (record {
      types = λ slot other take. nest.typed slot;
      bare = λ take. subst (λ s. BareFits around t old s)
          (sym (ap (λ b. elim b as (λ _. State) [ true ↦ new | false ↦ appended around t new ]) nest.plain))
          (respelled (nest.typed bare_type) (λ n place cs. sym (ap (λ s. s place cs) (nest.alike n))));
    })
  where
    t : Term
    t = tree_of v

    nest : NestFits around (tree_of v) old new
    nest = read.1

-- ## Names after an S

-- a piece after St
pub std-own : (around : Around) (p : Term) (w : Value) (old mid new : State) → names_function p ≡ true → PieceFits around p old mid
    → KindFits Kind.MaybeArguments (after (in_std p) false around) w mid new
    → OwnNameFits around (applied (in_std p) w) unqualified any_value old new
unfolding tree_of
std-own around p w old mid new names one arguments = (std-read around p w old mid new names one arguments).1.own unqualified any_value

-- a template name and its arguments, where the name needs no letters
before-own : (around : Around) (t a : Term) (old new : State)
    → Fitted around ((fits_of t).before false (arguments_standing a)) (λ n. (ways_of n t).before false (arguments_text a n)) (instance t a)
    old new → OwnNameFits around (instance t a) unqualified any_value old new
unfolding fits_of ways_of name_ways no_ways by_letters with_letters name_letters qualifier_letters mark_letter
before-own around t a old new one = one

abbreviation-own : (around : Around) (l : ℕ) (a : Term) (old new : State) → IsAbbreviation l → ElementsFit around a old new
    → OwnNameFits around (instance (abbreviation l) a) unqualified any_value old new
unfolding fits_of fits_nowhere ways_of type_ways no_ways
abbreviation-own around l a old new is other =
    before-own around (abbreviation l) a old new (abbreviation-before around l a old new is other)

-- an abbreviation, or what a reference names, and its arguments
pub named-own : (around : Around) (v w : Value) (old mid new : State) → KindFits Kind.Abbreviation around v old mid
    → ArgumentsRead (after (tree_of v) true around) w mid new
    → OwnNameFits around (instance (tree_of v) (tree_of w)) unqualified any_value old new
unfolding after inside with_prefix prefix_listed tree_of
named-own around v w old mid new (inl (l, value, is, same)) other =
    subst (λ u. OwnNameFits around (instance (tree_of u) (tree_of w)) unqualified any_value old new) (sym value)
    (abbreviation-own around l (tree_of w) old new is (subst (λ s. ElementsFit around (tree_of w) s new) same other))
named-own around v w old mid new (inr (c, value, refers)) other =
    subst (λ u. OwnNameFits around (instance (tree_of u) (tree_of w)) unqualified any_value old new) (sym value)
    (before-own around c.tree (tree_of w) old new (referred-before around false c (tree_of w) old mid new refers other))
