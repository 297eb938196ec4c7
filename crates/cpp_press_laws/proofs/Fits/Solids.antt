-- A type without parts, a parameter, or a template name with arguments fits as a type, if it was read as one.
use Rattle.cpp_press_laws.proofs.Basics.{◌≡◌, ℕ, ◌<◌, inl, inr, List, [], ◌∷◌, ◌++◌, Option, Some, None, Bool, true, false, Result, Ok, Err, refl, sym, subst, ◌∙◌, codes, nat_lt, Refusal, BadReference, ◌>>=◌, text, false≢true, Kind, Production, choose, Term, abbreviation, parameter, builtin, vendor, instance, count, element, length_if_pack, is_open, pack_length, State, Around, tree, tree_of, is_listed, appended, is_function_type, with_type, with_unqualified, with_packs, packs_in, parameter_named, ok_same, behind_bind, ordinal, counted, Spelling, type_ways, name_ways, no_ways, ways_of, IsSpellableName, Fitting, Slot, any_type, bare_type, takes_all, IsBuiltin, IsAbbreviation, NamesArgument, type_fits, fits_nowhere, fits_of, PacksFit}
use Rattle.cpp_press_laws.proofs.Components.Parts.{Whole}
use Rattle.cpp_press_laws.proofs.Components.Known.{text-keeps}
use Rattle.cpp_press_laws.proofs.Components.KnownTrees.{keeps}
use Rattle.cpp_press_laws.proofs.Fits.Packs.{PacksNamed, packs-named}
use Rattle.cpp_press_laws.proofs.Slots.{each-slot}
use Rattle.cpp_press_laws.proofs.Ways as way
use Rattle.cpp_press_laws.proofs.Components.Complete.{StandAmong}
use Rattle.cpp_press_laws.proofs.Fits.Read.{pressed_at, FunctionsStand, Fitted, text-fitted, and-fitted}
use Rattle.cpp_press_laws.proofs.Fits.Types.{may-closed, SolidFits, spelled-solid, typed-complete}
use Rattle.cpp_press_laws.proofs.Fits.References.{named-packs}
use Rattle.cpp_press_laws.proofs.Fits.Names.{ElementsFit, arguments_standing, arguments_text, arguments-fitted, arguments-keep, instance-may}

-- ## Builtin types and abbreviations

-- a builtin type is never a candidate
pub builtin-fits : (takes : Slot → Bool) (around : Around) (code : List ℕ) (state : State)
    → ((slot : Slot) → takes slot ≡ true → IsBuiltin slot code) → SolidFits takes around (tree (builtin code) true) state state
unfolding fits_of fits_nowhere ways_of type_ways no_ways with_type with_unqualified is_function_type tree_of is_listed is_open
builtin-fits takes around code state has = record {
  types = λ slot other take. text-fitted around ((fits_of (builtin code)).as_type slot) code (builtin code) state
      (λ n allowed place cs. has slot take) (λ n allowed. may-closed (pressed_at n around) allowed (builtin code) refl);
  bare = λ take. text-fitted around ((fits_of (builtin code)).as_type bare_type) code (builtin code) state
      (λ n allowed place cs. has bare_type take) (λ n allowed. may-closed (pressed_at n around) allowed (builtin code) refl);
}

pub abbreviation-fits : (takes : Slot → Bool) (around : Around) (l : ℕ) (state : State) → IsAbbreviation l
    → SolidFits takes around (tree (abbreviation l) true) state state
unfolding fits_of fits_nowhere ways_of type_ways no_ways with_type with_unqualified is_function_type tree_of is_listed is_open
abbreviation-fits takes around l state is = record {
  types = λ slot other take. text-fitted around ((fits_of (abbreviation l)).as_type slot) (codes "S" ++ l ∷ []) (abbreviation l) state
      (λ n allowed place cs. is) (λ n allowed. may-closed (pressed_at n around) allowed (abbreviation l) refl);
  bare = λ take. text-fitted around ((fits_of (abbreviation l)).as_type bare_type) (codes "S" ++ l ∷ []) (abbreviation l) state
      (λ n allowed place cs. is) (λ n allowed. may-closed (pressed_at n around) allowed (abbreviation l) refl);
}

pub vendor-fits : (around : Around) (name : List ℕ) (state : State) → IsSpellableName name
    → SolidFits takes_all around (tree (vendor name) false) state state
unfolding fits_of type_fits fits_nowhere ways_of type_ways no_ways with_type with_unqualified is_function_type tree_of is_listed is_open
vendor-fits around name state is =
    let t : Term = vendor name in
    let bytes : List ℕ = codes "u" ++ counted name in
    let G : Slot → Fitting = λ slot inner allowed place cs. (takes_all slot ≡ true) × IsSpellableName name in
    spelled-solid takes_all around t G (λ n. text bytes) state state (record {
      is = tt;
      keeps = λ n. text-keeps Unit n (Whole t) bytes;
      function = tt;
      whole = λ slot n. typed-complete t (λ m. refl) slot (pressed_at n around);
    }) (λ slot take. text-fitted around (G slot) bytes t state (λ n allowed place cs. (take, is))
    (λ n allowed. may-closed (pressed_at n around) allowed t refl))

-- a builtin type by its letter, in all slots except that of a literal's type
pub builtin-solid : (around : Around) (byte : ℕ) (state : State) → byte < 256 → choose Kind.Solid byte ≡ Some Production.Builtin
    → SolidFits takes_all around (tree (builtin (byte ∷ [])) true) state state
unfolding takes_all
builtin-solid around byte state small is = builtin-fits takes_all around (byte ∷ []) state slots
  where
    slots : (slot : Slot) → takes_all slot ≡ true → IsBuiltin slot (byte ∷ [])
    slots = each-slot _ (λ take. (small, is)) (λ take. (small, is)) (λ take. (small, is)) (λ take. (small, is)) (λ take. absurd (false≢true take))

-- a builtin type by its letter after a D, in all slots except that of a literal's type
pub builtin-with-d : (around : Around) (byte : ℕ) (state : State) → byte < 256 → choose Kind.AfterD byte ≡ Some Production.BuiltinWithD
    → SolidFits takes_all around (tree (builtin (68 ∷ byte ∷ [])) true) state state
unfolding takes_all
builtin-with-d around byte state small is = builtin-fits takes_all around (68 ∷ byte ∷ []) state slots
  where
    slots : (slot : Slot) → takes_all slot ≡ true → IsBuiltin slot (68 ∷ byte ∷ [])
    slots = each-slot _ (λ take. (refl, small, is)) (λ take. (refl, small, is)) (λ take. (refl, small, is)) (λ take. (refl, small, is)) (λ take. absurd (false≢true take))

-- ## Parameters

-- a parameter that wasn't refused
pub record ParameterNamed (around : Around) (k : ℕ) (old new : State) : Type 0 where
  pub arguments : Term
  pub scoped : around.scope ≡ Some arguments
  pub below : nat_lt k (count arguments) ≡ true
  pub mid : State
  pub packs : PacksNamed around.in_expansion (length_if_pack (element arguments k)) old mid
  pub is : appended around (parameter k) mid ≡ new

pub parameter-names : (around : Around) (place k : ℕ) (state new : State) → parameter_named around place k state ≡ Ok new
    → ParameterNamed around k state new
unfolding parameter_named
parameter-names around place k state new e = go around.scope refl e
  where
    tested : (arguments : Term) (b : Bool) → around.scope ≡ Some arguments → nat_lt k (count arguments) ≡ b
        → ◌≡◌ {A = Result State Refusal} (elim b [
          | false ↦ Err (BadReference place)
          | true ↦ with_packs place around.in_expansion (length_if_pack (element arguments k)) state >>= λ s. Ok (appended around (parameter k) s)
        ]) (Ok new) → ParameterNamed around k state new
    tested arguments false is below h = absurd cc
    tested arguments true is below h =
        let b = behind_bind (with_packs place around.in_expansion (length_if_pack (element arguments k)) state)
        (λ s. Ok (appended around (parameter k) s)) new h in
        record {
          arguments = arguments;
          scoped = is;
          below = below;
          mid = b.value;
          packs = packs-named place around.in_expansion (length_if_pack (element arguments k)) state b.value b.is;
          is = ok_same (appended around (parameter k) b.value) new b.next;
        }

    go : (o : Option Term) → around.scope ≡ o → ◌≡◌ {A = Result State Refusal} (elim o [
      | None ↦ Err (BadReference place)
      | Some arguments ↦ elim (nat_lt k (count arguments)) [
        | false ↦ Err (BadReference place)
        | true ↦ with_packs place around.in_expansion (length_if_pack (element arguments k)) state >>= λ s. Ok (appended around (parameter k) s)
      ]
    ]) (Ok new) → ParameterNamed around k state new
    go None is h = absurd cc
    go (Some arguments) is h = tested arguments (nat_lt k (count arguments)) is refl h

-- no lambda's signature has a scope
abbrev pub LambdasAreBare : Around → Type 0
LambdasAreBare around = around.in_lambda ≡ true → around.scope ≡ None

scoped-shut : (o : Option Term) (arguments : Term) (b : Bool) → o ≡ Some arguments → (b ≡ true → o ≡ None) → b ≡ false
scoped-shut o arguments false is bare = refl
scoped-shut o arguments true is bare = let clash : None ≡ Some arguments = sym (bare refl) ∙ is in absurd cc

-- the number of a parameter fits, before the parameter becomes a component
named-fitted : (around : Around) (k : ℕ) (old new : State) (p : ParameterNamed around k old new) → LambdasAreBare around
    → Fitted around (λ inner allowed place cs. NamesArgument inner allowed k) (λ n. text (codes "T" ++ ordinal k)) (parameter k) old p.mid
unfolding is_open pack_length packs_in
named-fitted around k old new p bare = record {
  stay = p.packs.stay;
  fits = λ n place cs allowed front allows. (
      let packs : PacksFit (pressed_at n around) allowed (length_if_pack (element p.arguments k)) =
      named-packs (pressed_at n around) allowed (length_if_pack (element p.arguments k)) old p.mid p.packs allows in
      record {
        fits = record { arguments = p.arguments; scoped = p.scoped; below = p.below; packs = packs };
        may = record {
          lambda = scoped-shut around.scope p.arguments around.in_lambda p.scoped bare;
          packs = subst (λ o. PacksFit (pressed_at n around) allowed (packs_in o (parameter k))) (sym p.scoped) packs;
        };
        complete = front.complete;
        among = subst (λ l. StandAmong around.encoding n l cs) (sym p.packs.candidates) front.among;
        functions = subst (FunctionsStand around.scope around.encoding) (sym p.packs.candidates) front.functions;
      });
}

pub parameter-fits : (takes : Slot → Bool) (around : Around) (k : ℕ) (old new : State) → ParameterNamed around k old new → LambdasAreBare around
    → SolidFits takes around (tree (parameter k) true) old new
unfolding fits_of type_fits fits_nowhere ways_of type_ways no_ways with_type with_unqualified is_function_type tree_of is_listed
parameter-fits takes around k old new p bare =
    let t : Term = parameter k in
    let G : Slot → Fitting = λ slot inner allowed place cs. NamesArgument inner allowed k in
    subst (λ s. SolidFits takes around (tree t true) old s) p.is
    (spelled-solid takes around t G (λ n. text (codes "T" ++ ordinal k)) old p.mid (record {
      is = tt;
      keeps = λ n. text-keeps Unit n (Whole t) (codes "T" ++ ordinal k);
      function = tt;
      whole = λ slot n. typed-complete t (λ m. refl) slot (pressed_at n around);
    }) (λ slot take. named-fitted around k old new p bare))

-- ## Template names with arguments

-- a template name before arguments in a type, read from one state to another
abbrev pub BeforeFits : (around : Around) → (t a : Term) → (old new : State) → Type 0
BeforeFits around t a old new =
    Fitted around ((fits_of t).before true (arguments_standing a)) (λ n. (ways_of n t).before true (arguments_text a n)) (instance t a) old new

-- a template name with its arguments is a type that becomes a candidate
pub instance-fits : (takes : Slot → Bool) (around : Around) (t a : Term) (old new : State) → BeforeFits around t a old new
    → SolidFits takes around (tree (instance t a) false) old new
unfolding fits_of fits_nowhere ways_of name_ways no_ways with_type with_unqualified is_function_type tree_of is_listed
instance-fits takes around t a old new one =
    let own : Term = instance t a in
    let s : ℕ → Spelling = λ n. (ways_of n t).before true (arguments_text a n) in
    spelled-solid takes around own (λ slot. (fits_of t).before true (arguments_standing a)) s old new (record {
      is = tt;
      keeps = λ n. (keeps t Unit n (Whole own) way.before) (λ x w. inr (inl w)) true (arguments_text a n)
          (arguments-keep n (Whole own) a (λ x i. inr (inr i)));
      function = tt;
      whole = λ slot n. typed-complete own (λ m. refl) slot (pressed_at n around);
    }) (λ slot take. one)

pub parameter-before : (around : Around) (k : ℕ) (a : Term) (old mid new : State) → ParameterNamed around k old mid → LambdasAreBare around
    → ElementsFit around a mid new → BeforeFits around (parameter k) a old new
unfolding fits_of type_fits fits_nowhere ways_of type_ways no_ways with_type tree_of is_listed
parameter-before around k a old mid new p bare other =
    and-fitted ((parameter-fits (λ slot. true) around k old mid p bare).types any_type tt refl)
    (arguments-fitted around a mid new other) (instance-may around (parameter k) a)

pub abbreviation-before : (around : Around) (l : ℕ) (a : Term) (old new : State) → IsAbbreviation l
    → ElementsFit around a old new → BeforeFits around (abbreviation l) a old new
unfolding fits_of fits_nowhere ways_of type_ways no_ways with_type tree_of is_listed
abbreviation-before around l a old new is other =
    and-fitted ((abbreviation-fits (λ slot. true) around l old is).types any_type tt refl)
    (arguments-fitted around a old new other) (instance-may around (abbreviation l) a)
