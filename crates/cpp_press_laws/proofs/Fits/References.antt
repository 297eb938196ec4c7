-- A tree that a reader names by a reference fits, since it is among the components. A tree without parts fits in the form in
-- which it was read.
use Rattle.cpp_press_laws.proofs.Basics.{◌≡◌, ℕ, zero, suc, ◌⊎◌, inl, inr, List, [], ◌∷◌, Option, Some, None, Bool, true, false, Result, Ok, Err, refl, ap, sym, subst, ◌∙◌, ◌+◌, length, arith, ◌&&◌, ◌||◌, not, nat_eq, slice_get, eqb-true, Refusal, BadReference, Found, ◌>>=◌, found, Term, symbol, abbreviation, builtin, function_type, alone, in_std, within, instance, parameter, tagged, is_open, Candidate, State, Around, Value, tree, tree_of, is_listed, is_function_type, with_type, with_unqualified, with_packs, packs_in, is_module, substituted, ok_same, behind_bind, either, Component, Spelling, first_equal, reference, spelled_out, referred, component, ways_of, type_ways, name_ways, no_ways, template_before, Fitting, Slot, any_type, bare_type, item_type, parameter_type, literal_type, type_fits, piece_fits, argument_fits, encoding_fits, fits_nowhere, fits_of, PacksFit, MayBeReferred, Standing, Behind, ◌and◌}
use Rattle.cpp_press_laws.proofs.Components.Parts.{IsComponent, Whole, Unqualified, Has, stands-found}
use Rattle.cpp_press_laws.proofs.Components.Complete.{Complete, StandAmong, complete-has, Allows, named-stands}
use Rattle.cpp_press_laws.proofs.Fits.Packs.{PacksNamed, packs-named}
use Rattle.cpp_press_laws.proofs.Components.Again.{ItemStands, FunctionStands, item-again, function-again, once}
use Rattle.cpp_press_laws.proofs.Slots.{each-slot}
use Rattle.cpp_press_laws.proofs.Fitting as fit
use Rattle.cpp_press_laws.proofs.Components.AddedWays.{way_at, IsNotBare, Adds, AddsParts}
use Rattle.cpp_press_laws.proofs.Components.AddedTrees.{adds}
use Rattle.cpp_press_laws.proofs.Fits.Read.{pressed_at, FunctionsStand, Fitted, Front, allows-before}
use Rattle.cpp_press_laws.proofs.Components.NoneAdded.{type-none, bare-none}
use Rattle.cpp_press_laws.proofs.Fits.Types.{BareFits, SolidFits}
use Rattle.sym_spell.specs.Pressing as spell
use Rattle.cpp_press_laws.proofs.Fits.Names.{ElementsFit, arguments_standing, arguments_text, arguments-fitted, instance-may}

-- ## What a substitution denotes

-- a candidate that was named: its number, where it may be named, its packs, and the state after it
pub record Referred (around : Around) (old new : State) (c : Candidate) : Type 0 where
  pub number : ℕ
  pub there : slice_get old.candidates number ≡ Some c
  pub named : (is_open c.tree ≡ false) ⊎ (c.encoding ≡ around.encoding)
  pub lambda : is_open c.tree && around.in_lambda ≡ false
  pub candidates : new.candidates ≡ old.candidates
  pub packs : PacksNamed around.in_expansion (packs_in around.scope c.tree) old new

pub named-packs : (around : Around) (allowed packs : Option ℕ) (old new : State) → PacksNamed around.in_expansion packs old new
    → Allows allowed new.packs → PacksFit around allowed packs
named-packs around allowed packs old new named allows = go packs named.are
  where
    go : (o : Option ℕ) → (o ≡ None) ⊎ ((around.in_expansion ≡ true) × (o ≡ new.packs)) → PacksFit around allowed o
    go o (inl none) = inl none
    go None (inr here) = inl refl
    go (Some m) (inr here) = inr (here.0, sym (allows m (sym here.1)))

-- a candidate that was named may be referred to in pressed bytes
pub referred-may : (around : Around) (n : ℕ) (allowed : Option ℕ) (old new : State) (c : Candidate) → Referred around old new c
    → Allows allowed new.packs → MayBeReferred (pressed_at n around) allowed c.tree
referred-may around n allowed old new c r allows = record {
  lambda = r.lambda;
  packs = named-packs around allowed (packs_in around.scope c.tree) old new r.packs allows;
}

-- a function type that was named may be spelled again
pub functions-get : (scope : Option Term) (read number : ℕ) (c : Candidate) (cs : List Candidate) → FunctionsStand scope read cs
    → slice_get cs number ≡ Some c → (is_open c.tree ≡ false) ⊎ (c.encoding ≡ read) → FunctionStands scope c.tree
functions-get scope read number c [] all at may = absurd cc
functions-get scope read zero c (d ∷ ds) all at may =
    let same : d ≡ c = cc in
    subst (λ x. (is_open x.tree ≡ false) ⊎ (x.encoding ≡ read) → FunctionStands scope x.tree) same all.0 may
functions-get scope read (suc number) c (d ∷ ds) all at may = functions-get scope read number c ds all.1 at may

-- ## Components fit again

component-stands : (t : Term) (slot : Slot) (scope : Option Term) → IsComponent t → ItemStands slot scope (packs_in scope t) t
component-stands (builtin code) slot scope is = absurd is
component-stands (abbreviation l) slot scope is = absurd is
component-stands (symbol e suffix) slot scope is = absurd is
component-stands t slot scope is = (is, inr refl)

-- a component that is among complete components fits as a type
pub type-again : (t : Term) (slot : Slot) → IsNotBare slot → IsComponent t → (around : Around) (allowed : Option ℕ)
    → MayBeReferred around allowed t → (place : ℕ) (cs : List Component) → Complete cs → Has around.encoding t cs
    → (fits_of t).as_type slot around allowed place cs
type-again t slot other is around allowed may place cs complete has =
    item-again t slot other around allowed (packs_in around.scope t) (component-stands t slot around.scope is) may.packs may.lambda place cs
    (complete-has around.encoding t cs complete has)

-- a component that is among complete components fits right under qualifiers, too; a function type is spelled out there
pub bare-again : (t : Term) → IsComponent t → (around : Around) (allowed : Option ℕ) → FunctionStands around.scope t
    → MayBeReferred around allowed t → (place : ℕ) (cs : List Component) → Complete cs → Has around.encoding t cs
    → (fits_of t).as_type bare_type around allowed place cs
unfolding fits_of type_fits piece_fits argument_fits encoding_fits fits_nowhere
bare-again (function_type c_linkage noexcept ref returned parameters) is around allowed stands may place cs complete has =
    function-again c_linkage noexcept ref returned parameters around allowed stands may place cs complete has
bare-again (symbol e suffix) is around allowed stands may place cs complete has = absurd is
bare-again t is around allowed stands may place cs complete has =
    first_of (search is, search (once, may, stands-found around.encoding t 0 cs has))

-- ## References

-- A candidate that was named is spelled as a reference, which adds nothing.
pub referred-fitted : {k : ℕ} (around : Around) (F : Fitting) (s : ℕ → Spelling) (old new : State) (c : Candidate) (P : Term → Type 0)
    → Referred around old new c
    → ((n : ℕ) (allowed : Option ℕ) → Adds k n P (F (pressed_at n around) allowed) (s n))
    → ((n : ℕ) (allowed : Option ℕ) (place : ℕ) (cs : List Component) → MayBeReferred (pressed_at n around) allowed c.tree
    → FunctionStands around.scope c.tree → IsComponent c.tree → Complete cs → Has n c.tree cs → F (pressed_at n around) allowed place cs)
    → ((n place : ℕ) (cs : List Component) → IsComponent c.tree → Complete cs → Has n c.tree cs → (s n place cs).components ≡ cs)
    → Fitted around F s c.tree old new
referred-fitted {k} around F s old new c P r adding again none = record {
  stay = r.packs.stay;
  fits = λ n place cs allowed front allows. (
      let named = named-stands around.encoding n r.number c old.candidates cs front.among r.there r.named in
      let may = referred-may around n allowed old new c r allows in
      let fits = again n allowed place cs may (functions-get around.scope around.encoding r.number c old.candidates front.functions r.there
      r.named) named.0 front.complete named.1 in
      let a : AddsParts k n P cs (s n place cs) = adding n allowed place cs fits in
      record {
        fits = fits;
        may = may;
        complete = a.complete front.complete;
        among = subst (λ l. StandAmong around.encoding n l (s n place cs).components) (sym r.candidates)
            (subst (StandAmong around.encoding n old.candidates) (sym (none n place cs named.0 front.complete named.1)) front.among);
        functions = subst (FunctionsStand around.scope around.encoding) (sym r.candidates) front.functions;
      });
}

pub unlisted : (around : Around) (t : Term) (state : State) → with_unqualified around (tree t true) state ≡ state
unfolding with_unqualified with_type tree_of is_listed
unlisted around t state = either (λ s. s ≡ state) (is_function_type t) state state (λ h. refl) (λ h. refl)

-- a type that was named by a reference
pub referred-solid : (takes : Slot → Bool) (around : Around) (old new : State) (c : Candidate) → Referred around old new c
    → SolidFits takes around (tree c.tree true) old new
unfolding with_type tree_of is_listed way_at
referred-solid takes around old new c r = record {
  types = λ slot other take. referred-fitted around ((fits_of c.tree).as_type slot) (λ n. (ways_of n c.tree).as_type) old new c (Whole c.tree) r
      (λ n allowed. typed slot other n allowed)
      (λ n allowed place cs may stands is complete has.
      type-again c.tree slot other is (pressed_at n around) allowed may place cs complete has)
      (λ n place cs is complete has. type-none c.tree n place cs (λ _. has));
  bare = λ take. subst (λ s. BareFits around c.tree old s) (sym (unlisted around c.tree new))
      (referred-fitted around ((fits_of c.tree).as_type bare_type) (λ n. (ways_of n c.tree).under_qualifiers) old new c (Unqualified c.tree) r
      (λ n allowed. ((adds c.tree).at fit.as_type) bare_type (pressed_at n around) allowed)
      (λ n allowed place cs may stands is complete has.
      bare-again c.tree is (pressed_at n around) allowed stands may place cs complete has)
      (λ n place cs is complete has. bare-none c.tree n place cs is complete has));
}
  where
    typed : (slot : Slot) → IsNotBare slot → (n : ℕ) (allowed : Option ℕ)
        → Adds 1 n (Whole c.tree) ((fits_of c.tree).as_type slot (pressed_at n around) allowed) (ways_of n c.tree).as_type
    typed = each-slot _ (λ h n allowed. ((adds c.tree).at fit.as_type) any_type (pressed_at n around) allowed) (λ h n allowed. absurd h) (λ h n allowed. ((adds c.tree).at fit.as_type) item_type (pressed_at n around) allowed) (λ h n allowed. ((adds c.tree).at fit.as_type) parameter_type (pressed_at n around) allowed) (λ h n allowed. ((adds c.tree).at fit.as_type) literal_type (pressed_at n around) allowed)

-- ## Substitutions that aren't refused

-- the candidate that a substitution denotes
pub record Substituted (around : Around) (old : State) (r : Found Value State) : Type 0 where
  pub candidate : Candidate
  pub value : r.value ≡ tree candidate.tree true
  pub referred : Referred around old r.state candidate

pub substitution-refers : (around : Around) (place number : ℕ) (state : State) (r : Found Value State)
    → substituted around place (slice_get state.candidates number) state ≡ Ok r → Substituted around state r
unfolding substituted
substitution-refers around place number state r e = go (slice_get state.candidates number) refl e
  where
    answered : (c : Candidate) → slice_get state.candidates number ≡ Some c → (is_open c.tree ≡ false) ⊎ (c.encoding ≡ around.encoding)
        → is_open c.tree && around.in_lambda ≡ false
        → (with_packs place around.in_expansion (packs_in around.scope c.tree) state >>= λ s. Ok (found (tree c.tree true) s)) ≡ Ok r
        → Substituted around state r
    answered c is named lambda_ h =
        let b = behind_bind (with_packs place around.in_expansion (packs_in around.scope c.tree) state)
        (λ s. Ok (found (tree c.tree true) s)) r h in
        let same : found (tree c.tree true) b.value ≡ r = ok_same (found (tree c.tree true) b.value) r b.next in
        let named_packs = packs-named place around.in_expansion (packs_in around.scope c.tree) state b.value b.is in
        subst (λ x. Substituted around state x) same
        (record {
          candidate = c;
          value = refl;
          referred = record {
            number = number;
            there = is;
            named = named;
            lambda = lambda_;
            candidates = named_packs.candidates;
            packs = named_packs;
          };
        })

    tested : (c : Candidate) → slice_get state.candidates number ≡ Some c → (module_ open_ lambda_ same : Bool) → is_open c.tree ≡ open_
        → around.in_lambda ≡ lambda_ → nat_eq c.encoding around.encoding ≡ same
        → ◌≡◌ {A = Result (Found Value State) Refusal} (elim (module_ || (open_ && (lambda_ || not same))) [
          | true ↦ Err (BadReference place)
          | false ↦ with_packs place around.in_expansion (packs_in around.scope c.tree) state >>= λ s. Ok (found (tree c.tree true) s)
        ]) (Ok r) → Substituted around state r
    tested c is true open_ lambda_ same is-open is-lambda is-same h = absurd cc
    tested c is false false lambda_ same is-open is-lambda is-same h = answered c is (inl is-open) (ap (λ b. b && around.in_lambda) is-open) h
    tested c is false true true same is-open is-lambda is-same h = absurd cc
    tested c is false true false false is-open is-lambda is-same h = absurd cc
    tested c is false true false true is-open is-lambda is-same h =
        answered c is (inr (eqb-true c.encoding around.encoding is-same)) (ap (λ b. b && around.in_lambda) is-open ∙ is-lambda) h

    go : (o : Option Candidate) → slice_get state.candidates number ≡ o → substituted around place o state ≡ Ok r → Substituted around state r
    go None is h = let clash : ◌≡◌ {A = Result (Found Value State) Refusal} (Err (BadReference place)) (Ok r) = h in absurd cc
    go (Some c) is h = tested c is (is_module c.tree) (is_open c.tree) around.in_lambda (nat_eq c.encoding around.encoding) refl refl refl h

referred-found : (n number : ℕ) (own : Term) (behind other : Spelling) (place : ℕ) (cs : List Component) → first_equal n own 0 cs ≡ Some number
    → referred n own behind other place cs ≡ (reference number and behind) place cs
unfolding referred
referred-found n number own behind other place cs is =
    ap (λ o. elim o as (λ _. spell.Pressed Component) [ Some k ↦ (reference k and behind) place cs | None ↦ other place cs ]) is

-- a component with an equal one before it is spelled as a reference
component-is : (n number : ℕ) (own : Term) (s : Spelling) (place : ℕ) (cs : List Component) → first_equal n own 0 cs ≡ Some number
    → component n own s place cs ≡ reference number place cs
unfolding component
component-is n number own s place cs is =
    ap (λ o. elim o as (λ _. spell.Pressed Component) [ Some k ↦ reference k place cs | None ↦ spelled_out n own s place cs ]) is

component-found : (n number : ℕ) (own : Term) (s behind : Spelling) (place : ℕ) (cs : List Component) → first_equal n own 0 cs ≡ Some number
    → (component n own s and behind) place cs ≡ (reference number and behind) place cs
component-found n number own s behind place cs is =
    let first : spell.Pressed Component → Spelling = λ w later ds. w in
    ap (λ w. (first w and behind) place cs) (component-is n number own s place cs is)

-- what holds after a reference to an earlier component also holds after a component that equals the earlier one
named-behind : (n number : ℕ) (own : Term) (s : Spelling) (G : Standing) (place : ℕ) (cs : List Component) → first_equal n own 0 cs ≡ Some number
    → Behind (reference number) G place cs → Behind (component n own s) G place cs
named-behind n number own s G place cs is fits =
    subst (λ w. G (place + length (spell.Pressed.bytes w)) (spell.Pressed.components w)) (sym (component-is n number own s place cs is)) fits

some-one : {a b : ℕ} → Some a ≡ Some b → a ≡ b
some-one h = cc

same-reference : (number other : ℕ) (G : Standing) (place : ℕ) (cs : List Component) → Some number ≡ Some other
    → Behind (reference number) G place cs → Behind (reference other) G place cs
same-reference number other G place cs same fits = subst (λ k. Behind (reference k) G place cs) (some-one same) fits

-- the number of a tree that is among the components
record FoundAt (n : ℕ) (own : Term) (cs : List Component) : Type 0 where
  pub number : ℕ
  pub is : first_equal n own 0 cs ≡ Some number

found-number : (n : ℕ) (own : Term) (cs : List Component) → Has n own cs → FoundAt n own cs
found-number n own cs has = go (first_equal n own 0 cs) refl
  where
    go : (o : Option ℕ) → first_equal n own 0 cs ≡ o → FoundAt n own cs
    go (Some number) is = record { number = number; is = is }
    go None is = absurd (stands-found n own 0 cs has is)

-- a template name that is among the components is spelled as a reference before its arguments
before-spelled : (t : Term) → IsComponent t → (n number : ℕ) (typed : Bool) (arguments : Spelling) (place : ℕ) (cs : List Component)
    → first_equal n t 0 cs ≡ Some number → (ways_of n t).before typed arguments place cs ≡ (reference number and arguments) place cs
unfolding ways_of type_ways name_ways no_ways template_before
before-spelled (alone p) c n number typed arguments place cs is = referred-found n number (alone p) arguments _ place cs is
before-spelled (in_std p) c n number typed arguments place cs is = referred-found n number (in_std p) arguments _ place cs is
before-spelled (within prefix p) c n number typed arguments place cs is = referred-found n number (within prefix p) arguments _ place cs is
before-spelled (tagged of_structor name tag) c n number typed arguments place cs is = referred-found n number (tagged of_structor name tag) arguments _ place cs is
before-spelled (symbol e suffix) c n number typed arguments place cs is = absurd c
before-spelled _ c n number typed arguments place cs is = first_of (search c, search (component-found, is))

thrice : {may again stands one : Type 0} → may → again → (stands → ⊥) → may × again × (stands → one)
thrice may again never = (may, again, λ stands. absurd (never stands))

-- a template name that is among the components fits as a reference before its arguments
before-found : (t : Term) → IsComponent t → (around : Around) (allowed : Option ℕ) (number : ℕ) (typed : Bool) (G : Fitting) (place : ℕ)
    (cs : List Component) → MayBeReferred around allowed t → Has around.encoding t cs → first_equal around.encoding t 0 cs ≡ Some number
    → Behind (reference number) (G around allowed) place cs → (fits_of t).before typed G around allowed place cs
unfolding fits_of type_fits fits_nowhere ways_of type_ways no_ways component
before-found (parameter k) c around allowed number typed G place cs may has is fits = (
  (may, λ first. absurd (stands-found around.encoding (parameter k) 0 cs has first)),
  named-behind around.encoding number (parameter k) _ (G around allowed) place cs is fits,
)
before-found (symbol e suffix) c around allowed number typed G place cs may has is fits = absurd c
before-found t c around allowed number typed G place cs may has is fits =
    let again : (other : ℕ) → first_equal around.encoding t 0 cs ≡ Some other → Behind (reference other) (G around allowed) place cs =
    λ other same. same-reference number other (G around allowed) place cs (sym is ∙ same) fits in
    first_of (search c, search (thrice, may, again, stands-found around.encoding t 0 cs has))

-- a name that was referred to, before its arguments: in a type, or in an encoding's own name
pub referred-before : (around : Around) (typed : Bool) (c : Candidate) (a : Term) (old mid new : State) → Referred around old mid c
    → ElementsFit around a mid new
    → Fitted around ((fits_of c.tree).before typed (arguments_standing a)) (λ n. (ways_of n c.tree).before typed (arguments_text a n))
    (instance c.tree a) old new
unfolding reference
referred-before around typed c a old mid new r other = record {
  stay = λ m is. behind_.stay m (r.packs.stay m is);
  fits = λ n place cs allowed front allows. (
      let named = named-stands around.encoding n r.number c old.candidates cs front.among r.there r.named in
      let f = found-number n c.tree cs named.1 in
      let later : ℕ = place + length (reference f.number place cs).bytes in
      let before : Front around n later cs mid = record {
        later = omega (arith, front.later);
        complete = front.complete;
        among = subst (λ l. StandAmong around.encoding n l cs) (sym r.candidates) front.among;
        functions = subst (FunctionsStand around.scope around.encoding) (sym r.candidates) front.functions;
      } in
      let may = referred-may around n allowed old mid c r (allows-before allowed mid new behind_.stay allows) in
      let p = behind_.fits n later cs allowed before allows in
      let spelled = before-spelled c.tree named.0 n f.number typed (arguments_text a n) place cs f.is in
      record {
        fits = before-found c.tree named.0 (pressed_at n around) allowed f.number typed (arguments_standing a) place cs may named.1 f.is p.fits;
        may = instance-may around c.tree a n allowed may p.may;
        complete = subst (λ w. Complete (spell.Pressed.components w)) (sym spelled) p.complete;
        among = subst (λ w. StandAmong around.encoding n new.candidates (spell.Pressed.components w)) (sym spelled) p.among;
        functions = p.functions;
      });
}
  where
    behind_ : Fitted around (arguments_standing a) (arguments_text a) a mid new
    behind_ = arguments-fitted around a mid new other
