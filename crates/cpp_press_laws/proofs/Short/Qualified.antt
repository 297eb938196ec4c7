-- What is paid for types under qualifiers, types with arguments, and types that a substitution names.
use Rattle.cpp_press_laws.proofs.Basics.{◌≡◌, ℕ, zero, suc, ◌+◌, ◌*◌, ◌-◌, ◌≤◌, ◌⊎◌, inl, inr, length, List, [], ◌∷◌, Bool, true, false, cond, Some, Ok, refl, ap, sym, subst, ◌∙◌, arith, not, ◌&&◌, nat_eq, slice_get, false≢true, true≢false, Seq36, counted_value, found, Kind, Production, Operation, kinds, number_of, number_of_kind, parts_of, is_chain, row_of, Qualifiers, Term, symbol, vendor, instance, parameter, lvalue, rvalue, function_type, qualified, integer, State, Around, Value, nothing_there, tree, named, tree_of, is_listed, is_there, text_of, signed_of, Candidate, is_function_type, appended, parameter_named, with_type, with_unqualified, substituted, after, applied, named_so_far, listed_so_far, parameter_so_far, index_of, between, parameters, listed_value, reference_to, meaning, close, either_cond, all_pass, qualifier_letters, components_of, Component, is_component, is_encoding, element, is_open, has_letters}
use Rattle.cpp_grammar.specs.Values as values
use Rattle.cpp_grammar.specs.Unfolding as unfolding_
use Rattle.cpp_press_laws.proofs.Short.Size.{part_of, bare_of, size, over, part, part-some}
use Rattle.cpp_press_laws.proofs.Short.Worth.{is_among, is_again, full, worth, full-most, worths, has-among}
use Rattle.cpp_press_laws.proofs.Short.Gains.{wealth, IsSmall, AllSmall, name, type, bare, arguments, Class, class_of, typed, held, need, lent, owed, loan, returned, grant, SmallPrefix, ready_for, Ready, IsKnown, IsKept, Gains, Gained, appended-wealth, appended-grown, typed-grown}
use Rattle.cpp_press_laws.proofs.Short.Paid.{Ended, comes-to}
use Rattle.cpp_press_laws.proofs.Short.ByRow.{is_read, part_passes, parts_pass, cost_of, credit_of, Knows, is_idle, all_quiet, refers, Pays, row_goes, by-row, is_listed_in, each_goes, one-goes, may_read, may_be_part, Standing}
use Rattle.cpp_press_laws.proofs.Components.Parts.{Has, has-before, has-itself, has-closed}
use Rattle.cpp_press_laws.proofs.Fits.References.{Substituted, substitution-refers}
use Rattle.cpp_press_laws.proofs.Short.Slots.{letters-short}
use Rattle.cpp_press_laws.proofs.Short.Types.{Idle, Free, listed, reference-gains, held-signed, listed-granted}
use Rattle.cpp_press_laws.proofs.Short.Names.{parameter-goes}

-- ## Conversions

-- what is paid for a name also pays for the name as a type, if no name comes before it
pub as-type : {around : Around} {v : Value} {old new : State} {b : ℕ} → lent around.prefix ≡ 0 → Gains name 0 around v old new b
    → Gains type 0 around v old new b
unfolding need typed loan returned IsKnown IsKept
as-type {around} {v} idle g = record {
  few = omega (arith, g.few, idle, most (is_listed v), g.known.0.0);
  known = (g.known.0.1, ((λ h. g.known.0.0), (λ h is. absurd (false≢true (sym g.known.1 ∙ is)))));
  kept = tt;
  small = g.small;
}
  where
    most : (l : Bool) → cond l 0 (full (tree_of v)) ≤ 1 + size (tree_of v)
    most true = omega arith
    most false = full-most (tree_of v)

-- whatever is paid for without a grant is also paid for with any grant
pub granted : {c : Class} {around : Around} {v : Value} {old new : State} {b : ℕ} (g : ℕ) → Gains c 0 around v old new b → Gains c g around v old new b
granted g one = record { few = omega (arith, one.few); known = one.known; kept = one.kept; small = one.small }

-- ## Types under qualifiers

function-part : (t : Term) → is_function_type t ≡ true → part t ≡ 8
unfolding is_function_type part_of is_component
function-part (function_type c_linkage noexcept ref returned parameters) is = refl
function-part (symbol e suffix) is = absurd (false≢true is)
function-part t is = absurd (false≢true is)

bare-most : (v : Value) (f a : Bool) → is_function_type (tree_of v) ≡ f → (is_listed v ≡ true → f ≡ true → a ≡ true)
    → cond f (8 + cond a 0 (size (tree_of v))) (part (tree_of v)) ≤ typed v
unfolding typed full
bare-most v f a is among = go (is_listed v) f a is among
  where
    go : (l f a : Bool) → is_function_type (tree_of v) ≡ f → (l ≡ true → f ≡ true → a ≡ true)
        → cond f (8 + cond a 0 (size (tree_of v))) (part (tree_of v))
        ≤ cond l 0 (cond (is_function_type (tree_of v)) (1 + size (tree_of v)) (1 + over (size (tree_of v)))) + part (tree_of v)
    go true false a is h = omega arith
    go false false a is h = omega arith
    go true true true is h = omega (arith, function-part (tree_of v) is)
    go true true false is h = absurd (false≢true (h refl refl))
    go false true true is h = omega (arith, function-part (tree_of v) is)
    go false true false is h =
        omega (arith, function-part (tree_of v) is, ap (λ g. cond g (1 + size (tree_of v)) (1 + over (size (tree_of v)))) is)

-- a type directly under qualifiers becomes a candidate, unless it is a function type
bare-here : (around : Around) (v : Value) (s old : State) (b : ℕ) → AllSmall s.candidates → IsKnown type around v s
    → wealth s + typed v ≤ wealth old + 8 * b → Gains bare 0 around (tree (tree_of v) true) old (with_unqualified around v s) b
unfolding need typed is_listed tree_of loan returned IsKnown IsKept with_unqualified
bare-here around v s old b all known few = go (is_function_type (tree_of v)) refl
  where
    go : (f : Bool) → is_function_type (tree_of v) ≡ f
        → Gains bare 0 around (tree (tree_of v) true) old (elim f as (λ _. State) [ true ↦ s | false ↦ with_type around v s ]) b
    go true is = record {
      few = omega (
        arith,
        few,
        bare-most v (is_function_type (tree_of v)) (is_among around.encoding (tree_of v) (components_of s.candidates)) refl known.1.1,
      );
      known = tt;
      kept = tt;
      small = all;
    }
    go false is =
        let g = typed-grown around v s all (λ h. (known.1.0 h, known.0)) in
        record {
          few = omega (
            arith,
            few,
            g.few,
            ap (λ f. cond f (8 + cond (is_among around.encoding (tree_of v) (components_of (with_type around v s).candidates)) 0 (size (tree_of v)))
                (part (tree_of v))) is,
          );
          known = tt;
          kept = tt;
          small = g.small;
        }

-- a type that isn't a function type is paid for directly under qualifiers, too
pub as-bare : {around : Around} {v : Value} {old new : State} {b : ℕ} → is_function_type (tree_of v) ≡ false → Gains type 0 around v old new b
    → Gains bare 0 around v old new b
unfolding need typed loan returned IsKnown IsKept
as-bare {around} {v} {old} {new} other g = record {
  few = omega (
    arith,
    g.few,
    ap (λ f. cond f (8 + cond (is_among around.encoding (tree_of v) (components_of new.candidates)) 0 (size (tree_of v))) (part (tree_of v))) other,
  );
  known = tt;
  kept = tt;
  small = g.small;
}

reference-other : (b : ℕ) (v : Value) → is_function_type (tree_of (listed_value (reference_to b v))) ≡ false
unfolding listed_value reference_to tree_of is_function_type
reference-other b v =
    either_cond (λ t. is_function_type t ≡ false) (nat_eq b 82) (lvalue (tree_of v)) (rvalue (tree_of v)) (λ h. refl) (λ h. refl)

pub bare-reference-gains : Idle Production.ReferenceType bare
unfolding parts_of between is_chain close unfolding_.behind meaning values.part class_of grant Gained Ready ready_for need typed loan returned IsKnown IsKept
bare-reference-gains around at old v new b idle small all o =
    let p0 = o.paid in
    as-bare (comes-to (λ w s. is_function_type (tree_of w) ≡ false) o (p0.value ∷ []) p0.after (listed_value (reference_to o.byte p0.value))
    (appended around (tree_of (listed_value (reference_to o.byte p0.value))) p0.after) p0.onward.0 refl (reference-other o.byte p0.value))
    (reference-gains around at old v new b idle small all o)

-- a qualified type is worth at most what is kept for the type under its qualifiers
qualified-worth : (q : Qualifiers) (n : ℕ) (t : Term) (cs : List Component) → has_letters q ≡ true
    → worth cs n (qualified q t) ≤ cond (is_function_type t) (8 + cond (is_among n t cs) 0 (size t)) (part t)
unfolding worth is_again full over size bare_of is_function_type
qualified-worth q n t cs some = go (is_function_type t) (is_among n t cs)
  where
    go : (f a : Bool)
        → cond (has_letters q && (f && a)) 1 (1 + (length (qualifier_letters q) + cond f (size t) (part_of t (size t)) - 8))
        ≤ cond f (8 + cond a 0 (size t)) (part t)
    go true true = omega (arith, ap (λ h. cond (h && true) 1 (1 + (length (qualifier_letters q) + size t - 8))) some)
    go true false = omega (arith, letters-short q, ap (λ h. cond (h && false) 1 (1 + (length (qualifier_letters q) + size t - 8))) some)
    go false a = omega (arith, letters-short q, part-some t, ap (λ h. cond (h && false) 1 (1 + (length (qualifier_letters q) + part_of t (size t) - 8))) some)

qualified-here : (around : Around) (q : Qualifiers) (v : Value) (s old : State) (b : ℕ) → has_letters q ≡ true → AllSmall s.candidates
    → wealth s + need bare around v s + 8 ≤ wealth old + 8 * b
    → Gains type 0 around (tree (qualified q (tree_of v)) true) old (appended around (qualified q (tree_of v)) s) b
unfolding need part_of is_component is_encoding is_function_type
qualified-here around q v s old b some all few =
    let g = appended-grown around (qualified q (tree_of v)) s all (omega arith, refl) in
    listed around (qualified q (tree_of v)) (appended around (qualified q (tree_of v)) s) old b refl refl g.small
    (omega (
      arith,
      few,
      appended-wealth around (qualified q (tree_of v)) s,
      qualified-worth q around.encoding (tree_of v) (components_of s.candidates) some,
    ))

-- Generated by tools/trees.py.
unfoldable pub qualified_rows : Class → List Production
qualified_rows bare = Production.QualifiedPlain ∷ Production.PlainWithD ∷ []
qualified_rows type = Production.ConstType ∷ Production.VolatileType ∷ Production.RestrictType ∷ []
qualified_rows _ = []

qualified-pays : (c : Class) (p : Production) → is_listed_in (qualified_rows c) p ≡ true → Pays (Standing false) p c 0
unfolding is_listed_in qualified_rows kinds number_of number_of_kind parts_of is_chain unfolding_.behind meaning values.part class_of grant cost_of credit_of Knows need typed loan returned IsKnown IsKept listed_value tree_of has_letters held
qualified-pays bare Production.QualifiedPlain is = λ byte around old idle small v s n k all b few. bare-here around v s old b all k (omega (arith, few))
qualified-pays bare Production.PlainWithD is = λ byte around old idle small v s n k all b few. bare-here around v s old b all k (omega (arith, few))
qualified-pays type Production.ConstType is = λ byte around old idle small v s n k all b few. qualified-here around _ v s old b refl all (omega (arith, few))
qualified-pays type Production.VolatileType is = λ byte around old idle small c s0 n0 k0 v s n k all b few. qualified-here around _ v s old b refl all (omega (arith, few))
qualified-pays type Production.RestrictType is = λ byte around old idle small w s0 n0 k0 c s1 n1 k1 v s n k all b few. qualified-here around _ v s old b refl all (omega (arith, few))
qualified-pays _ (Production.Operation Operation.ExpressionC) is = absurd (false≢true is)
qualified-pays _ _ is = absurd (false≢true is)

qualified-go : (c : Class) → each_goes (may_be_part false) (qualified_rows c) ≡ true
unfolding is_listed_in each_goes row_goes all_quiet all_pass is_idle refers parts_pass part_passes is_read class_of kinds number_of number_of_kind parts_of row_of may_be_part qualified_rows may_read
qualified-go bare = refl
qualified-go type = refl
qualified-go _ = refl

pub qualified-gains : (c : Class) (p : Production) → is_listed_in (qualified_rows c) p ≡ true → Idle p c
qualified-gains c p is = by-row false p c 0 (one-goes (may_be_part false) (qualified_rows c) p (qualified-go c) is) (qualified-pays c p is)

-- ## Types with arguments

bare-type : (around : Around) (t : Term) (l : Bool) (w : Value) (s mid old : State) (c b g : ℕ) → w ≡ nothing_there → is_encoding t ≡ false
    → (l ≡ false → part t ≤ 8) → (l ≡ true → is_function_type t ≡ true → is_among around.encoding t (components_of mid.candidates) ≡ true)
    → Gains arguments 0 (after t l around) w mid s c
    → wealth mid + 8 * c + (cond l 0 (full t) + part t) ≤ wealth old + 8 * b + g
    → Gains type g around (tree (applied t w) (l && not (is_there w))) old s b
unfolding applied is_there need typed returned loan owed after IsKept IsKnown is_listed tree_of
bare-type around t l w s mid old c b g none scope one among gw few =
    subst (λ u. Gains type g around (tree (applied t u) (l && not (is_there u))) old s b) (sym none)
    (subst (λ r. Gains type g around (tree t (l && true)) old r b) (sym (gw.kept none)) (whole_ l one among few))
  where
    whole_ : (l : Bool) → (l ≡ false → part t ≤ 8)
        → (l ≡ true → is_function_type t ≡ true → is_among around.encoding t (components_of mid.candidates) ≡ true)
        → wealth mid + 8 * c + (cond l 0 (full t) + part t) ≤ wealth old + 8 * b + g → Gains type g around (tree t (l && true)) old mid b
    whole_ true one among few = record {
      few = omega (arith, few);
      known = (scope, ((λ h. absurd (true≢false h)), (λ h is. among refl is)));
      kept = tt;
      small = subst (λ r. AllSmall r.candidates) (gw.kept none) gw.small;
    }
    whole_ false one among few = record {
      few = omega (arith, few);
      known = (scope, ((λ h. one refl), (λ h. absurd (false≢true h))));
      kept = tt;
      small = subst (λ r. AllSmall r.candidates) (gw.kept none) gw.small;
    }

instance-made : (around : Around) (t a : Term) (s old : State) (b g : ℕ) → AllSmall s.candidates
    → wealth s + (size a + 13 + part t) ≤ wealth old + 8 * b + g → Gains type g around (tree (instance t a) false) old s b
unfolding need typed is_listed tree_of loan returned IsKnown IsKept full over size part_of is_component is_function_type is_encoding
instance-made around t a s old b g all few = record {
  few = omega (arith, few);
  known = (refl, ((λ h. omega arith), (λ h. absurd (false≢true h))));
  kept = tt;
  small = all;
}

given-type : (around : Around) (t : Term) (l : Bool) (w : Value) (s mid old : State) (c b g : ℕ) → w ≡ tree (tree_of w) true
    → Gains arguments 0 (after t l around) w mid s c
    → wealth mid + 8 * c + (cond l 0 (full t) + part t) ≤ wealth old + 8 * b + g
    → Gains type g around (tree (applied t w) (l && not (is_there w))) old s b
unfolding applied is_there need returned loan owed after tree_of
given-type around t l w s mid old c b g some gw few =
    let a : Term = tree_of w in
    let over_ : need arguments (after t l around) w s ≡ size a + 13 = ap (λ u. need arguments (after t l around) u s) some in
    subst (λ u. Gains type g around (tree (applied t u) (l && not (is_there u))) old s b) (sym some)
    (whole_ l gw.small (omega (arith, gw.few, over_, few, owing l)))
  where
    owing : (l : Bool) → owed (values.behind t l) ≡ cond l 0 (full t)
    owing true = refl
    owing false = refl

    whole_ : (l : Bool) → AllSmall s.candidates → wealth s + (size (tree_of w) + 13 + part t) ≤ wealth old + 8 * b + g
        → Gains type g around (tree (instance t (tree_of w)) (l && false)) old s b
    whole_ true all few = instance-made around t (tree_of w) s old b g all few
    whole_ false all few = instance-made around t (tree_of w) s old b g all few

-- a type and the arguments that may come after it
applied-type : (around : Around) (t : Term) (l : Bool) (w : Value) (s mid old : State) (c b g : ℕ) → is_encoding t ≡ false
    → (l ≡ false → part t ≤ 8) → (l ≡ true → is_function_type t ≡ true → is_among around.encoding t (components_of mid.candidates) ≡ true)
    → Gains arguments 0 (after t l around) w mid s c
    → wealth mid + 8 * c + (cond l 0 (full t) + part t) ≤ wealth old + 8 * b + g
    → Gains type g around (tree (applied t w) (l && not (is_there w))) old s b
unfolding IsKnown
applied-type around t l w s mid old c b g scope one among gw few = go gw.known
  where
    go : (w ≡ nothing_there) ⊎ (w ≡ tree (tree_of w) true) → Gains type g around (tree (applied t w) (l && not (is_there w))) old s b
    go (inl none) = bare-type around t l w s mid old c b g none scope one among gw few
    go (inr some) = given-type around t l w s mid old c b g some gw few

-- a type that is no candidate and owes nothing before its arguments, and the arguments that may come after it
unlisted-type : (around : Around) (t : Term) (w : Value) (s mid old : State) (c b g : ℕ) → is_encoding t ≡ false → part t ≤ 8
    → Gains arguments 0 (after t true around) w mid s c → wealth mid + 8 * c + (full t + part t) ≤ wealth old + 8 * b + g
    → Gains type g around (tree (applied t w) false) old s b
unfolding IsKnown applied is_there need typed returned loan owed after IsKept is_listed tree_of
unlisted-type around t w s mid old c b g scope one gw few = go gw.known
  where
    go : (w ≡ nothing_there) ⊎ (w ≡ tree (tree_of w) true) → Gains type g around (tree (applied t w) false) old s b
    go (inl none) = subst (λ u. Gains type g around (tree (applied t u) false) old s b) (sym none)
        (subst (λ r. Gains type g around (tree t false) old r b) (sym (gw.kept none)) (record {
          few = omega (arith, few);
          known = (scope, ((λ h. one), (λ h. absurd (false≢true h))));
          kept = tt;
          small = subst (λ r. AllSmall r.candidates) (gw.kept none) gw.small;
        }))
    go (inr some) = subst (λ u. Gains type g around (tree (applied t u) false) old s b) (sym some)
        (instance-made around t (tree_of w) s old b g gw.small
        (omega (arith, gw.few, ap (λ u. need arguments (after t true around) u s) some, few)))

small-prefix : (t : Term) (l : Bool) → (l ≡ false → IsSmall t) → SmallPrefix (values.behind t l)
unfolding SmallPrefix
small-prefix t true h = tt
small-prefix t false h = h refl

pub type-with-s-gains : Idle Production.TypeWithS type
unfolding parts_of between is_chain close unfolding_.behind meaning values.part class_of grant Gained Ready ready_for need typed loan returned IsKnown IsKept tree_of named_so_far listed_so_far after SmallPrefix
type-with-s-gains around at old v new b idle small all o =
    let p0 = o.paid in
    let g0 = p0.gains Kind.TypeAfterS refl idle small all in
    let t : Term = tree_of p0.value in
    let p1 = p0.onward in
    let g1 = p1.gains Kind.ArgumentsAlone refl tt (small-prefix t (is_listed p0.value) (λ h. (g0.known.1.0 h, g0.known.0))) g0.small in
    comes-to (λ w s. Gains type 0 around w old s b) o (p0.value ∷ p1.value ∷ []) p1.after
    (tree (applied t p1.value) (is_listed p0.value && not (is_there p1.value))) p1.after p1.onward.0 refl
    (applied-type around t (is_listed p0.value) p1.value p1.after p0.after old p1.own b 0 g0.known.0 g0.known.1.0 g0.known.1.1 g1
    (omega (arith, o.sum, g0.few, p0.sum, p1.sum, p1.onward.1)))

-- a vendor's type, which is no candidate, and the arguments that may come after it
pub vendor-gains : Idle Production.Vendor type
unfolding parts_of between is_chain close unfolding_.behind meaning values.part class_of grant Gained Ready ready_for need typed loan returned IsKnown IsKept tree_of named_so_far listed_so_far after SmallPrefix full over size part_of is_component is_function_type is_encoding is_listed
vendor-gains around at old v new b idle small all o =
    let p0 = o.paid in
    let g0 = p0.gains in
    let t : Term = vendor (text_of p0.value) in
    let p1 = p0.onward in
    let g1 = p1.gains Kind.VendorArguments refl tt tt (subst (λ s. AllSmall s.candidates) (sym g0.0) all) in
    comes-to (λ w s. Gains type 0 around w old s b) o (tree t true ∷ p1.value ∷ []) p1.after (tree (applied t p1.value) false) p1.after p1.onward.0 refl
    (unlisted-type around t p1.value p1.after p0.after old p1.own b 0 refl (omega arith) g1
    (omega (arith, o.sum, ap (λ s. wealth s) g0.0, g0.1.0, g0.1.1, g0.1.2, p0.sum, p1.sum, p1.onward.1)))

pub parameter-gains : Idle Production.Parameter type
unfolding parts_of between is_chain close unfolding_.behind meaning values.part class_of grant Gained Ready ready_for need typed loan returned IsKnown IsKept tree_of named_so_far after SmallPrefix index_of full over size part_of is_component is_function_type is_encoding parameter_so_far parameter_named element appended listed_so_far
parameter-gains around at old v new b idle small all o =
    let p0 = o.paid in
    let g0 = p0.gains in
    let k : ℕ = index_of p0.value in
    let q = parameter-goes around at k [] p0.after _ (subst (λ s. AllSmall s.candidates) (sym g0.0) all) p0.onward in
    let p1 = q.goes in
    let g1 = p1.gains Kind.ArgumentsAlone refl tt tt q.grown.small in
    comes-to (λ w s. Gains type 0 around w old s b) o (tree (parameter k) true ∷ p1.value ∷ []) p1.after
    (tree (applied (parameter k) p1.value) (not (is_there p1.value))) p1.after p1.onward.0 refl
    (applied-type around (parameter k) true p1.value p1.after q.mid old p1.own b 0 refl (λ h. absurd (true≢false h)) (λ h is. absurd (false≢true is)) g1
    (omega (arith, o.sum, ap (λ s. wealth s) g0.0, g0.1.0, g0.1.2 refl, p0.sum, q.grown.few, p1.sum, p1.onward.1)))

-- a production pays for a type, after a letter that granted a byte
abbrev pub Granted : Production → Type 0
Granted p =
    (around : Around) (at : ℕ) (old : State) (v : Value) (new : State) (b : ℕ) → lent around.prefix ≡ 0 → SmallPrefix around.prefix
    → AllSmall old.candidates → Ended p around at old v new b → Gains type 8 around v old new b

pub parameter-argument-gains : Granted Production.ParameterArgument
unfolding parts_of between is_chain close unfolding_.behind meaning values.part class_of grant Gained Ready ready_for need typed loan returned IsKnown IsKept tree_of named_so_far after SmallPrefix index_of full over size part_of is_component is_function_type is_encoding parameter_so_far parameter_named element appended listed_so_far
parameter-argument-gains around at old v new b idle small all o =
    let p0 = o.paid in
    let g0 = p0.gains in
    let k : ℕ = index_of p0.value in
    let q = parameter-goes around (at - 1) k [] p0.after _ (subst (λ s. AllSmall s.candidates) (sym g0.0) all) p0.onward in
    let p1 = q.goes in
    let g1 = p1.gains Kind.ArgumentsAlone refl tt tt q.grown.small in
    comes-to (λ w s. Gains type 8 around w old s b) o (tree (parameter k) true ∷ p1.value ∷ []) p1.after
    (tree (applied (parameter k) p1.value) (not (is_there p1.value))) p1.after p1.onward.0 refl
    (applied-type around (parameter k) true p1.value p1.after q.mid old p1.own b 8 refl (λ h. absurd (true≢false h)) (λ h is. absurd (false≢true is)) g1
    (omega (arith, o.sum, ap (λ s. wealth s) g0.0, g0.1.0, g0.1.2 refl, p0.sum, q.grown.few, p1.sum, p1.onward.1)))

-- a parameter with a level
pub leveled-parameter-gains : Granted Production.LeveledParameter
unfolding parts_of between is_chain close unfolding_.behind meaning values.part class_of grant Gained Ready ready_for need typed loan returned IsKnown IsKept
leveled-parameter-gains around at old v new b idle small all o =
    let p0 = o.paid in
    let g0 = p0.gains in
    let p1 = p0.onward in
    let g1 = p1.gains Kind.LeveledParameter refl idle small (subst (λ s. AllSmall s.candidates) (sym g0.0) all) in
    comes-to (λ w s. Gains type 8 around w old s b) o (p0.value ∷ p1.value ∷ []) p1.after p1.value p1.after p1.onward.0 refl
    (record { few = omega (arith, o.sum, ap (λ s. wealth s) g0.0, g0.1.0, p0.sum, g1.few, p1.sum, p1.onward.1); known = g1.known; kept = tt; small = g1.small })

-- a parameter as the first type of a lambda
pub first-parameter-gains : Granted Production.FirstParameter
unfolding parts_of between is_chain close unfolding_.behind meaning values.part class_of grant Gained Ready ready_for need typed loan returned IsKnown IsKept listed_value
first-parameter-gains around at old v new b idle small all o =
    let p0 = o.paid in
    let g0 = p0.gains Kind.LeveledParameter refl idle small all in
    comes-to (λ w s. Gains type 8 around w old s b) o (p0.value ∷ []) p0.after (tree (tree_of p0.value) true) (with_type around p0.value p0.after) p0.onward.0 refl
    (listed-granted 8 around p0.value p0.after old b g0.small g0.known (omega (arith, o.sum, g0.few, p0.sum, p0.onward.1)))

pub integer-gains : Granted Production.IntegerLiteral
unfolding parts_of between is_chain close unfolding_.behind meaning values.part class_of grant Gained Ready ready_for need typed loan returned IsKnown IsKept full over size part_of is_component is_function_type is_encoding is_listed tree_of
integer-gains around at old v new b idle small all o =
    let p0 = o.paid in
    let g0 = p0.gains Kind.LiteralType refl idle small all in
    let h = typed-grown around p0.value p0.after g0.small (λ l. (g0.known.1.0 l, g0.known.0)) in
    let p1 = p0.onward in
    let g1 = p1.gains Kind.Integer refl tt small h.small in
    comes-to (λ w s. Gains type 8 around w old s b) o (p0.value ∷ p1.value ∷ []) p1.after (tree (integer (tree_of p0.value) (signed_of p1.value)) true) p1.after
    p1.onward.0 refl
    (record {
      few = omega (arith, o.sum, g0.few, p0.sum, h.few, g1.few, p1.sum, p1.onward.1, held-signed p1.value);
      known = (refl, ((λ l. absurd (true≢false l)), (λ l is. absurd (false≢true is))));
      kept = tt;
      small = g1.small;
    })

-- ## Substitutions

small-get : (cs : List Candidate) (number : ℕ) (c : Candidate) → AllSmall cs → slice_get cs number ≡ Some c → IsSmall c.tree
unfolding AllSmall
small-get [] number c all at = cc
small-get (d ∷ cs) zero c all at = let same : d ≡ c = cc in subst (λ x. IsSmall x.tree) same all.0
small-get (d ∷ cs) (suc number) c all at = small-get cs number c all.1 at

candidate-has : (n : ℕ) (cs : List Candidate) (number : ℕ) (c : Candidate) → (is_open c.tree ≡ false) ⊎ (c.encoding ≡ n) → slice_get cs number ≡ Some c
    → Has n c.tree (components_of cs)
unfolding components_of
candidate-has n [] number c may at = cc
candidate-has n (d ∷ cs) (suc number) c may at = inr (candidate-has n cs number c may at)
candidate-has n (d ∷ cs) zero c may at =
    let same : d ≡ c = cc in
    subst (λ x. Has n c.tree (record { tree = x.tree; encoding = x.encoding } ∷ components_of cs)) (sym same)
    (has-before n c.tree (record { tree = c.tree; encoding = c.encoding } ∷ []) (components_of cs) (alone_ may))
  where
    alone_ : (is_open c.tree ≡ false) ⊎ (c.encoding ≡ n) → Has n c.tree (record { tree = c.tree; encoding = c.encoding } ∷ [])
    alone_ (inl closed) = has-closed c.encoding n c.tree (record { tree = c.tree; encoding = c.encoding } ∷ []) closed (has-itself c.encoding c.tree [])
    alone_ (inr here) =
        subst (λ m. Has m c.tree (record { tree = c.tree; encoding = c.encoding } ∷ [])) here (has-itself c.encoding c.tree [])

named-gains : (around : Around) (v : Value) (mid new old : State) (b : ℕ) → Substituted around mid (found v new) → AllSmall mid.candidates
    → wealth mid + 8 ≤ wealth old + 8 * b → Gains type 0 around v old new b
unfolding need typed is_listed tree_of loan returned IsKnown IsKept
named-gains around v mid new old b r all few =
    let c : Candidate = r.candidate in
    let there : slice_get new.candidates r.referred.number ≡ Some c =
    ap (λ cs. slice_get cs r.referred.number) r.referred.candidates ∙ r.referred.there in
    let kept_ : AllSmall new.candidates = subst AllSmall (sym r.referred.candidates) all in
    let one : IsSmall c.tree = small-get new.candidates r.referred.number c kept_ there in
    subst (λ w. Gains type 0 around w old new b) (sym r.value)
    (record {
      few = omega (arith, few, one.0, ap (λ cs. worths [] (components_of cs)) r.referred.candidates);
      known = (
        one.1,
        (
          (λ h. absurd (true≢false h)),
          (λ h is. has-among around.encoding c.tree (components_of new.candidates)
              (candidate-has around.encoding new.candidates r.referred.number c r.referred.named there)),
        ),
      );
      kept = tt;
      small = kept_;
    })

-- a tree that a substitution names is a candidate already
pub substitution-gains : Free Production.Substitution type 0
unfolding parts_of between is_chain close unfolding_.behind meaning values.part class_of grant Gained Ready ready_for need typed loan returned IsKnown IsKept
substitution-gains around at old v new b ready small all o =
    let p0 = o.paid in
    let g0 = p0.gains in
    let closes : substituted around (at - 1) (slice_get p0.after.candidates (counted_value Seq36 (text_of p0.value))) p0.after ≡ Ok (found v new) =
    ap (λ i. close Production.Substitution o.byte around at old i.value i.state) p0.onward.0 ∙ o.closes in
    let r = substitution-refers around (at - 1) (counted_value Seq36 (text_of p0.value)) p0.after (found v new) closes in
    named-gains around v p0.after new old b r (subst (λ s. AllSmall s.candidates) (sym g0.0) all)
    (omega (arith, o.sum, ap (λ s. wealth s) g0.0, g0.1.0, p0.sum))
