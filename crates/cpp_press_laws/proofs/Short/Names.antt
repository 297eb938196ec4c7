-- What is paid for names.
use Rattle.cpp_press_laws.proofs.Basics.{◌≡◌, ℕ, ◌+◌, ◌*◌, ◌≤◌, ◌⊎◌, inl, inr, length, List, [], ◌∷◌, ◌++◌, true, false, cond, Result, Ok, Err, refl, ap, sym, subst, arith, length-append, Next, ◌>>=◌, false≢true, Kind, Production, Operation, kinds, number_of, number_of_kind, parts_of, is_chain, Qualifiers, RefQualifier, any_value, lvalue_only, rvalue_only, explicit_object, Term, in_std, instance, local, parameter, string_literal, State, Prefix, outermost, Around, prefix_tree, prefix_listed, Value, nothing_there, tree, named, tree_of, piece_of, qualifiers_of, ref_of, letter_of, is_there, mark_of, is_function_type, parameter_named, after, inside, extended, applied, no_items, named_so_far, listed_so_far, index_of, between, parameter_so_far, discriminator_of, meaning, close, Sym, Made, unlisted, a_name, handed, row_of, made, meant, is_listing, given, all_given, all_pass, qualifier_letters, mark_letter, name_letters, components_of, is_component, is_encoding, Refusal, either_cond}
use Rattle.cpp_grammar.specs.Values as values
use Rattle.cpp_grammar.specs.Unfolding as unfolding_
use Rattle.sym_shape.specs.declared.rule.Sym.TheVariants.{Kind as OfKind}
use Rattle.cpp_grammar.specs.Builders.{built, argument, truth_in, bytes_in, number_in, tree_in}
use Rattle.cpp_press_laws.proofs.Short.Size.{part_of, front_of, lettered, size, over, part, front-part, name-own, size-some}
use Rattle.cpp_press_laws.proofs.Short.Worth.{full, full-most, worths}
use Rattle.cpp_press_laws.proofs.Short.Gains.{wealth, IsSmall, AllSmall, front, name, arguments, class_of, typed, letters_in, need, lent, owed, loan, returned, grant, SmallPrefix, IsBehind, MayEnd, ready_for, Ready, IsKnown, IsKept, Gains, Gained, Grown, appended-grown, prefix-grown, KindGains, fronted, further}
use Rattle.cpp_press_laws.proofs.Short.Paid.{Ended, comes-to}
use Rattle.cpp_press_laws.proofs.Short.ByRow.{is_read, part_passes, parts_pass, cost_of, credit_of, Knows, is_idle, all_quiet, refers, Pays, row_goes, is_listed_in, each_goes, one-goes, naming, closes-naming, named-first, by-row, may_read, may_be_part, Standing}
use Rattle.cpp_press_laws.proofs.Short.Slots.{letters-short}
use Rattle.cpp_press_laws.proofs.Short.Types.{Free, listed}
use Rattle.cpp_press_laws.proofs.ByKind.Rules.{OnGoing}
use Rattle.cpp_press_laws.proofs.Fits.Solids.{parameter-names}

-- ## Names

pub named-made : (around : Around) (t : Term) (s old : State) (b g : ℕ) → IsSmall t → is_function_type t ≡ false → AllSmall s.candidates
    → wealth s + (size t + 9) ≤ wealth old + lent around.prefix + 8 * b + g → Gains name g around (tree t false) old s b
unfolding need letters_in tree_of qualifiers_of ref_of name_letters qualifier_letters mark_letter lettered loan returned IsKnown IsKept
named-made around t s old b g one other all few = record { few = omega (arith, few); known = (one, other); kept = tt; small = all }

bare-named : (around : Around) (t : Term) (w : Value) (s mid old : State) (c b g : ℕ) → w ≡ nothing_there → part t ≡ 8 → is_encoding t ≡ false
    → is_function_type t ≡ false → Gains arguments 0 (after t false around) w mid s c
    → wealth mid + 8 * c + (size t + 9) ≤ wealth old + lent around.prefix + 8 * b + g → Gains name g around (tree (applied t w) false) old s b
unfolding applied is_there need returned loan owed after
bare-named around t w s mid old c b g none eight scope other gw few =
    let same : applied t w ≡ t = ap (applied t) none in
    let over_ : need arguments (after t false around) w s + returned arguments (after t false around) w ≡ 0 + full t =
    ap (λ u. need arguments (after t false around) u s + returned arguments (after t false around) u) none in
    subst (λ u. Gains name g around (tree u false) old s b) (sym same)
    (named-made around t s old b g (omega (arith, eight), scope) other gw.small (omega (arith, gw.few, over_, few)))

given-named : (around : Around) (t : Term) (w : Value) (s mid old : State) (c b g : ℕ) → w ≡ tree (tree_of w) true → part t ≡ 8 → is_encoding t ≡ false
    → is_function_type t ≡ false → Gains arguments 0 (after t false around) w mid s c
    → wealth mid + 8 * c + (size t + 9) ≤ wealth old + lent around.prefix + 8 * b + g → Gains name g around (tree (applied t w) false) old s b
unfolding applied is_there need returned loan owed after size part_of is_component is_function_type is_encoding tree_of
given-named around t w s mid old c b g some eight scope other gw few =
    let a : Term = tree_of w in
    let same : applied t w ≡ instance t a = ap (applied t) some in
    let over_ : need arguments (after t false around) w s ≡ size a + 13 = ap (λ u. need arguments (after t false around) u s) some in
    subst (λ u. Gains name g around (tree u false) old s b) (sym same)
    (named-made around (instance t a) s old b g (omega arith, refl) refl gw.small (omega (arith, gw.few, over_, few, full-most t, eight)))

-- what is paid for a name and for the arguments that may come after it
pub applied-named : (around : Around) (t : Term) (w : Value) (s mid old : State) (c b g : ℕ) → part t ≡ 8 → is_encoding t ≡ false
    → is_function_type t ≡ false → Gains arguments 0 (after t false around) w mid s c
    → wealth mid + 8 * c + (size t + 9) ≤ wealth old + lent around.prefix + 8 * b + g → Gains name g around (tree (applied t w) false) old s b
unfolding IsKnown
applied-named around t w s mid old c b g eight scope other gw few = go gw.known
  where
    go : (w ≡ nothing_there) ⊎ (w ≡ tree (tree_of w) true) → Gains name g around (tree (applied t w) false) old s b
    go (inl none) = bare-named around t w s mid old c b g none eight scope other gw few
    go (inr some) = given-named around t w s mid old c b g some eight scope other gw few

-- the size of a name with one more piece
extended-size : (prefix : Prefix) (p : Term) → size (extended prefix p) ≤ 2 + fronted prefix + size p
unfolding extended size fronted
extended-size outermost p = omega arith
extended-size (values.behind t listed) p = omega arith

part-most : (t : Term) → part t ≤ size t + 8
unfolding part_of
part-most t = either_cond (λ n. n ≤ size t + 8) (is_component t) 8 (size t) (λ h. omega arith) (λ h. omega arith)

-- at least as much is kept for a name that may still become a candidate as for a name that is a candidate
fronted-lent : (prefix : Prefix) → fronted prefix ≤ lent prefix
unfolding fronted lent
fronted-lent outermost = omega arith
fronted-lent (values.behind t true) = omega arith
fronted-lent (values.behind t false) = omega (arith, front-part t (size t), part-most t)

pub as-name : {p : Production} {granted : ℕ} → Free p further granted → Free p name granted
unfolding need loan returned IsKnown IsKept
as-name one around at old v new b ready small all o =
    let g = one around at old v new b ready small all o in
    record { few = omega (arith, g.few, fronted-lent around.prefix); known = g.known; kept = tt; small = g.small }

-- the name so far, as a candidate
abbrev listed_prefix : Prefix → Prefix
listed_prefix outermost = outermost
listed_prefix (values.behind t listed) = values.behind t true

listed-lent : (prefix : Prefix) → lent (listed_prefix prefix) ≡ fronted prefix
unfolding fronted lent
listed-lent outermost = refl
listed-lent (values.behind t listed) = refl

as-further : (granted : ℕ) (around : Around) (v : Value) (old new : State) (b : ℕ)
    → Gains name granted (record around { prefix = listed_prefix around.prefix }) v old new b → Gains further granted around v old new b
unfolding need loan returned IsKnown IsKept
as-further granted around v old new b g = record { few = omega (arith, g.few, listed-lent around.prefix); known = g.known; kept = tt; small = g.small }

extended-part : (prefix : Prefix) (p : Term) → part (extended prefix p) ≡ 8
unfolding extended part_of is_component
extended-part outermost p = refl
extended-part (values.behind t listed) p = refl

extended-scope : (prefix : Prefix) (p : Term) → is_encoding (extended prefix p) ≡ false
unfolding extended is_encoding
extended-scope outermost p = refl
extended-scope (values.behind t listed) p = refl

extended-other : (prefix : Prefix) (p : Term) → is_function_type (extended prefix p) ≡ false
unfolding extended is_function_type
extended-other outermost p = refl
extended-other (values.behind t listed) p = refl

-- what a name of one part needs, and what pays for it
pub record NamePaid (p : Production) (granted : ℕ) (x : Sym) (around : Around) (v : Value) (s : State) (bytes : ℕ) (t : Term) : Type 0 where
  pub eight : part t ≡ 8
  pub scope : is_encoding t ≡ false
  pub other : is_function_type t ≡ false
  pub few : size t + 9 + credit_of x around ≤ fronted around.prefix + cost_of x around v s bytes + 8 * cond (is_chain p) 0 1 + granted

abbrev NamePays : Production → (granted : ℕ) → Made → Sym → Type 0
NamePays p granted m x =
    (around : Around) (v : Value) (s : State) (bytes : ℕ) → SmallPrefix around.prefix → Knows x around v s bytes
    → NamePaid p granted x around v s bytes (made 0 around (v ∷ []) m)

-- a name, and the arguments or tags that may come after it
named-by-row : (p : Production) (m : Made) (x : Sym) (second : Kind) (granted : ℕ) → row_of p ≡ naming m (a_name unlisted)
    → parts_of p ≡ x ∷ OfKind (number_of_kind second) ∷ [] → part_passes (may_be_part true) x ≡ true → refers p ≡ false
    → ((prefix : Prefix) → Ready second prefix)
    → ((around : Around) (v : Value) (old new : State) (b : ℕ) → KindGains second around v old new b → Gains arguments 0 around v old new b)
    → NamePays p granted m x → Free p further granted
unfolding SmallPrefix after meant is_listing values.part tree_of
named-by-row p m x second granted row parts is closed ready given_ pays around at old v new b here small all o =
    let n = named-first p m (a_name unlisted) x (OfKind (number_of_kind second)) row parts is around at o.inner old o.others small all o.paid in
    let t : Term = made 0 around (n.value ∷ []) m in
    let paid = pays around n.value n.after_it n.own small n.first.known in
    let w = n.second in
    let g = given_ (after t false around) w.value n.after_it w.after w.own
    (w.gains second refl (ready (values.behind t false)) (omega (arith, paid.eight), paid.scope) n.first.small) in
    comes-to (λ u s. Gains further granted around u old s b) o (tree t false ∷ w.value ∷ []) w.after (tree (applied t w.value) false) w.after w.onward.0
    (closes-naming p m (a_name unlisted) row closed o.byte around at old (tree t false ∷ w.value ∷ []) w.after)
    (as-further granted around (tree (applied t w.value) false) old w.after b
    (applied-named (record around { prefix = listed_prefix around.prefix }) t w.value w.after n.after_it old w.own b granted paid.eight paid.scope
    paid.other g
    (omega (arith, o.sum, n.sum, n.first.few, paid.few, w.sum, w.onward.1, listed-lent around.prefix))))

-- a name that continues after its first part
going-by-row : (p : Production) (m : Made) (x : Sym) → row_of p ≡ naming m (handed 1)
    → parts_of p ≡ x ∷ OfKind (number_of_kind Kind.NestRest) ∷ [] → part_passes (may_be_part true) x ≡ true → refers p ≡ false
    → NamePays p 0 m x → Free p name 0
unfolding SmallPrefix after meant values.part class_of grant Gained Ready IsBehind need loan returned lent IsKnown IsKept
going-by-row p m x row parts is closed pays around at old v new b here small all o =
    let n = named-first p m (handed 1) x (OfKind (number_of_kind Kind.NestRest)) row parts is around at o.inner old o.others small all o.paid in
    let t : Term = made 0 around (n.value ∷ []) m in
    let paid = pays around n.value n.after_it n.own small n.first.known in
    let w = n.second in
    let g = w.gains Kind.NestRest refl paid.scope (omega (arith, paid.eight), paid.scope) n.first.small in
    comes-to (λ u s. Gains name 0 around u old s b) o (tree t false ∷ w.value ∷ []) w.after w.value w.after w.onward.0
    (closes-naming p m (handed 1) row closed o.byte around at old (tree t false ∷ w.value ∷ []) w.after)
    (record {
      few = omega (arith, o.sum, n.sum, n.first.few, paid.few, g.few, w.sum, w.onward.1, fronted-lent around.prefix);
      known = g.known;
      kept = tt;
      small = g.small;
    })

-- a piece after the name so far, or in std
piece-paid : {p : Production} {granted : ℕ} {x : Sym} {around : Around} {v : Value} {s : State} {bytes : ℕ} (u : Term) → SmallPrefix around.prefix
    → 2 + size u + 9 + credit_of x around ≤ cost_of x around v s bytes + 8 * cond (is_chain p) 0 1 + granted
    → NamePaid p granted x around v s bytes (extended around.prefix u)
piece-paid {around = around} u small few = record {
  eight = extended-part around.prefix u;
  scope = extended-scope around.prefix u;
  other = extended-other around.prefix u;
  few = omega (arith, few, extended-size around.prefix u);
}

in-std-paid : {p : Production} {granted : ℕ} {x : Sym} {around : Around} {v : Value} {s : State} {bytes : ℕ} (u : Term)
    → 4 + size u + 9 + credit_of x around ≤ fronted around.prefix + cost_of x around v s bytes + 8 * cond (is_chain p) 0 1 + granted
    → NamePaid p granted x around v s bytes (in_std u)
unfolding size part_of is_component is_encoding is_function_type
in-std-paid u few = record { eight = refl; scope = refl; other = refl; few = omega (arith, few) }

pub internal-name : Free Production.InternalName further 0
unfolding row_of kinds number_of_kind parts_of is_chain part_passes may_be_part may_read is_read class_of refers Ready ready_for grant Gained made built argument given truth_in bytes_in number_in tree_in all_given values.part cost_of credit_of Knows need loan returned letter_of size
internal-name = named-by-row Production.InternalName _ _ Kind.MaybeArguments 0 refl refl refl refl (λ prefix. tt) (λ around v old new b g. g) (λ around v s n small k. piece-paid _ small (omega (arith, k.0, k.1, k.2)))

pub source-name : Free Production.SourceName further 0
unfolding row_of kinds number_of_kind parts_of is_chain part_passes may_be_part may_read is_read class_of refers Ready ready_for grant Gained made built argument given truth_in bytes_in number_in tree_in all_given values.part cost_of credit_of Knows need loan returned letter_of size
source-name = named-by-row Production.SourceName _ _ Kind.MaybeArguments 0 refl refl refl refl (λ prefix. tt) (λ around v old new b g. g) (λ around v s n small k. piece-paid _ small (omega (arith, k.0, k.1, k.2)))

pub local-type-name : Free Production.LocalTypeName further 0
unfolding row_of kinds number_of_kind parts_of is_chain part_passes may_be_part may_read is_read class_of refers Ready ready_for grant Gained made built argument given truth_in bytes_in number_in tree_in all_given values.part cost_of credit_of Knows need loan returned letter_of size
local-type-name = named-by-row Production.LocalTypeName _ _ Kind.MaybeArguments 0 refl refl refl refl (λ prefix. tt) (λ around v old new b g. g) (λ around v s n small k. piece-paid _ small (omega (arith)))

pub operator-name : Free Production.OperatorName further 0
unfolding row_of kinds number_of_kind parts_of is_chain part_passes may_be_part may_read is_read class_of refers Ready ready_for grant Gained made built argument given truth_in bytes_in number_in tree_in all_given values.part cost_of credit_of Knows need loan returned letter_of size
operator-name = named-by-row Production.OperatorName _ _ Kind.MaybeArguments 0 refl refl refl refl (λ prefix. tt) (λ around v old new b g. g) (λ around v s n small k. piece-paid _ small (omega (arith)))

pub other-operator-name : Free Production.OtherOperatorName further 0
unfolding row_of kinds number_of_kind parts_of is_chain part_passes may_be_part may_read is_read class_of refers Ready ready_for grant Gained made built argument given truth_in bytes_in number_in tree_in all_given values.part cost_of credit_of Knows need loan returned letter_of size
other-operator-name = named-by-row Production.OtherOperatorName _ _ Kind.MaybeArguments 0 refl refl refl refl (λ prefix. tt) (λ around v old new b g. g) (λ around v s n small k. piece-paid _ small (omega (arith)))

pub operator-name-with-c : Free Production.OperatorNameWithC further 8
unfolding row_of kinds number_of_kind parts_of is_chain part_passes may_be_part may_read is_read class_of refers Ready ready_for grant Gained made built argument given truth_in bytes_in number_in tree_in all_given values.part cost_of credit_of Knows need loan returned letter_of size
operator-name-with-c = named-by-row Production.OperatorNameWithC _ _ Kind.MaybeArguments 8 refl refl refl refl (λ prefix. tt) (λ around v old new b g. g) (λ around v s n small k. piece-paid _ small (omega (arith)))

pub constructor-name : Free Production.Constructor further 8
unfolding row_of kinds number_of_kind parts_of is_chain part_passes may_be_part may_read is_read class_of refers Ready ready_for grant Gained made built argument given truth_in bytes_in number_in tree_in all_given values.part cost_of credit_of Knows need loan returned letter_of size
constructor-name = named-by-row Production.Constructor _ _ Kind.MaybeArguments 8 refl refl refl refl (λ prefix. tt) (λ around v old new b g. g) (λ around v s n small k. piece-paid _ small (omega (arith)))

pub destructor-name : Free Production.Destructor further 0
unfolding row_of kinds number_of_kind parts_of is_chain part_passes may_be_part may_read is_read class_of refers Ready ready_for grant Gained made built argument given truth_in bytes_in number_in tree_in all_given values.part cost_of credit_of Knows need loan returned letter_of size
destructor-name = named-by-row Production.Destructor _ _ Kind.MaybeArguments 0 refl refl refl refl (λ prefix. tt) (λ around v old new b g. g) (λ around v s n small k. piece-paid _ small (omega (arith)))

pub std-name : Free Production.StdName further 0
unfolding row_of kinds number_of_kind parts_of is_chain part_passes may_be_part may_read is_read class_of refers Ready ready_for grant Gained made built argument given truth_in bytes_in number_in tree_in all_given values.part cost_of credit_of Knows need loan returned letter_of size
std-name = named-by-row Production.StdName _ _ Kind.MaybeArguments 0 refl refl refl refl (λ prefix. tt) (λ around v old new b g. g) (λ around v s n small k. in-std-paid _ (omega (arith)))

pub tagged-std-type : Free Production.TaggedStdType further 0
unfolding row_of kinds number_of_kind parts_of is_chain part_passes may_be_part may_read is_read class_of refers Ready ready_for grant Gained made built argument given truth_in bytes_in number_in tree_in all_given values.part cost_of credit_of Knows need loan returned letter_of size
tagged-std-type = named-by-row Production.TaggedStdType _ _ Kind.MaybeTags 0 refl refl refl refl (λ prefix. tt) (λ around v old new b g. g) (λ around v s n small k. in-std-paid _ (omega (arith)))

pub nest-internal : Free Production.NestInternal name 0
unfolding row_of kinds number_of_kind parts_of is_chain part_passes may_be_part may_read is_read class_of refers Ready ready_for grant Gained made built argument given truth_in bytes_in number_in tree_in all_given values.part cost_of credit_of Knows need loan returned letter_of size
nest-internal = going-by-row Production.NestInternal _ _ refl refl refl refl (λ around v s n small k. piece-paid _ small (omega (arith, k.0, k.1, k.2)))

pub nest-source : Free Production.NestSource name 0
unfolding row_of kinds number_of_kind parts_of is_chain part_passes may_be_part may_read is_read class_of refers Ready ready_for grant Gained made built argument given truth_in bytes_in number_in tree_in all_given values.part cost_of credit_of Knows need loan returned letter_of size
nest-source = going-by-row Production.NestSource _ _ refl refl refl refl (λ around v s n small k. piece-paid _ small (omega (arith, k.0, k.1, k.2)))

pub nest-local-type : Free Production.NestLocalType name 0
unfolding row_of kinds number_of_kind parts_of is_chain part_passes may_be_part may_read is_read class_of refers Ready ready_for grant Gained made built argument given truth_in bytes_in number_in tree_in all_given values.part cost_of credit_of Knows need loan returned letter_of size
nest-local-type = going-by-row Production.NestLocalType _ _ refl refl refl refl (λ around v s n small k. piece-paid _ small (omega (arith)))

-- ## Names between N and E

pub nest-std : Free Production.NestStd name 0
unfolding parts_of between is_chain close unfolding_.behind meaning values.part class_of grant Gained Ready ready_for need typed loan returned IsKnown IsKept tree_of named_so_far listed_so_far after SmallPrefix size part_of is_component is_encoding is_function_type MayEnd lent
nest-std around at old v new b ready small all o =
    let p0 = o.paid in
    let g0 = p0.gains Kind.Unqualified refl tt small all in
    let t : Term = in_std (piece_of p0.value) in
    let p1 = p0.onward in
    let g1 = p1.gains Kind.MaybeArguments refl tt (omega arith, refl) g0.small in
    let u : Term = applied t p1.value in
    let gu : Gains name 0 around (tree u false) old p1.after (1 + p0.own + p1.own) =
    applied-named around t p1.value p1.after p0.after old p1.own (1 + p0.own + p1.own) 0 refl refl refl g1 (omega (arith, g0.few)) in
    let p2 = p1.onward in
    let g2 = p2.gains Kind.NestTail refl gu.known.1 gu.known.0 g1.small in
    comes-to (λ w s. Gains name 0 around w old s b) o (tree u false ∷ p1.value ∷ p2.value ∷ []) p2.after p2.value p2.after p2.onward.0 refl
    (record {
      few = omega (arith, o.sum, p0.sum, p1.sum, gu.few, g2.few, p2.sum, p2.onward.1);
      known = g2.known;
      kept = tt;
      small = g2.small;
    })

pub nest-template : Free Production.NestTemplate name 0
unfolding parts_of between is_chain close unfolding_.behind meaning values.part class_of grant Gained Ready ready_for need typed loan returned IsKnown IsKept tree_of named_so_far listed_so_far after SmallPrefix IsBehind lent
nest-template around at old v new b ready small all o =
    let p0 = o.paid in
    let g0 = p0.gains Kind.Abbreviation refl tt small all in
    let t : Term = tree_of p0.value in
    let p1 = p0.onward in
    let g1 = p1.gains Kind.NestRestOrEnd refl g0.known.0 tt g0.small in
    comes-to (λ w s. Gains name 0 around w old s b) o (tree t true ∷ p1.value ∷ []) p1.after p1.value p1.after p1.onward.0 refl
    (record {
      few = omega (arith, o.sum, g0.few, p0.sum, g1.few, p1.sum, p1.onward.1, front-part t (size t));
      known = g1.known;
      kept = tt;
      small = g1.small;
    })

-- what is lent before a name continues pays for the candidate that the name becomes, and for a reference to this
-- candidate
prefix-lent : (p : Prefix) → IsBehind p → SmallPrefix p → owed p + front (prefix_tree p) ≤ lent p
unfolding IsBehind SmallPrefix owed lent prefix_tree
prefix-lent outermost behind small = absurd behind
prefix-lent (values.behind t true) behind small = omega arith
prefix-lent (values.behind t false) behind small = omega (arith, full-most t, front-part t (size t), small.0)

behind-front : (p : Prefix) → IsBehind p → front (prefix_tree p) ≡ part (prefix_tree p)
unfolding IsBehind front_of prefix_tree
behind-front outermost behind = absurd behind
behind-front (values.behind t listed) behind = ap (λ e. cond e 0 (part t)) behind

pub may-end-behind : (p : Prefix) → MayEnd p → SmallPrefix p → IsBehind p
unfolding MayEnd SmallPrefix IsBehind
may-end-behind outermost end small = absurd end
may-end-behind (values.behind t true) end small = absurd end
may-end-behind (values.behind t false) end small = small.1

-- a production that is read after a name
abbrev pub Behind : Production → Type 0
Behind p =
    (around : Around) (at : ℕ) (old : State) (v : Value) (new : State) (b : ℕ) → IsBehind around.prefix → SmallPrefix around.prefix
    → AllSmall old.candidates → Ended p around at old v new b → Gains name 0 around v old new b

fronted-tree : (p : Prefix) → IsBehind p → fronted p ≡ front (prefix_tree p)
unfolding IsBehind fronted prefix_tree
fronted-tree outermost behind = absurd behind
fronted-tree (values.behind t listed) behind = refl

pub nest-next : Behind Production.NestNext
unfolding parts_of between is_chain close unfolding_.behind meaning values.part class_of grant Gained Ready ready_for need typed loan returned IsKnown IsKept tree_of named_so_far listed_so_far after SmallPrefix lent MayEnd
nest-next around at old v new b behind small all o =
    let h = prefix-grown around old all small in
    let p0 = o.paid in
    let g0 = p0.gains Kind.Component refl tt small h.small in
    let p1 = p0.onward in
    let g1 = p1.gains Kind.NestTail refl g0.known.1 g0.known.0 g0.small in
    comes-to (λ w s. Gains name 0 around w old s b) o (p0.value ∷ p1.value ∷ []) p1.after p1.value p1.after p1.onward.0 refl
    (record {
      few = omega (arith, o.sum, h.few, g0.few, p0.sum, g1.few, p1.sum, p1.onward.1, prefix-lent around.prefix behind small, fronted-tree around.prefix behind);
      known = g1.known;
      kept = tt;
      small = g1.small;
    })

pub nest-arguments : Behind Production.NestArguments
unfolding parts_of between is_chain close unfolding_.behind meaning values.part class_of grant Gained Ready ready_for need typed loan returned IsKnown IsKept tree_of named_so_far listed_so_far after SmallPrefix lent MayEnd inside full over size part_of front_of is_component is_encoding is_function_type fronted
nest-arguments around at old v new b behind small all o =
    let h = prefix-grown around old all small in
    let p0 = o.paid in
    let g0 = p0.gains Kind.ArgumentsFirst refl refl tt h.small in
    let p1 = p0.onward in
    let g1 = p1.gains in
    let t : Term = instance (prefix_tree around.prefix) (no_items p0.value) in
    let j = appended-grown around t p1.after (subst (λ s. AllSmall s.candidates) (sym g1.0) g0.small) (omega arith, refl) in
    let p2 = p1.onward in
    let g2 = p2.gains Kind.Component refl tt (omega arith, refl) j.small in
    let p3 = p2.onward in
    let g3 = p3.gains Kind.NestTail refl g2.known.1 g2.known.0 g2.small in
    comes-to (λ w s. Gains name 0 around w old s b) o (tree t false ∷ p1.value ∷ p2.value ∷ p3.value ∷ []) p3.after p3.value p3.after p3.onward.0 refl
    (record {
      few = omega (
        arith,
        o.sum,
        h.few,
        g0.few,
        p0.sum,
        ap (λ s. wealth s) g1.0,
        g1.1,
        p1.sum,
        j.few,
        g2.few,
        p2.sum,
        g3.few,
        p3.sum,
        p3.onward.1,
        prefix-lent around.prefix behind small,
        behind-front around.prefix behind,
        size-some (no_items p0.value),
      );
      known = g3.known;
      kept = tt;
      small = g3.small;
    })

pub nest-instance : Behind Production.NestInstance
unfolding parts_of between is_chain close unfolding_.behind meaning values.part class_of grant Gained Ready ready_for need typed loan returned IsKnown IsKept tree_of named_so_far listed_so_far after SmallPrefix lent IsBehind inside full over size part_of front_of is_component is_encoding is_function_type
nest-instance around at old v new b behind small all o =
    let h = prefix-grown around old all small in
    let p0 = o.paid in
    let g0 = p0.gains Kind.ArgumentsFirst refl refl tt h.small in
    let p1 = p0.onward in
    let g1 = p1.gains in
    let t : Term = instance (prefix_tree around.prefix) (no_items p0.value) in
    let p2 = p1.onward in
    let g2 = p2.gains Kind.NestMoreOrEnd refl refl (omega arith, refl) (subst (λ s. AllSmall s.candidates) (sym g1.0) g0.small) in
    comes-to (λ w s. Gains name 0 around w old s b) o (tree t false ∷ p1.value ∷ p2.value ∷ []) p2.after p2.value p2.after p2.onward.0 refl
    (record {
      few = omega (
        arith,
        o.sum,
        h.few,
        g0.few,
        p0.sum,
        ap (λ s. wealth s) g1.0,
        g1.1,
        p1.sum,
        g2.few,
        p2.sum,
        p2.onward.1,
        prefix-lent around.prefix behind small,
        behind-front around.prefix behind,
        size-some (no_items p0.value),
      );
      known = g2.known;
      kept = tt;
      small = g2.small;
    })

end-named : (around : Around) (p : Prefix) (old : State) (b : ℕ) → MayEnd p → SmallPrefix p → AllSmall old.candidates
    → wealth old + lent p ≤ wealth old + lent around.prefix + 8 * b
    → Gains name 0 around (tree (prefix_tree p) (prefix_listed p)) old old b
unfolding MayEnd SmallPrefix lent prefix_tree prefix_listed
end-named around outermost old b end small all few = absurd end
end-named around (values.behind t true) old b end small all few = absurd end
end-named around (values.behind t false) old b end small all few = named-made around t old old b 0 small end all (omega (arith, few))

pub nest-end : (around : Around) (at : ℕ) (old : State) (v : Value) (new : State) (b : ℕ) → MayEnd around.prefix → SmallPrefix around.prefix
    → AllSmall old.candidates → Ended Production.NestEnd around at old v new b → Gains name 0 around v old new b
unfolding parts_of between is_chain close unfolding_.behind meaning values.part class_of grant Gained Ready ready_for need typed loan returned IsKnown IsKept
nest-end around at old v new b end small all o =
    comes-to (λ w s. Gains name 0 around w old s b) o [] old (tree (prefix_tree around.prefix) (prefix_listed around.prefix)) old o.paid.0 refl
    (end-named around around.prefix old b end small all (omega (arith, o.sum)))

-- a parameter was named: the state grew by at most what a parameter is worth, and `G` holds of the inputs of the next
-- part
pub record ParameterGoes (around : Around) (place k : ℕ) (vs : List Value) (old : State) (G : Next Value State Around → Type 0) : Type 0 where
  pub mid : State
  pub grown : Grown (wealth old + full (parameter k)) mid
  pub goes : G (record { context = after (parameter k) true around; values = tree (parameter k) true ∷ vs; state = mid })

parameter-mid : (around : Around) (place k : ℕ) (old mid : State) → AllSmall old.candidates → parameter_named around place k old ≡ Ok mid
    → Grown (wealth old + full (parameter k)) mid
unfolding part_of is_component is_encoding
parameter-mid around place k old mid all is =
    let n = parameter-names around place k old mid is in
    let same : n.mid.candidates ≡ old.candidates = n.packs.candidates in
    let g = appended-grown around (parameter k) n.mid (subst AllSmall (sym same) all) (omega arith, refl) in
    subst (λ s. Grown (wealth old + full (parameter k)) s) n.is
    (record { few = omega (arith, g.few, ap (λ cs. worths [] (components_of cs)) same); small = g.small })

pub parameter-goes : (around : Around) (place k : ℕ) (vs : List Value) (old : State) (G : Next Value State Around → Type 0) → AllSmall old.candidates
    → OnGoing (parameter_so_far around place k vs old) G → ParameterGoes around place k vs old G
unfolding parameter_so_far listed_so_far
parameter-goes around place k vs old G all goes = go (parameter_named around place k old) refl goes
  where
    go : (r : Result State Refusal) → parameter_named around place k old ≡ r → OnGoing (r >>= λ s. listed_so_far around (parameter k) vs s) G
        → ParameterGoes around place k vs old G
    go (Err e) is h = absurd h
    go (Ok mid) is h = record { mid = mid; grown = parameter-mid around place k old mid all is; goes = h }

pub nest-parameter : Free Production.NestParameter name 0
unfolding parts_of between is_chain close unfolding_.behind meaning values.part class_of grant Gained Ready ready_for need typed loan returned IsKnown IsKept tree_of named_so_far after SmallPrefix index_of IsBehind lent full over size part_of front_of is_component is_encoding is_function_type parameter_so_far parameter_named listed_so_far
nest-parameter around at old v new b ready small all o =
    let p0 = o.paid in
    let g0 = p0.gains in
    let k : ℕ = index_of p0.value in
    let q = parameter-goes around at k [] p0.after _ (subst (λ s. AllSmall s.candidates) (sym g0.0) all) p0.onward in
    let p1 = q.goes in
    let g1 = p1.gains Kind.NestRestAlone refl refl tt q.grown.small in
    comes-to (λ w s. Gains name 0 around w old s b) o (tree (parameter k) true ∷ p1.value ∷ []) p1.after p1.value p1.after p1.onward.0 refl
    (record {
      few = omega (arith, o.sum, ap (λ s. wealth s) g0.0, g0.1.0, g0.1.2 refl, p0.sum, q.grown.few, g1.few, p1.sum, p1.onward.1);
      known = g1.known;
      kept = tt;
      small = g1.small;
    })

-- ## Whole names

ref-most : (ref : RefQualifier) → length (mark_letter ref) ≤ 1
unfolding mark_letter
ref-most any_value = omega arith
ref-most lvalue_only = omega arith
ref-most rvalue_only = omega arith
ref-most explicit_object = omega arith

lettered-most : (letters : List ℕ) → lettered letters ≤ length letters + 2
unfolding lettered
lettered-most [] = omega arith
lettered-most (l ∷ ls) = omega arith

letters-most : (q : Qualifiers) (ref : RefQualifier) → lettered (name_letters q ref) ≤ 6
unfolding name_letters
letters-most q ref =
    omega (arith, lettered-most (qualifier_letters q ++ mark_letter ref), length-append (qualifier_letters q) (mark_letter ref), letters-short q, ref-most ref)

-- Generated by tools/trees.py.
unfoldable pub name_rows : List Production
name_rows = Production.NestWithS ∷ Production.NestedType ∷ Production.NameWithS ∷ Production.NestedName ∷ []

name-pays : (p : Production) → is_listed_in name_rows p ≡ true → Pays (Standing true) p name 0
unfolding is_listed_in name_rows kinds number_of number_of_kind parts_of is_chain unfolding_.behind meaning values.part class_of grant cost_of credit_of Knows need loan returned IsKnown IsKept letters_in tree_of qualifiers_of ref_of
name-pays Production.NestWithS is = λ byte around old idle small v s n k all b few. record { few = omega (arith, few); known = k; kept = tt; small = all }
name-pays Production.NestedType is = λ byte around old idle small v s n k all b few. record { few = omega (arith, few); known = k; kept = tt; small = all }
name-pays Production.NameWithS is = λ byte around old idle small v s n k all b few. record { few = omega (arith, few); known = k; kept = tt; small = all }
name-pays Production.NestedName is = λ byte around old idle small r s0 n0 k0 w s1 n1 k1 c s2 n2 k2 m s3 n3 k3 v s n k all b few.
    record {
      few = omega (arith, few, letters-most (record { restrict = is_there r; volatile = is_there w; const = is_there c }) (mark_of m));
      known = k;
      kept = tt;
      small = all;
    }
name-pays (Production.Operation Operation.ExpressionC) is = absurd (false≢true is)
name-pays _ is = absurd (false≢true is)

pub name-gains : (p : Production) → is_listed_in name_rows p ≡ true → Free p name 0
unfolding is_listed_in each_goes row_goes all_quiet all_pass is_idle refers parts_pass part_passes is_read class_of kinds number_of number_of_kind parts_of row_of may_read may_be_part name_rows
name-gains p is = by-row true p name 0 (one-goes (may_be_part true) name_rows p refl is) (name-pays p is)

-- Generated by tools/trees.py.
unfoldable pub further_rows : List Production
further_rows = Production.AnyConstructor ∷ Production.ComponentWithC ∷ []

further-pays : (p : Production) → is_listed_in further_rows p ≡ true → Pays (Standing true) p further 0
unfolding is_listed_in further_rows kinds number_of number_of_kind parts_of is_chain unfolding_.behind meaning values.part class_of grant cost_of credit_of Knows need loan returned IsKnown IsKept letters_in tree_of qualifiers_of ref_of
further-pays Production.AnyConstructor is = λ byte around old idle small v s n k all b few. record { few = omega (arith, few); known = k; kept = tt; small = all }
further-pays Production.ComponentWithC is = λ byte around old idle small v s n k all b few. record { few = omega (arith, few); known = k; kept = tt; small = all }
further-pays (Production.Operation Operation.ExpressionC) is = absurd (false≢true is)
further-pays _ is = absurd (false≢true is)

pub further-gains : (p : Production) → is_listed_in further_rows p ≡ true → Free p further 0
unfolding is_listed_in each_goes row_goes all_quiet all_pass is_idle refers parts_pass part_passes is_read class_of kinds number_of number_of_kind parts_of row_of may_read may_be_part further_rows
further-gains p is = by-row true p further 0 (one-goes (may_be_part true) further_rows p refl is) (further-pays p is)

pub string-literal : Free Production.StringLiteral name 4
unfolding kinds number_of_kind parts_of is_chain unfolding_.behind meaning row_of row_goes all_quiet all_pass is_idle refers parts_pass letters_in tree_of qualifiers_of ref_of name_letters qualifier_letters mark_letter lettered size need loan returned IsKnown IsKept
string-literal = by-row true Production.StringLiteral name 4 refl (λ byte around old idle small all b few. record {
  few = omega (arith, few, extended-size around.prefix string_literal, fronted-lent around.prefix);
  known = ((omega (arith, extended-part around.prefix string_literal), extended-scope around.prefix string_literal), extended-other around.prefix string_literal);
  kept = tt;
  small = all;
})

pub local-name : Free Production.LocalName name 0
unfolding parts_of between is_chain close unfolding_.behind meaning values.part class_of grant Gained Ready ready_for need typed loan returned IsKnown IsKept tree_of named_so_far listed_so_far after SmallPrefix letters_in qualifiers_of ref_of lent size front_of part_of is_component is_encoding is_function_type
local-name around at old v new b ready small all o =
    let p0 = o.paid in
    let g0 = p0.gains Kind.Encoding refl tt small all in
    let p1 = p0.onward in
    let g1 = p1.gains in
    let p2 = p1.onward in
    let g2 = p2.gains Kind.Entity refl tt tt (subst (λ s. AllSmall s.candidates) (sym g1.0) g0.small) in
    let p3 = p2.onward in
    let g3 = p3.gains Kind.MaybeDiscriminator refl tt tt g2.small in
    comes-to (λ w s. Gains name 0 around w old s b) o (p0.value ∷ p1.value ∷ p2.value ∷ p3.value ∷ []) p3.after
    (named (local (tree_of p0.value) (tree_of p2.value) (discriminator_of p3.value)) (qualifiers_of p2.value) (ref_of p2.value)) p3.after p3.onward.0 refl
    (record {
      few = omega (
        arith,
        o.sum,
        g0.few,
        p0.sum,
        ap (λ s. wealth s) g1.0,
        g1.1,
        p1.sum,
        g2.few,
        p2.sum,
        g3.few,
        p3.sum,
        p3.onward.1,
        name-own (tree_of p2.value) (size (tree_of p2.value)),
      );
      known = ((omega arith, refl), refl);
      kept = tt;
      small = g3.small;
    })

pub local-type : Free Production.LocalType name 0
unfolding parts_of between is_chain close unfolding_.behind meaning values.part class_of grant Gained Ready ready_for need typed loan returned IsKnown IsKept tree_of named_so_far listed_so_far after SmallPrefix name_letters qualifier_letters mark_letter lettered letters_in qualifiers_of ref_of lent size front_of part_of is_component is_encoding is_function_type
local-type around at old v new b ready small all o =
    let p0 = o.paid in
    let g0 = p0.gains Kind.Encoding refl tt small all in
    let p1 = p0.onward in
    let g1 = p1.gains in
    let p2 = p1.onward in
    let g2 = p2.gains Kind.TypeEntity refl tt tt (subst (λ s. AllSmall s.candidates) (sym g1.0) g0.small) in
    let p3 = p2.onward in
    let g3 = p3.gains Kind.MaybeDiscriminator refl tt tt g2.small in
    comes-to (λ w s. Gains name 0 around w old s b) o (p0.value ∷ p1.value ∷ p2.value ∷ p3.value ∷ []) p3.after
    (tree (local (tree_of p0.value) (tree_of p2.value) (discriminator_of p3.value)) false) p3.after p3.onward.0 refl
    (record {
      few = omega (
        arith,
        o.sum,
        g0.few,
        p0.sum,
        ap (λ s. wealth s) g1.0,
        g1.1,
        p1.sum,
        g2.few,
        p2.sum,
        g3.few,
        p3.sum,
        p3.onward.1,
        name-own (tree_of p2.value) (size (tree_of p2.value)),
      );
      known = ((omega arith, refl), refl);
      kept = tt;
      small = g3.small;
    })

instance-named : (around : Around) (t : Term) (w : Value) (s old : State) (b : ℕ) → w ≡ tree (tree_of w) true → AllSmall s.candidates
    → wealth s + (part t + size (tree_of w) + 13) ≤ wealth old + 8 * b → Gains name 0 around (tree (applied t w) false) old s b
unfolding applied is_there tree_of size part_of is_component is_encoding is_function_type
instance-named around t w s old b some all few =
    let same : applied t w ≡ instance t (tree_of w) = ap (applied t) some in
    subst (λ u. Gains name 0 around (tree u false) old s b) (sym same)
    (named-made around (instance t (tree_of w)) s old b 0 (omega arith, refl) refl all (omega (arith, few)))

-- a template that was named by an abbreviation or a reference, and its arguments
pub abbreviated-name : Free Production.AbbreviatedName name 0
unfolding parts_of between is_chain close unfolding_.behind meaning values.part class_of grant Gained Ready ready_for need typed loan returned IsKnown IsKept tree_of named_so_far listed_so_far after SmallPrefix owed applied is_there
abbreviated-name around at old v new b ready small all o =
    let p0 = o.paid in
    let g0 = p0.gains Kind.Abbreviation refl tt small all in
    let t : Term = tree_of p0.value in
    let p1 = p0.onward in
    let g1 = p1.gains Kind.Arguments refl tt tt g0.small in
    comes-to (λ w s. Gains name 0 around w old s b) o (tree t true ∷ p1.value ∷ []) p1.after (tree (applied t p1.value) false) p1.after p1.onward.0 refl
    (instance-named around t p1.value p1.after old b g1.known g1.small
    (omega (arith, o.sum, g0.few, p0.sum, g1.few, p1.sum, p1.onward.1)))
