-- What is paid for types.
use Rattle.cpp_press_laws.proofs.Basics.{◌≡◌, ℕ, suc, ◌+◌, ◌*◌, ◌-◌, ◌≤◌, length, List, [], ◌∷◌, Bool, true, false, cond, refl, ap, sym, subst, ◌∙◌, arith, ◌&&◌, nat_eq, false≢true, true≢false, Kind, Production, Operation, kinds, number_of, number_of_kind, parts_of, is_chain, row_of, Term, symbol, lvalue, rvalue, expansion, encoding_literal, nil, list, State, Around, Value, nothing_there, signed, tree, tree_of, is_listed, text_of, signed_of, normal, is_function_type, appended, with_type, under_expansion, between, is_void, is_nil, parameters, listed_value, reference_to, is_code, operation_or_address, operation_by, ends_arguments, in_parentheses, enclosed_argument, meaning, close, either, all_pass, signed_text, components_of, is_component, is_encoding}
use Rattle.cpp_grammar.specs.Values as values
use Rattle.cpp_grammar.specs.Unfolding as unfolding_
use Rattle.cpp_press_laws.proofs.Short.Size.{part_of, with_void, size, over, part, size-some, part-some}
use Rattle.cpp_press_laws.proofs.Short.Worth.{is_among, full}
use Rattle.cpp_press_laws.proofs.Short.Gains.{wealth, AllSmall, type, operands, Class, class_of, typed, held, need, lent, loan, returned, grant, SmallPrefix, ready_for, Ready, IsKnown, IsKept, Gains, Gained, appended-grown, typed-grown, appended-among}
use Rattle.cpp_press_laws.proofs.Short.Paid.{Ended, comes-to}
use Rattle.cpp_press_laws.proofs.Short.ByRow.{is_read, part_passes, parts_pass, cost_of, credit_of, Knows, is_idle, all_quiet, refers, Pays, row_goes, by-row, is_listed_in, each_goes, one-goes, may_read, may_be_part, Standing}

-- what is paid for a production of this class that is read where no name comes before
abbrev pub Idle : Production → Class → Type 0
Idle p c =
    (around : Around) (at : ℕ) (old : State) (v : Value) (new : State) (b : ℕ) → lent around.prefix ≡ 0 → SmallPrefix around.prefix
    → AllSmall old.candidates → Ended p around at old v new b → Gains c 0 around v old new b

-- what is paid for a production of this class that is read anywhere
abbrev pub Free : Production → Class → ℕ → Type 0
Free p c granted =
    (around : Around) (at : ℕ) (old : State) (v : Value) (new : State) (b : ℕ) → Unit {0} → SmallPrefix around.prefix
    → AllSmall old.candidates → Ended p around at old v new b → Gains c granted around v old new b

-- a type that isn't a candidate yet; then a type that never becomes one
pub made : (around : Around) (t : Term) (s old : State) (b : ℕ) → part t ≡ 8 → is_encoding t ≡ false → AllSmall s.candidates → wealth s + (full t + 8) ≤ wealth old + 8 * b
    → Gains type 0 around (tree t false) old s b
unfolding need typed is_listed tree_of loan returned IsKnown IsKept
made around t s old b eight scope all few = record {
  few = omega (arith, few, eight);
  known = (scope, ((λ h. omega (arith, eight)), (λ h. absurd (false≢true h))));
  kept = tt;
  small = all;
}

pub listed : (around : Around) (t : Term) (s old : State) (b : ℕ) → is_function_type t ≡ false → is_encoding t ≡ false
    → AllSmall s.candidates → wealth s + part t ≤ wealth old + 8 * b → Gains type 0 around (tree t true) old s b
unfolding need typed is_listed tree_of loan returned IsKnown IsKept
listed around t s old b other scope all few = record {
  few = omega (arith, few);
  known = (scope, ((λ h. absurd (true≢false h)), (λ h is. absurd (false≢true (sym other ∙ is)))));
  kept = tt;
  small = all;
}

pub normal-short : (ds : List ℕ) → length (normal ds) ≤ length ds
unfolding normal
normal-short [] = omega arith
normal-short (d ∷ []) = omega arith
normal-short (d ∷ e ∷ ds) =
    either (λ x. length x ≤ suc (suc (length ds))) (nat_eq d 48) (normal (e ∷ ds)) (d ∷ e ∷ ds) (λ h. omega (arith, normal-short (e ∷ ds)))
    (λ h. omega arith)

-- a lone void counts as no parameters
pub parameters-most : (t : Term) → with_void (parameters t) (size (parameters t)) ≤ size t
unfolding parameters with_void is_nil size
parameters-most (list first others) =
    either (λ t. cond (is_nil t) 1 (size t) ≤ part_of first (size first) + size others) (is_void first && is_nil others) nil
    (list first others) (λ h. omega (arith, size-some others)) (λ h. omega arith)
parameters-most nil = omega arith
parameters-most (symbol e suffix) = omega arith
parameters-most t = omega arith

pub expansion-gains : Idle Production.Expansion type
unfolding parts_of between is_chain close unfolding_.behind meaning values.part class_of grant Gained Ready ready_for need typed loan returned IsKnown IsKept full over size part_of is_component is_function_type is_encoding under_expansion
expansion-gains around at old v new b idle small all o =
    let p0 = o.paid in
    let g0 = p0.gains Kind.Type refl idle small all in
    comes-to (λ w s. Gains type 0 around w old s b) o (p0.value ∷ []) (p0.after) (tree (expansion (tree_of p0.value)) false) (record p0.after { packs = old.packs }) p0.onward.0 refl
    (made around (expansion (tree_of p0.value)) (record p0.after { packs = old.packs }) old b refl refl g0.small (omega (arith, o.sum, g0.few, p0.sum, p0.onward.1, part-some (tree_of p0.value))))

-- ## Expressions

-- an operation takes at most four bytes more than its left operand
operation-short : (is_address : Bool) (first second : ℕ) (left right : Term)
    → (part (operation_or_address is_address first second left right) ≤ 4 + part left)
    × (is_encoding (operation_or_address is_address first second left right) ≡ false)
    × (is_function_type (operation_or_address is_address first second left right) ≡ false)
unfolding operation_or_address size part_of is_component is_encoding is_function_type
operation-short true first second (encoding_literal e) right = (omega arith, refl, refl)
operation-short true first second left right = (omega arith, refl, refl)
operation-short false first second left right = (omega arith, refl, refl)

operation-listed : (around : Around) (first : ℕ) (v : Value) (s old : State) (b : ℕ) → IsKnown operands around v s → AllSmall s.candidates
    → wealth s + (8 + part (tree_of v)) ≤ wealth old + 8 * b → Gains type 0 around (operation_by first v) old s b
unfolding operation_by IsKnown tree_of
operation-listed around first v s old b known all few =
    let second : ℕ = known.0 in
    let is_address : Bool = is_code 97 100 first second in
    let short = operation-short is_address first second known.1 known.2 in
    subst (λ w. Gains type 0 around (operation_by first w) old s b) (sym known.3)
    (listed around (operation_or_address is_address first second known.1 known.2) s old b short.2 short.1 all
    (omega (arith, few, short.0, ap (λ w. part (tree_of w)) known.3)))

-- an argument, in parentheses or without them
enclosed-listed : (around : Around) (v : Value) (s old : State) (b : ℕ) → AllSmall s.candidates → IsKnown type around v s
    → wealth s + typed v ≤ wealth old + 8 * b → Gains type 0 around (enclosed_argument v) old s b
unfolding enclosed_argument in_parentheses need typed loan returned IsKept size part_of is_component is_function_type is_encoding
enclosed-listed around v s old b all known few =
    either (λ w. Gains type 0 around w old s b) (ends_arguments (tree_of v)) (tree (in_parentheses (tree_of v)) true) v
    (λ h. listed around (in_parentheses (tree_of v)) s old b refl refl all (omega (arith, few, part-some (tree_of v))))
    (λ h. record { few = omega (arith, few); known = known; kept = tt; small = all })

-- an argument that ends with an E: what is known before the E is known after it
pub addressed-gains : Idle Production.AddressedLiteral type
unfolding parts_of between is_chain close unfolding_.behind meaning values.part class_of grant Gained Ready ready_for need typed loan returned IsKnown IsKept
addressed-gains around at old v new b idle small all o =
    let p0 = o.paid in
    let g0 = p0.gains Kind.AddressedLiteral refl idle small all in
    let p1 = p0.onward in
    let g1 = p1.gains in
    comes-to (λ w s. Gains type 0 around w old s b) o (p0.value ∷ p1.value ∷ []) (p1.after) (p0.value) (p1.after) p1.onward.0 refl
    (subst (λ s. Gains type 0 around p0.value old s b) (sym g1.0)
    (record { few = omega (arith, o.sum, g0.few, p0.sum); known = g0.known; kept = tt; small = g0.small }))

pub expression-gains : Idle Production.Expression type
unfolding parts_of between is_chain close unfolding_.behind meaning values.part class_of grant Gained Ready ready_for need typed loan returned IsKnown IsKept
expression-gains around at old v new b idle small all o =
    let p0 = o.paid in
    let g0 = p0.gains Kind.Expression refl idle small all in
    let p1 = p0.onward in
    let g1 = p1.gains in
    comes-to (λ w s. Gains type 0 around w old s b) o (p0.value ∷ p1.value ∷ []) (p1.after) (enclosed_argument p0.value) (p1.after) p1.onward.0 refl
    (subst (λ s. Gains type 0 around (enclosed_argument p0.value) old s b) (sym g1.0)
    (enclosed-listed around p0.value p0.after old b g0.small g0.known (omega (arith, o.sum, g0.few, p0.sum))))

-- ## Types that become candidates

listed-among : (around : Around) (v : Value) (s : State) (l : Bool) → is_listed v ≡ l
    → (is_listed v ≡ true → is_function_type (tree_of v) ≡ true → is_among around.encoding (tree_of v) (components_of s.candidates) ≡ true)
    → is_function_type (tree_of v) ≡ true
    → is_among around.encoding (tree_of v) (components_of (with_type around v s).candidates) ≡ true
unfolding with_type
listed-among around v s true h known is =
    subst (λ l. is_among around.encoding (tree_of v) (components_of (elim l as (λ _. State) [ true ↦ s | false ↦ appended around (tree_of v) s ]).candidates) ≡ true)
    (sym h) (known h is)
listed-among around v s false h known is =
    subst (λ l. is_among around.encoding (tree_of v) (components_of (elim l as (λ _. State) [ true ↦ s | false ↦ appended around (tree_of v) s ]).candidates) ≡ true)
    (sym h) (appended-among around (tree_of v) s)

-- a type that becomes a candidate here, unless it is one
pub listed-granted : (granted : ℕ) (around : Around) (v : Value) (s old : State) (b : ℕ) → AllSmall s.candidates → IsKnown type around v s
    → wealth s + typed v ≤ wealth old + 8 * b + granted → Gains type granted around (tree (tree_of v) true) old (with_type around v s) b
unfolding need typed is_listed tree_of loan returned IsKnown IsKept
listed-granted granted around v s old b all known few =
    let g = typed-grown around v s all (λ h. (known.1.0 h, known.0)) in
    record {
      few = omega (arith, few, g.few);
      known = (known.0, ((λ h. absurd (true≢false h)), (λ h is. among (is_listed v) refl is)));
      kept = tt;
      small = g.small;
    }
  where
    among : (l : Bool) → is_listed v ≡ l → is_function_type (tree_of v) ≡ true
        → is_among around.encoding (tree_of v) (components_of (with_type around v s).candidates) ≡ true
    among l h is = listed-among around v s l h known.1.1 is

listed-here : (around : Around) (v : Value) (s old : State) (b : ℕ) → AllSmall s.candidates → IsKnown type around v s
    → wealth s + typed v ≤ wealth old + 8 * b → Gains type 0 around (tree (tree_of v) true) old (with_type around v s) b
listed-here around v s old b all known few = listed-granted 0 around v s old b all known (omega (arith, few))

-- a type that is made and becomes a candidate
appended-type : (around : Around) (t : Term) (s old : State) (b : ℕ) → part t ≡ 8 → is_function_type t ≡ false → is_encoding t ≡ false → AllSmall s.candidates
    → wealth s + (full t + 8) ≤ wealth old + 8 * b → Gains type 0 around (tree t true) old (appended around t s) b
appended-type around t s old b eight other scope all few =
    let g = appended-grown around t s all (omega (arith, eight), scope) in
    listed around t (appended around t s) old b other scope g.small (omega (arith, few, g.few, eight))

referred-type : (around : Around) (t : Term) (old : State) (b : ℕ) (l : Bool) (s : State) → AllSmall s.candidates
    → wealth s + (1 + (1 + part t - 8) + 8) ≤ wealth old + 8 * b
    → Gains type 0 around (tree (cond l (lvalue t) (rvalue t)) true) old (appended around (cond l (lvalue t) (rvalue t)) s) b
unfolding full over size part_of is_component is_function_type is_encoding
referred-type around t old b true s all few = appended-type around (lvalue t) s old b refl refl refl all (omega (arith, few))
referred-type around t old b false s all few = appended-type around (rvalue t) s old b refl refl refl all (omega (arith, few))

pub reference-gains : Idle Production.ReferenceType type
unfolding parts_of between is_chain close unfolding_.behind meaning values.part class_of grant Gained Ready ready_for need typed loan returned IsKnown IsKept listed_value reference_to tree_of full over size part_of is_component is_function_type is_encoding
reference-gains around at old v new b idle small all o =
    let p0 = o.paid in
    let g0 = p0.gains Kind.Type refl idle small all in
    comes-to (λ w s. Gains type 0 around w old s b) o (p0.value ∷ []) (p0.after) (listed_value (reference_to o.byte p0.value)) (appended around (tree_of (listed_value (reference_to o.byte p0.value))) p0.after) p0.onward.0 refl
    (referred-type around (tree_of p0.value) old b (nat_eq o.byte 82) p0.after g0.small (omega (arith, o.sum, g0.few, p0.sum, p0.onward.1, part-some (tree_of p0.value))))

pub held-signed : (v : Value) → length (signed_text (signed_of v)) ≤ held v
unfolding held signed_of signed_text
held-signed (signed n) = omega arith
held-signed nothing_there = omega arith
held-signed _ = omega arith

-- what is paid for a part that is a type also pays for the type as the value of the whole
pub handed : (around : Around) (v : Value) (s old : State) (b : ℕ) → IsKnown type around v s → AllSmall s.candidates
    → wealth s + typed v ≤ wealth old + 8 * b → Gains type 0 around v old s b
unfolding need loan returned IsKept
handed around v s old b known all few = record { few = omega (arith, few); known = known; kept = tt; small = all }

-- Generated by tools/trees.py.
unfoldable pub type_rows : List Production
type_rows = Production.Pointer ∷ Production.Complex ∷ Production.Vector ∷ Production.LengthArray ∷ Production.MemberPointer ∷ Production.Function ∷ Production.NoexceptFunction ∷ Production.Builtin ∷ Production.BuiltinWithD ∷ Production.EncodingLiteral ∷ Production.BoolLiteral ∷ Production.NullLiteral ∷ Production.CharLiteral ∷ Production.ArrayType ∷ Production.AnyArray ∷ Production.ItemIsType ∷ Production.AbbreviatedType ∷ Production.TypeInStd ∷ Production.LiteralWithD ∷ Production.ExpressionA ∷ Production.FirstWithT ∷ Production.PlainType ∷ Production.TypeWithD ∷ Production.ItemWithD ∷ Production.PlainArgument ∷ Production.ArgumentWithT ∷ []

type-pays : (p : Production) → is_listed_in type_rows p ≡ true → Pays (Standing false) p type 0
unfolding is_listed_in type_rows kinds number_of number_of_kind parts_of is_chain unfolding_.behind meaning values.part class_of grant cost_of credit_of Knows need typed loan returned IsKnown full over size part_of is_component is_function_type is_encoding held listed_value
type-pays Production.Pointer is = λ byte around old idle small v s n k all b few. made around _ s old b refl refl all (omega (arith, few, part-some (tree_of v)))
type-pays Production.Complex is = λ byte around old idle small v s n k all b few. made around _ s old b refl refl all (omega (arith, few, part-some (tree_of v)))
type-pays Production.Vector is = λ byte around old idle small t0 s0 n0 k0 t1 s1 n1 k1 v s n k all b few. made around _ s old b refl refl all (omega (arith, few, k0.1, k1, part-some (tree_of v), normal-short (text_of t0)))
type-pays Production.LengthArray is = λ byte around old idle small t0 s0 n0 k0 v s n k all b few. made around _ s old b refl refl all (omega (arith, few, k0.0, k0.1, part-some (tree_of v), normal-short (text_of t0)))
type-pays Production.MemberPointer is = λ byte around old idle small w s0 n0 k0 v s n k all b few. made around _ s old b refl refl all (omega (arith, few, part-some (tree_of v), part-some (tree_of w)))
type-pays Production.Function is = λ byte around old idle small c s0 n0 k0 w s1 n1 k1 v s n k all b few. made around _ s old b refl refl all (omega (arith, few, parameters-most (tree_of v)))
type-pays Production.NoexceptFunction is = λ byte around old idle small t0 s0 n0 k0 c s1 n1 k1 w s2 n2 k2 v s n k all b few. made around _ s old b refl refl all (omega (arith, few, k0, parameters-most (tree_of v)))
type-pays Production.Builtin is = λ byte around old idle small all b few. listed around _ old old b refl refl all (omega (arith, few))
type-pays Production.BuiltinWithD is = λ byte around old idle small all b few. listed around _ old old b refl refl all (omega (arith, few))
type-pays Production.EncodingLiteral is = λ byte around old idle small t0 s0 n0 k0 v s n k all b few. listed around _ s old b refl refl all (omega (arith, few, k0))
type-pays Production.BoolLiteral is = λ byte around old idle small v s n k all b few. listed around _ s old b refl refl all (omega (arith, few))
type-pays Production.NullLiteral is = λ byte around old idle small v s n k all b few. listed around _ s old b refl refl all (omega (arith, few))
type-pays Production.CharLiteral is = λ byte around old idle small v s n k all b few. listed around _ s old b refl refl all (omega (arith, few, held-signed v))
type-pays Production.ArrayType is = λ byte around old idle small v s n k all b few. handed around v s old b k all (omega (arith, few))
type-pays Production.AnyArray is = λ byte around old idle small v s n k all b few. handed around v s old b k all (omega (arith, few))
type-pays Production.ItemIsType is = λ byte around old idle small v s n k all b few. handed around v s old b k all (omega (arith, few))
type-pays Production.AbbreviatedType is = λ byte around old idle small v s n k all b few. handed around v s old b k all (omega (arith, few))
type-pays Production.TypeInStd is = λ byte around old idle small v s n k all b few. handed around v s old b k all (omega (arith, few))
type-pays Production.LiteralWithD is = λ byte around old idle small v s n k all b few. handed around v s old b k all (omega (arith, few))
type-pays Production.ExpressionA is = λ byte around old idle small v s n k all b few. operation-listed around byte v s old b k all (omega (arith, few))
type-pays Production.FirstWithT is = λ byte around old idle small v s n k all b few. handed around v s old b k all (omega (arith, few))
type-pays Production.PlainType is = λ byte around old idle small v s n k all b few. listed-here around v s old b all k (omega (arith, few))
type-pays Production.TypeWithD is = λ byte around old idle small v s n k all b few. listed-here around v s old b all k (omega (arith, few))
type-pays Production.ItemWithD is = λ byte around old idle small v s n k all b few. listed-here around v s old b all k (omega (arith, few))
type-pays Production.PlainArgument is = λ byte around old idle small v s n k all b few. listed-here around v s old b all k (omega (arith, few))
type-pays Production.ArgumentWithT is = λ byte around old idle small v s n k all b few. listed-here around v s old b all k (omega (arith, few))
type-pays (Production.Operation Operation.ExpressionC) is = absurd (false≢true is)
type-pays _ is = absurd (false≢true is)

-- an abbreviation, anywhere
pub abbreviation-gains : Free Production.Abbreviation type 0
unfolding is_listed_in type_rows kinds number_of number_of_kind parts_of is_chain unfolding_.behind meaning values.part row_goes all_quiet all_pass is_idle refers parts_pass part_passes may_be_part is_read class_of row_of full over size part_of is_component is_function_type is_encoding may_read
abbreviation-gains = by-row true Production.Abbreviation type 0 refl (λ byte around old idle small all b few. listed around _ old old b refl refl all (omega (arith, few)))

pub type-gains : (p : Production) → is_listed_in type_rows p ≡ true → Idle p type
unfolding is_listed_in each_goes row_goes all_quiet all_pass is_idle refers parts_pass part_passes may_be_part is_read class_of kinds number_of number_of_kind parts_of row_of type_rows may_read
type-gains p is = by-row false p type 0 (one-goes (may_be_part false) type_rows p refl is) (type-pays p is)
