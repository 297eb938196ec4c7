-- What is paid for values without components of their own: numbers, pieces of names, lists and encodings.
use Rattle.cpp_press_laws.proofs.Basics.{◌≡◌, ℕ, ◌+◌, ◌*◌, ◌-◌, ◌≤◌, inr, length, List, [], ◌∷◌, ◌++◌, Bool, true, false, cond, Some, refl, ap, sym, subst, arith, length-append, codes, not, ◌&&◌, Decimal, counted_value, false≢true, Kind, Production, Operation, kinds, number_of, number_of_kind, parts_of, is_chain, row_of, RefQualifier, lvalue_only, rvalue_only, Signed, non_virtual, by_table, Term, symbol, function, lambda, lvalue, rvalue, pack, nil, list, absent, has_return_type, is_function_type, in_name, in_types, in_signature, inside, no_items, between, parameters, signature_with, encoding_of, discriminator_of, with_item, signature_or, operator_or_literal, meaning, close, is_first, undeclared_signature, either, either_cond, all_pass, ordinal, signed_text, name_letters, offset_text, thunk_text, discriminator_text, is_component, is_encoding}
use Rattle.cpp_grammar.specs.Values as values
use Rattle.cpp_grammar.specs.Values.{State, Around, Value, nothing_there, letter, text, tree, piece, tree_of, piece_of, qualifiers_of, ref_of, letter_of, is_there, text_of, signed_of, adjustment_of, normal, is_zero, signed_digits, local_number}
use Rattle.cpp_grammar.specs.Unfolding as unfolding_
use Rattle.cpp_press_laws.proofs.Short.Size.{part_of, front_of, lettered, size, over, size-some, part-some}
use Rattle.cpp_press_laws.proofs.Short.Worth.{full}
use Rattle.cpp_press_laws.proofs.Short.Gains.{wealth, AllSmall, front, unit, whole, items, arguments, given, leaf, mark, offset, discriminator, rest, after_mark, second, operands, class_of, typed, letters_in, held, need, lent, loan, returned, grant, SmallPrefix, ready_for, Ready, IsKnown, IsKept, Gains, Gained, appended-grown, prefix-grown, Class}
use Rattle.cpp_press_laws.proofs.Short.Paid.{Ended, comes-to}
use Rattle.cpp_press_laws.proofs.Short.ByRow.{is_read, part_passes, parts_pass, cost_of, credit_of, Knows, is_idle, all_quiet, refers, Pays, row_goes, by-row, is_listed_in, each_goes, one-goes, may_read, may_be_part, Standing}
use Rattle.cpp_press_laws.proofs.Short.Types.{Idle, Free, normal-short, parameters-most, held-signed}

pub held-text : (v : Value) → 8 * length (text_of v) ≤ held v
unfolding held text_of
held-text (text bytes) = omega arith
held-text nothing_there = omega arith
held-text _ = omega arith

back-one : (n : ℕ) → n + 1 - 1 ≡ n
back-one n = omega arith

signed-short : (negative : Bool) (ds : List ℕ) → length (signed_text (signed_digits negative ds)) ≤ 1 + length ds
unfolding signed_text signed_digits
signed-short negative ds =
    either_cond (λ front. length (front ++ normal ds) ≤ 1 + length ds) (negative && not (is_zero (normal ds))) (codes "n") []
    (λ h. omega (arith, normal-short ds)) (λ h. omega (arith, normal-short ds))

plain-offset : (n : Signed) → length (offset_text (non_virtual n)) ≡ 2 + length (signed_text n)
unfolding offset_text
plain-offset n = omega (arith, length-append (codes "h" ++ signed_text n) (codes "_"))

table-offset : (n m : Signed) → length (offset_text (by_table n m)) ≡ 3 + length (signed_text n) + length (signed_text m)
unfolding offset_text
table-offset n m = omega (
  arith,
  length-append (codes "v" ++ signed_text n ++ codes "_" ++ signed_text m) (codes "_"),
  length-append (codes "v" ++ signed_text n ++ codes "_") (signed_text m),
  length-append (codes "v" ++ signed_text n) (codes "_"),
)

discriminator-short : (ds : List ℕ) → length (discriminator_text (Some ds)) ≤ length ds + 3
unfolding discriminator_text
discriminator-short [] = omega arith
discriminator-short (d ∷ []) = omega arith
discriminator-short (d ∷ e ∷ ds) = omega (arith, length-append (codes "__" ++ (d ∷ e ∷ ds)) (codes "_"))

-- ## Marks, numbers and pieces of names

pub lambda-gains : Free Production.Lambda unit 0
unfolding parts_of between is_chain close unfolding_.behind meaning values.part class_of grant Gained Ready ready_for need typed loan returned IsKnown IsKept piece_of in_signature lent SmallPrefix local_number size is_first number_of_kind
lambda-gains around at old v new b ready small all o =
    let p0 = o.paid in
    let g0 = p0.gains Kind.FirstOfLambda refl refl tt all in
    let p1 = p0.onward in
    let g1 = p1.gains Kind.Items refl refl tt g0.small in
    let p2 = p1.onward in
    let g2 = p2.gains in
    let p3 = p2.onward in
    let g3 = p3.gains in
    let types = parameters (list (tree_of p0.value) (no_items p1.value)) in
    comes-to (λ w s. Gains unit 0 around w old s b) o (p0.value ∷ p1.value ∷ p2.value ∷ p3.value ∷ []) (p3.after) (piece (lambda (signature_with p0.value types) (local_number (text_of p3.value)))) (p3.after) p3.onward.0 refl
    (subst (λ t. Gains unit 0 around (piece (lambda t (local_number (text_of p3.value)))) old p3.after b) (sym (undeclared_signature (p0.value ∷ []) types (p0.first refl)))
    (record { few = omega (arith, o.sum, g0.few, p0.sum, g1.few, p1.sum, ap (λ s. wealth s) g2.0, g2.1, p2.sum, ap (λ s. wealth s) g3.0, g3.1.0, g3.1.1, g3.1.2 refl, p3.sum, p3.onward.1, parameters-most (list (tree_of p0.value) (no_items p1.value)), size-some (no_items p1.value), ap (λ n. length (ordinal n)) (back-one (counted_value Decimal (text_of p3.value)))); known = tt; kept = tt; small = (subst (λ s. AllSmall s.candidates) (sym g3.0) (subst (λ s. AllSmall s.candidates) (sym g2.0) g1.small)) }))

operator-most : (b : ℕ) (v : Value) → size (piece_of (operator_or_literal b v)) ≤ 1 + size (piece_of v)
unfolding operator_or_literal piece_of size
operator-most b (letter c) = omega arith
operator-most b nothing_there = omega arith
operator-most b v = omega arith

-- Generated by tools/trees.py. The productions that are read in all surroundings
unfoldable pub free_rows : Class → List Production
free_rows leaf = Production.Mark ∷ Production.Suffix ∷ Production.SuffixByte ∷ Production.Negative ∷ Production.Positive ∷ []
free_rows mark = Production.Mark ∷ []
free_rows second = Production.Mark ∷ Production.LiteralOperator ∷ []
free_rows offset = Production.NonVirtualOffset ∷ Production.VirtualOffset ∷ []
free_rows discriminator = Production.Discriminator ∷ Production.OneDigit ∷ Production.ManyDigits ∷ []
free_rows unit = Production.InternalPiece ∷ Production.SourcePiece ∷ Production.LocalTypePiece ∷ Production.OperatorPiece ∷ Production.Unnamed ∷ Production.OperatorN ∷ Production.OperatorA ∷ Production.OperatorD ∷ Production.OperatorP ∷ Production.OperatorC ∷ Production.OperatorM ∷ Production.OperatorR ∷ Production.OperatorO ∷ Production.OperatorE ∷ Production.OperatorS ∷ Production.OperatorI ∷ Production.OperatorG ∷ Production.OperatorL ∷ []
free_rows _ = []

free-pays : (c : Class) (p : Production) → is_listed_in (free_rows c) p ≡ true → Pays (Standing true) p c 0
unfolding is_listed_in free_rows kinds number_of number_of_kind parts_of is_chain unfolding_.behind meaning values.part class_of grant cost_of credit_of Knows need typed loan returned IsKnown IsKept held piece_of size tree_of letter_of adjustment_of discriminator_of discriminator_text local_number is_there
free-pays leaf Production.Mark is = λ byte around old idle small all b few. record { few = omega (arith, few); known = tt; kept = tt; small = all }
free-pays leaf Production.Suffix is = λ byte around old idle small v s n k all b few. record { few = omega (arith, few, held-text v); known = tt; kept = tt; small = all }
free-pays leaf Production.SuffixByte is = λ byte around old idle small v s n k all b few. record { few = omega (arith, few, held-text v); known = tt; kept = tt; small = all }
free-pays leaf Production.Negative is = λ byte around old idle small v s n k all b few. record { few = omega (arith, few, k.1, signed-short true (text_of v)); known = tt; kept = tt; small = all }
free-pays leaf Production.Positive is = λ byte around old idle small v s n k all b few. record { few = omega (arith, few, k.1, signed-short false (text_of v)); known = tt; kept = tt; small = all }
free-pays mark Production.Mark is = λ byte around old idle small all b few. record { few = omega (arith, few); known = tt; kept = tt; small = all }
free-pays second Production.Mark is = λ byte around old idle small all b few. record { few = omega (arith, few); known = tt; kept = tt; small = all }
free-pays second Production.LiteralOperator is = λ byte around old idle small v s n k all b few. record { few = omega (arith, few, k.0, k.1, k.2); known = tt; kept = tt; small = all }
free-pays offset Production.NonVirtualOffset is = λ byte around old idle small v s n k t1 s1 n1 k1 all b few. record { few = omega (arith, few, k1, plain-offset (signed_of v), held-signed v); known = tt; kept = tt; small = all }
free-pays offset Production.VirtualOffset is = λ byte around old idle small v s n k t1 s1 n1 k1 w s2 n2 k2 t3 s3 n3 k3 all b few. record { few = omega (arith, few, k1, k3, table-offset (signed_of v) (signed_of w), held-signed v, held-signed w); known = tt; kept = tt; small = all }
free-pays discriminator Production.Discriminator is = λ byte around old idle small v s n k all b few. record { few = omega (arith, few); known = tt; kept = tt; small = all }
free-pays discriminator Production.OneDigit is = λ byte around old idle small all b few. record { few = omega (arith, few); known = tt; kept = tt; small = all }
free-pays discriminator Production.ManyDigits is = λ byte around old idle small v s n k t1 s1 n1 k1 all b few. record { few = omega (arith, few, k.0, k.1, k1, discriminator-short (normal (text_of v)), normal-short (text_of v)); known = tt; kept = tt; small = all }
free-pays unit Production.InternalPiece is = λ byte around old idle small v s n k all b few. record { few = omega (arith, few, k.0, k.1, k.2); known = tt; kept = tt; small = all }
free-pays unit Production.SourcePiece is = λ byte around old idle small v s n k all b few. record { few = omega (arith, few, k.0, k.1, k.2); known = tt; kept = tt; small = all }
free-pays unit Production.LocalTypePiece is = λ byte around old idle small v s n k all b few. record { few = omega (arith, few); known = tt; kept = tt; small = all }
free-pays unit Production.OperatorPiece is = λ byte around old idle small v s n k all b few. record { few = omega (arith, few); known = tt; kept = tt; small = all }
free-pays unit Production.Unnamed is = λ byte around old idle small v s n k all b few. record { few = omega (arith, few, k.0, k.1, k.2 refl, ap (λ n. length (ordinal n)) (back-one (counted_value Decimal (text_of v)))); known = tt; kept = tt; small = all }
free-pays unit Production.OperatorN is = λ byte around old idle small v s n k all b few. record { few = omega (arith, few); known = tt; kept = tt; small = all }
free-pays unit Production.OperatorA is = λ byte around old idle small v s n k all b few. record { few = omega (arith, few); known = tt; kept = tt; small = all }
free-pays unit Production.OperatorD is = λ byte around old idle small v s n k all b few. record { few = omega (arith, few); known = tt; kept = tt; small = all }
free-pays unit Production.OperatorP is = λ byte around old idle small v s n k all b few. record { few = omega (arith, few); known = tt; kept = tt; small = all }
free-pays unit Production.OperatorC is = λ byte around old idle small v s n k all b few. record { few = omega (arith, few); known = tt; kept = tt; small = all }
free-pays unit Production.OperatorM is = λ byte around old idle small v s n k all b few. record { few = omega (arith, few); known = tt; kept = tt; small = all }
free-pays unit Production.OperatorR is = λ byte around old idle small v s n k all b few. record { few = omega (arith, few); known = tt; kept = tt; small = all }
free-pays unit Production.OperatorO is = λ byte around old idle small v s n k all b few. record { few = omega (arith, few); known = tt; kept = tt; small = all }
free-pays unit Production.OperatorE is = λ byte around old idle small v s n k all b few. record { few = omega (arith, few); known = tt; kept = tt; small = all }
free-pays unit Production.OperatorS is = λ byte around old idle small v s n k all b few. record { few = omega (arith, few); known = tt; kept = tt; small = all }
free-pays unit Production.OperatorI is = λ byte around old idle small v s n k all b few. record { few = omega (arith, few); known = tt; kept = tt; small = all }
free-pays unit Production.OperatorG is = λ byte around old idle small v s n k all b few. record { few = omega (arith, few); known = tt; kept = tt; small = all }
free-pays unit Production.OperatorL is = λ byte around old idle small v s n k all b few. record { few = omega (arith, few, operator-most byte v); known = tt; kept = tt; small = all }
free-pays _ (Production.Operation Operation.ExpressionC) is = absurd (false≢true is)
free-pays _ _ is = absurd (false≢true is)

free-go : (c : Class) → each_goes (may_be_part true) (free_rows c) ≡ true
unfolding is_listed_in each_goes row_goes all_quiet all_pass is_idle refers parts_pass part_passes is_read class_of kinds number_of number_of_kind parts_of row_of may_read may_be_part free_rows
free-go leaf = refl
free-go mark = refl
free-go second = refl
free-go offset = refl
free-go discriminator = refl
free-go unit = refl
free-go _ = refl

pub free-gains : (c : Class) (p : Production) → is_listed_in (free_rows c) p ≡ true → Free p c 0
free-gains c p is = by-row true p c 0 (one-goes (may_be_part true) (free_rows c) p (free-go c) is) (free-pays c p is)

-- ## The rest of a function type

same-signature : (a b : RefQualifier) (v : Value) → size (tree_of (signature_or a v)) ≤ size (tree_of (signature_or b v))
unfolding signature_or tree_of
same-signature a b nothing_there = omega arith
same-signature a b (letter c) = omega arith
same-signature a b v = omega arith

-- Generated by tools/trees.py. The productions that are read where no name comes before them
unfoldable pub idle_rows : Class → List Production
idle_rows rest = Production.RestEnd ∷ Production.RestLvalue ∷ Production.RestRvalue ∷ Production.RestItem ∷ []
idle_rows items = Production.Items ∷ Production.AnyArgument ∷ Production.AnyElement ∷ Production.LiteralArgument ∷ Production.LiteralElement ∷ []
idle_rows whole = Production.SpecialType ∷ Production.NonVirtualThunk ∷ Production.VirtualThunk ∷ Production.CovariantThunk ∷ Production.SpecialName ∷ []
idle_rows operands = Production.AddressExpression ∷ []
idle_rows _ = []

idle-pays : (c : Class) (p : Production) → is_listed_in (idle_rows c) p ≡ true → Pays (Standing false) p c 0
unfolding is_listed_in idle_rows kinds number_of number_of_kind parts_of is_chain unfolding_.behind meaning values.part class_of grant cost_of credit_of Knows need typed loan returned IsKnown IsKept with_item no_items tree_of size part_of front_of is_encoding is_component thunk_text letters_in signature_or
idle-pays rest Production.RestEnd is = λ byte around old idle small all b few. record { few = omega (arith, few); known = tt; kept = tt; small = all }
idle-pays rest Production.RestLvalue is = λ byte around old idle small v s n k all b few. record { few = omega (arith, few); known = tt; kept = tt; small = all }
idle-pays rest Production.RestRvalue is = λ byte around old idle small v s n k all b few. record { few = omega (arith, few, same-signature rvalue_only lvalue_only v); known = tt; kept = tt; small = all }
idle-pays rest Production.RestItem is = λ byte around old idle small v0 s0 n0 k0 v s n k all b few. record { few = omega (arith, few); known = tt; kept = tt; small = all }
idle-pays items Production.Items is = λ byte around old idle small v0 s0 n0 k0 v s n k all b few. record { few = omega (arith, few, size-some (no_items v)); known = tt; kept = tt; small = all }
idle-pays items Production.AnyArgument is = λ byte around old idle small v0 s0 n0 k0 v s n k all b few. record { few = omega (arith, few, size-some (no_items v)); known = tt; kept = tt; small = all }
idle-pays items Production.AnyElement is = λ byte around old idle small v0 s0 n0 k0 v s n k all b few. record { few = omega (arith, few, size-some (no_items v)); known = tt; kept = tt; small = all }
idle-pays items Production.LiteralArgument is = λ byte around old idle small v0 s0 n0 k0 t1 s1 n1 k1 v s n k all b few. record { few = omega (arith, few, k1, size-some (no_items v)); known = tt; kept = tt; small = all }
idle-pays items Production.LiteralElement is = λ byte around old idle small v0 s0 n0 k0 t1 s1 n1 k1 v s n k all b few. record { few = omega (arith, few, k1, size-some (no_items v)); known = tt; kept = tt; small = all }
idle-pays whole Production.SpecialType is = λ byte around old idle small v s n k all b few. record { few = omega (arith, few); known = tt; kept = tt; small = all }
idle-pays whole Production.NonVirtualThunk is = λ byte around old idle small d s0 n0 k0 t1 s1 n1 k1 v s n k all b few. record { few = omega (arith, few, k1, plain-offset (signed_of d), held-signed d); known = tt; kept = tt; small = all }
idle-pays whole Production.VirtualThunk is = λ byte around old idle small d s0 n0 k0 t1 s1 n1 k1 e s2 n2 k2 t3 s3 n3 k3 v s n k all b few. record { few = omega (arith, few, k1, k3, table-offset (signed_of d) (signed_of e), held-signed d, held-signed e); known = tt; kept = tt; small = all }
idle-pays whole Production.CovariantThunk is = λ byte around old idle small d s0 n0 k0 e s1 n1 k1 v s n k all b few. record { few = omega (arith, few, length-append (codes "Tc" ++ offset_text (adjustment_of d)) (offset_text (adjustment_of e))); known = tt; kept = tt; small = all }
idle-pays whole Production.SpecialName is = λ byte around old idle small v s n k all b few. record { few = omega (arith, few, idle); known = tt; kept = tt; small = all }
idle-pays operands Production.AddressExpression is = λ byte around old idle small v s n k all b few. record { few = omega (arith, few); known = (byte, tree_of v, absent, refl); kept = tt; small = all }
idle-pays _ (Production.Operation Operation.ExpressionC) is = absurd (false≢true is)
idle-pays _ _ is = absurd (false≢true is)

idle-go : (c : Class) → each_goes (may_be_part false) (idle_rows c) ≡ true
unfolding is_listed_in each_goes row_goes all_quiet all_pass is_idle refers parts_pass part_passes is_read class_of kinds number_of number_of_kind parts_of row_of may_be_part idle_rows may_read
idle-go rest = refl
idle-go items = refl
idle-go whole = refl
idle-go operands = refl
idle-go _ = refl

pub idle-gains : (c : Class) (p : Production) → is_listed_in (idle_rows c) p ≡ true → Idle p c
idle-gains c p is = by-row false p c 0 (one-goes (may_be_part false) (idle_rows c) p (idle-go c) is) (idle-pays c p is)

-- a production that is read after a mark; the mark's byte is granted
abbrev AfterMark : Production → Type 0
AfterMark p =
    (around : Around) (at : ℕ) (old : State) (v : Value) (new : State) (b : ℕ) → lent around.prefix ≡ 0 → SmallPrefix around.prefix
    → AllSmall old.candidates → Ended p around at old v new b → Gains after_mark 8 around v old new b

pub ref-end-gains : AfterMark Production.RefEnd
unfolding kinds number_of number_of_kind parts_of is_chain unfolding_.behind meaning class_of row_goes all_quiet all_pass is_idle refers parts_pass row_of need loan returned IsKnown IsKept signature_or tree_of size
ref-end-gains = by-row false Production.RefEnd after_mark 8 refl (λ byte around old idle small all b few. record { few = omega (arith, few); known = tt; kept = tt; small = all })

pub lvalue-item-gains : AfterMark Production.LvalueItem
unfolding parts_of between is_chain close unfolding_.behind meaning values.part class_of grant Gained Ready ready_for need typed loan returned IsKnown IsKept with_item tree_of signature_or full over size part_of is_component is_function_type is_encoding
lvalue-item-gains around at old v new b idle small all o =
    let p0 = o.paid in
    let g0 = p0.gains Kind.Type refl idle small all in
    let h = appended-grown around (lvalue (tree_of p0.value)) p0.after g0.small (omega arith, refl) in
    let p1 = p0.onward in
    let g1 = p1.gains Kind.FunctionRest refl idle small h.small in
    comes-to (λ w s. Gains after_mark 8 around w old s b) o (tree (lvalue (tree_of p0.value)) true ∷ p1.value ∷ []) p1.after (with_item (lvalue (tree_of p0.value)) p1.value) p1.after p1.onward.0 refl
    (record {
      few = omega (arith, o.sum, g0.few, p0.sum, h.few, g1.few, p1.sum, p1.onward.1, part-some (tree_of p0.value));
      known = tt;
      kept = tt;
      small = g1.small;
    })

pub rvalue-item-gains : AfterMark Production.RvalueItem
unfolding parts_of between is_chain close unfolding_.behind meaning values.part class_of grant Gained Ready ready_for need typed loan returned IsKnown IsKept with_item tree_of signature_or full over size part_of is_component is_function_type is_encoding
rvalue-item-gains around at old v new b idle small all o =
    let p0 = o.paid in
    let g0 = p0.gains Kind.Type refl idle small all in
    let h = appended-grown around (rvalue (tree_of p0.value)) p0.after g0.small (omega arith, refl) in
    let p1 = p0.onward in
    let g1 = p1.gains Kind.FunctionRest refl idle small h.small in
    comes-to (λ w s. Gains after_mark 8 around w old s b) o (tree (rvalue (tree_of p0.value)) true ∷ p1.value ∷ []) p1.after (with_item (rvalue (tree_of p0.value)) p1.value) p1.after p1.onward.0 refl
    (record {
      few = omega (arith, o.sum, g0.few, p0.sum, h.few, g1.few, p1.sum, p1.onward.1, part-some (tree_of p0.value));
      known = tt;
      kept = tt;
      small = g1.small;
    })

-- ## Lists

pub pack-argument-gains : Idle Production.PackArgument items
unfolding parts_of between is_chain close unfolding_.behind meaning values.part class_of grant Gained Ready ready_for need typed loan returned IsKnown IsKept no_items tree_of size part_of is_component
pack-argument-gains around at old v new b idle small all o =
    let p0 = o.paid in
    let g0 = p0.gains Kind.PackList refl idle small all in
    let p1 = p0.onward in
    let g1 = p1.gains in
    let p2 = p1.onward in
    let g2 = p2.gains Kind.ArgumentList refl idle small (subst (λ s. AllSmall s.candidates) (sym g1.0) g0.small) in
    comes-to (λ w s. Gains items 0 around w old s b) o (tree (pack (no_items p0.value)) true ∷ p1.value ∷ p2.value ∷ []) (p2.after) (tree (list (pack (no_items p0.value)) (no_items p2.value)) true) (p2.after) p2.onward.0 refl
    (record { few = omega (arith, o.sum, g0.few, p0.sum, ap (λ s. wealth s) g1.0, g1.1, p1.sum, g2.few, p2.sum, p2.onward.1, size-some (no_items p0.value), size-some (no_items p2.value)); known = tt; kept = tt; small = g2.small })

-- the arguments of a template; the template's name becomes a candidate before they are read
pub arguments-gains : Free Production.Arguments arguments 0
unfolding parts_of between is_chain close unfolding_.behind meaning values.part class_of grant Gained Ready ready_for need typed loan returned IsKnown IsKept is_there tree_of inside lent SmallPrefix
arguments-gains around at old v new b ready small all o =
    let h = prefix-grown around old all small in
    let p0 = o.paid in
    let g0 = p0.gains Kind.ArgumentsFirst refl refl tt h.small in
    let p1 = p0.onward in
    let g1 = p1.gains in
    comes-to (λ w s. Gains arguments 0 around w old s b) o (p0.value ∷ p1.value ∷ []) p1.after (tree (no_items p0.value) true) p1.after p1.onward.0 refl
    (record {
      few = omega (arith, o.sum, h.few, g0.few, p0.sum, ap (λ s. wealth s) g1.0, g1.1, p1.sum, p1.onward.1, size-some (no_items p0.value));
      known = inr refl;
      kept = λ h. let clash : ◌≡◌ {A = Value} (tree (no_items p0.value) true) nothing_there = h in absurd cc;
      small = subst (λ s. AllSmall s.candidates) (sym g1.0) g0.small;
    })

pub given-gains : Free Production.Arguments given 0
unfolding parts_of between is_chain close unfolding_.behind meaning values.part class_of grant Gained Ready ready_for need typed loan returned IsKnown IsKept is_there tree_of inside lent SmallPrefix
given-gains around at old v new b ready small all o =
    let h = prefix-grown around old all small in
    let p0 = o.paid in
    let g0 = p0.gains Kind.ArgumentsFirst refl refl tt h.small in
    let p1 = p0.onward in
    let g1 = p1.gains in
    comes-to (λ w s. Gains given 0 around w old s b) o (p0.value ∷ p1.value ∷ []) p1.after (tree (no_items p0.value) true) p1.after p1.onward.0 refl
    (record {
      few = omega (arith, o.sum, h.few, g0.few, p0.sum, ap (λ s. wealth s) g1.0, g1.1, p1.sum, p1.onward.1, size-some (no_items p0.value));
      known = refl;
      kept = tt;
      small = subst (λ s. AllSmall s.candidates) (sym g1.0) g0.small;
    })

-- ## Encodings

-- an encoding needs at most what its name and its items need
encoding-most : (v : Value) (t : Term) → size (encoding_of v t) + front (encoding_of v t) ≤ size (tree_of v) + letters_in v + 9 + (size t - 1)
unfolding encoding_of size front_of is_encoding letters_in part_of is_component
encoding-most v (list first others) =
    either (λ t. size t + front t
    ≤ size (tree_of v) + lettered (name_letters (qualifiers_of v) (ref_of v)) + 9 + (cond (is_component first) 8 (size first) + size others - 1))
    (has_return_type (tree_of v))
    (function (tree_of v) (qualifiers_of v) (ref_of v) first (parameters others))
    (function (tree_of v) (qualifiers_of v) (ref_of v) absent (parameters (list first others)))
    (λ h. omega (arith, parameters-most others, size-some others))
    (λ h. omega (arith, parameters-most (list first others), size-some others))
encoding-most v nil = omega arith
encoding-most v (symbol e suffix) = omega arith
encoding-most v t = omega arith

pub special-gains : Free Production.Special whole 0
unfolding parts_of between is_chain close unfolding_.behind meaning values.part class_of grant Gained Ready ready_for need typed loan returned IsKnown IsKept in_name lent SmallPrefix
special-gains around at old v new b ready small all o =
    let p0 = o.paid in
    let g0 = p0.gains Kind.Special refl refl tt all in
    comes-to (λ w s. Gains whole 0 around w old s b) o (p0.value ∷ []) (p0.after) (p0.value) (p0.after) p0.onward.0 refl
    (record { few = omega (arith, o.sum, g0.few, p0.sum, p0.onward.1); known = tt; kept = tt; small = g0.small })

pub other-special-gains : Free Production.OtherSpecial whole 0
unfolding parts_of between is_chain close unfolding_.behind meaning values.part class_of grant Gained Ready ready_for need typed loan returned IsKnown IsKept in_name lent SmallPrefix
other-special-gains around at old v new b ready small all o =
    let p0 = o.paid in
    let g0 = p0.gains Kind.SpecialMark refl tt tt all in
    let p1 = p0.onward in
    let g1 = p1.gains Kind.SpecialAfterG refl refl tt g0.small in
    comes-to (λ w s. Gains whole 0 around w old s b) o (p0.value ∷ p1.value ∷ []) (p1.after) (p1.value) (p1.after) p1.onward.0 refl
    (record { few = omega (arith, o.sum, g0.few, p0.sum, g1.few, p1.sum, p1.onward.1); known = tt; kept = tt; small = g1.small })

pub encoding-gains : Free Production.Encoding whole 0
unfolding parts_of between is_chain close unfolding_.behind meaning values.part class_of grant Gained Ready ready_for need typed loan returned IsKnown IsKept in_name in_types lent SmallPrefix tree_of
encoding-gains around at old v new b ready small all o =
    let p0 = o.paid in
    let g0 = p0.gains Kind.CompleteName refl tt tt all in
    let p1 = p0.onward in
    let g1 = p1.gains Kind.Items refl refl tt g0.small in
    comes-to (λ w s. Gains whole 0 around w old s b) o (p0.value ∷ p1.value ∷ []) (p1.after) (tree (encoding_of p0.value (no_items p1.value)) true) (p1.after) p1.onward.0 refl
    (record { few = omega (arith, o.sum, g0.few, p0.sum, g1.few, p1.sum, p1.onward.1, encoding-most p0.value (no_items p1.value)); known = tt; kept = tt; small = g1.small })
