-- A tree's fields determine the tree.
use Rattle.cpp_tree.proofs.Basics.{◌≡◌, ℕ, suc, ◌+◌, ◌*◌, ◌<◌, List, [], ◌∷◌, length, slice_get, arith, Bool, true, false, Option, Some, None, refl, sym, ap, ◌∙◌, ◌==◌, if◌then◌else◌, eqb-true, GUARD, OF_NAME, WIDE_THUNK, BUILTIN_WITH_D, Fields, fields, bit, mark_number, mark_in, qualifiers_number, qualifiers_in, qualifiers_of_both, mark_of_both, linkage_number, c_linkage_in, noexcept_in, no_node, GUARD_LETTER, name_fields, named_fields, local_fields, thunk_fields, fields_of, offsets_of, tree_from, IsView, AreAlike}
use Rattle.cpp_grammar.specs.Term.{Qualifiers, RefQualifier, any_value, lvalue_only, rvalue_only, explicit_object, non_virtual, by_table, Thunk, adjusting, covariant, Term, function, object, thunk, of_name, alone, in_std, within, local, tagged, source, builtin, function_type, qualified, integer, boolean}
use Rattle.cpp_tree.specs.declared.view.Node.{Node}
use Rattle.cpp_tree.specs.declared.view.TheConstants.{ALONE, IN_STD, NESTED}

-- ## What numbers say

bit-back : (b : Bool) → (bit b == 1) ≡ b
unfolding bit
bit-back true = refl
bit-back false = refl

mark-back : (mark : RefQualifier) → mark_in (mark_number mark) ≡ mark
unfolding mark_number
mark-back any_value = refl
mark-back lvalue_only = refl
mark-back rvalue_only = refl
mark-back explicit_object = refl

qualifiers-back : (q : Qualifiers) → qualifiers_in (qualifiers_number q) ≡ q
unfolding bit
qualifiers-back q = by-each q.restrict q.volatile q.const
  where
    by-each : (r v c : Bool) → let q : Qualifiers = record { restrict = r; volatile = v; const = c } in qualifiers_in (qualifiers_number q) ≡ q
    by-each true true true = refl
    by-each true true false = refl
    by-each true false true = refl
    by-each true false false = refl
    by-each false true true = refl
    by-each false true false = refl
    by-each false false true = refl
    by-each false false false = refl

c_linkage-back : (c n : Bool) → c_linkage_in (linkage_number c n) ≡ c
unfolding bit
c_linkage-back true true = refl
c_linkage-back true false = refl
c_linkage-back false true = refl
c_linkage-back false false = refl

noexcept-back : (c n : Bool) → noexcept_in (linkage_number c n) ≡ n
unfolding bit
noexcept-back true true = refl
noexcept-back true false = refl
noexcept-back false true = refl
noexcept-back false false = refl

both-back : (q : Qualifiers) (mark : RefQualifier) → let n : ℕ = qualifiers_number q + 8 * mark_number mark in (qualifiers_of_both n ≡ q) × (mark_of_both n ≡ mark)
unfolding bit mark_number
both-back q mark = by-each q.restrict q.volatile q.const mark
  where
    by-each : (r v c : Bool) (mark : RefQualifier) → let q : Qualifiers = record { restrict = r; volatile = v; const = c } in
        let n : ℕ = qualifiers_number q + 8 * mark_number mark in (qualifiers_of_both n ≡ q) × (mark_of_both n ≡ mark)
    by-each true true true any_value = (refl, refl)
    by-each true true false any_value = (refl, refl)
    by-each true false true any_value = (refl, refl)
    by-each true false false any_value = (refl, refl)
    by-each false true true any_value = (refl, refl)
    by-each false true false any_value = (refl, refl)
    by-each false false true any_value = (refl, refl)
    by-each false false false any_value = (refl, refl)
    by-each true true true lvalue_only = (refl, refl)
    by-each true true false lvalue_only = (refl, refl)
    by-each true false true lvalue_only = (refl, refl)
    by-each true false false lvalue_only = (refl, refl)
    by-each false true true lvalue_only = (refl, refl)
    by-each false true false lvalue_only = (refl, refl)
    by-each false false true lvalue_only = (refl, refl)
    by-each false false false lvalue_only = (refl, refl)
    by-each true true true rvalue_only = (refl, refl)
    by-each true true false rvalue_only = (refl, refl)
    by-each true false true rvalue_only = (refl, refl)
    by-each true false false rvalue_only = (refl, refl)
    by-each false true true rvalue_only = (refl, refl)
    by-each false true false rvalue_only = (refl, refl)
    by-each false false true rvalue_only = (refl, refl)
    by-each false false false rvalue_only = (refl, refl)
    by-each true true true explicit_object = (refl, refl)
    by-each true true false explicit_object = (refl, refl)
    by-each true false true explicit_object = (refl, refl)
    by-each true false false explicit_object = (refl, refl)
    by-each false true true explicit_object = (refl, refl)
    by-each false true false explicit_object = (refl, refl)
    by-each false false true explicit_object = (refl, refl)
    by-each false false false explicit_object = (refl, refl)

-- ## What fields make

alone-made : (piece : Term) → tree_from (name_fields ALONE [] (alone piece) piece) None ≡ alone piece
unfolding name_fields
alone-made (source internal bytes) = rw (bit-back internal) refl
alone-made _ = refl

in_std-made : (piece : Term) → tree_from (name_fields IN_STD [] (in_std piece) piece) None ≡ in_std piece
unfolding name_fields
in_std-made (source internal bytes) = rw (bit-back internal) refl
in_std-made _ = refl

within-made : (prefix piece : Term) → tree_from (name_fields NESTED (prefix ∷ []) (within prefix piece) piece) None ≡ within prefix piece
unfolding name_fields
within-made prefix (source internal bytes) = rw (bit-back internal) refl
within-made prefix _ = refl

local-made : (around entity : Term) (d : Option (List ℕ)) → tree_from (local_fields around entity d) None ≡ local around entity d
unfolding local_fields
local-made around entity None = refl
local-made around entity (Some digits) = refl

thunk-made : (kind : Thunk) (encoding : Term) → tree_from (thunk_fields kind encoding) (Some kind) ≡ thunk kind encoding
unfolding thunk_fields
thunk-made (adjusting (non_virtual a)) encoding = rw (bit-back a.negative) refl
thunk-made (adjusting (by_table a b)) encoding = rw (bit-back a.negative, bit-back b.negative) refl
thunk-made (covariant (non_virtual a) (non_virtual b)) encoding = rw (bit-back a.negative, bit-back b.negative) refl
thunk-made (covariant (non_virtual a) (by_table b c)) encoding = refl
thunk-made (covariant (by_table a b) (non_virtual c)) encoding = refl
thunk-made (covariant (by_table a b) (by_table c d)) encoding = refl

builtin-made : (code : List ℕ) → tree_from (fields_of (builtin code)) None ≡ builtin code
unfolding fields_of
builtin-made [] = refl
builtin-made (letter ∷ []) = refl
builtin-made (d ∷ letter ∷ []) = by-first (d == 68) refl
  where
    by-first : (same : Bool) → (d == 68) ≡ same → tree_from (if same then fields BUILTIN_WITH_D letter 0 [] [] else no_node (builtin (d ∷ letter ∷ []))) None ≡ builtin (d ∷ letter ∷ [])
    by-first true e = ap (λ n. builtin (n ∷ letter ∷ [])) (sym (eqb-true d 68 e))
    by-first false e = refl
builtin-made (d ∷ letter ∷ other ∷ more) = refl

function-made : (name returned parameters : Term) (q : Qualifiers) (mark : RefQualifier)
    → tree_from (fields_of (function name q mark returned parameters)) None ≡ function name q mark returned parameters
unfolding fields_of
function-made name returned parameters q mark = rw (qualifiers-back q, mark-back mark) refl

object-made : (name : Term) (q : Qualifiers) (mark : RefQualifier) → tree_from (fields_of (object name q mark)) None ≡ object name q mark
unfolding fields_of
object-made name q mark = rw (qualifiers-back q, mark-back mark) refl

named-made : (letter : ℕ) (name : Term) (q : Qualifiers) (mark : RefQualifier) → tree_from (named_fields letter name q mark) None ≡ of_name letter name q mark
unfolding named_fields
named-made letter name q mark = by-letter (letter == GUARD_LETTER) refl
  where
    by-letter : (same : Bool) → (letter == GUARD_LETTER) ≡ same → tree_from (if same then fields GUARD (qualifiers_number q) (mark_number mark) [] (name ∷ [])
        else fields OF_NAME letter (qualifiers_number q + 8 * mark_number mark) [] (name ∷ [])) None ≡ of_name letter name q mark
    by-letter true e = rw (qualifiers-back q, mark-back mark) (ap (λ l. of_name l name q mark) (sym (eqb-true letter GUARD_LETTER e)))
    by-letter false e = let b = both-back q mark in rw (b.0, b.1) refl

type-made : (c n : Bool) (mark : RefQualifier) (returned parameters : Term)
    → tree_from (fields_of (function_type c n mark returned parameters)) None ≡ function_type c n mark returned parameters
unfolding fields_of
type-made c n mark returned parameters = rw (c_linkage-back c n, noexcept-back c n, mark-back mark) refl

-- a tree is its production over its other fields
pub tree-made : (one : Term) → tree_from (fields_of one) (offsets_of one) ≡ one
unfolding fields_of offsets_of
tree-made (alone piece) = alone-made piece
tree-made (in_std piece) = in_std-made piece
tree-made (within prefix piece) = within-made prefix piece
tree-made (local around entity d) = local-made around entity d
tree-made (thunk kind encoding) = thunk-made kind encoding
tree-made (builtin code) = builtin-made code
tree-made (function name q mark returned parameters) = function-made name returned parameters q mark
tree-made (object name q mark) = object-made name q mark
tree-made (of_name letter name q mark) = named-made letter name q mark
tree-made (function_type c n mark returned parameters) = type-made c n mark returned parameters
tree-made (qualified q type) = ap (λ p. qualified p type) (qualifiers-back q)
tree-made (tagged of_structor name tag) = ap (λ b. tagged b name tag) (bit-back of_structor)
tree-made (integer type value) = ap (λ b. integer type (record { negative = b; digits = value.digits })) (bit-back value.negative)
tree-made (boolean truth) = ap boolean (bit-back truth)
tree-made _ = refl

-- ## Views of trees

same-lists : (xs ys : List Term) → length xs ≡ length ys → ((k : ℕ) → k < length xs → slice_get xs k ≡ slice_get ys k) → xs ≡ ys
same-lists [] [] long each = refl
same-lists [] (y ∷ ys) long each = absurd (omega (arith, long))
same-lists (x ∷ xs) [] long each = absurd (omega (arith, long))
same-lists (x ∷ xs) (y ∷ ys) long each =
    let first : Some x ≡ Some y = each 0 (omega arith) in
    let rest : xs ≡ ys = same-lists xs ys (omega (arith, long)) (λ k h. each (suc k) (omega (arith, h))) in
    cc

same-fields : (p q : ℕ) (ns ms : List ℕ) (ts us : List (List ℕ)) (xs ys : List Term) → p ≡ q → ns ≡ ms → ts ≡ us → xs ≡ ys
    → ◌≡◌ {A = Fields} (record { production = p; numbers = ns; texts = ts; parts = xs }) (record { production = q; numbers = ms; texts = us; parts = ys })
same-fields p q ns ms ts us xs ys e f g h = cc

-- the offsets matter only to the production of thunks with more than two offsets
same-offsets : (given : Fields) (one other : Option Thunk) → (given.production ≡ WIDE_THUNK → one ≡ other) → tree_from given one ≡ tree_from given other
same-offsets given one other same = by-production (given.production == WIDE_THUNK) refl
  where
    by-production : (wide : Bool) → (given.production == WIDE_THUNK) ≡ wide → tree_from given one ≡ tree_from given other
    by-production true e = ap (tree_from given) (same (eqb-true given.production WIDE_THUNK e))
    by-production false e = rw e refl

pub equal-trees : (s t : List ℕ) (first second : Node) (one other : Term) → IsView s first (fields_of one) → IsView t second (fields_of other)
    → AreAlike s t first second one other → one ≡ other
equal-trees s t first second one other is also_is alike =
    let mine : Fields = fields_of one in
    let yours : Fields = fields_of other in
    let same : mine ≡ yours =
    same-fields mine.production yours.production mine.numbers yours.numbers mine.texts yours.texts mine.parts yours.parts
    (sym is.production ∙ alike.production ∙ also_is.production) (sym is.numbers ∙ alike.numbers ∙ also_is.numbers) (sym is.texts ∙ alike.texts ∙ also_is.texts)
    (same-lists mine.parts yours.parts (sym is.parts ∙ alike.parts ∙ also_is.parts) (λ k h. alike.equal k (omega (arith, h, is.parts)))) in
    sym (tree-made one)
    ∙ same-offsets mine (offsets_of one) (offsets_of other) (λ wide. alike.offsets (is.production ∙ wide))
    ∙ ap (λ given. tree_from given (offsets_of other)) same
    ∙ tree-made other

pub equal-views : (s t : List ℕ) (first second : Node) (one other : Term) → IsView s first (fields_of one) → IsView t second (fields_of other)
    → one ≡ other → AreAlike s t first second one other
equal-views s t first second one other is also_is same = record {
  production = is.production ∙ ap (λ tree. (fields_of tree).production) same ∙ sym also_is.production;
  numbers = is.numbers ∙ ap (λ tree. (fields_of tree).numbers) same ∙ sym also_is.numbers;
  texts = is.texts ∙ ap (λ tree. (fields_of tree).texts) same ∙ sym also_is.texts;
  parts = is.parts ∙ ap (λ tree. length (fields_of tree).parts) same ∙ sym also_is.parts;
  equal = λ k h. ap (λ tree. slice_get (fields_of tree).parts k) same;
  offsets = λ wide. ap offsets_of same;
}
