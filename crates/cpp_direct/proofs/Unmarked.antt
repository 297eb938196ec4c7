-- Texts that have no marks.
use Rattle.cpp_direct.proofs.Basics.{◌≡◌, refl, ap, sym, subst, ℕ, List, [], ◌∷◌, ◌++◌, length, Bool, true, false, arith, codes, cond, false≢true, AllByRecursion, abbreviation_texts, adjusting, among, any_value, begins_with, builtin_texts, by_table, covariant, encoding_text, explicit_object, is_decimal_digit, is_name_byte, literal_endings, look_up, lvalue_only, Naming, non_virtual, operator_texts, qualifier_text, Qualifiers, ref_text, RefQualifier, rvalue_only, same_bytes, source_text, special_texts, Thunk, thunk_text, first-unmarked, test-unmarked, IsNameAt, IsSuffix, is_suffix_byte, is_unmarked, IsUnmarked, operator_text, unmarked, unmarked_byte, NameClass}
pub use Rattle.sym_direct.specs.Marked.{is_mark}
pub use Rattle.sym_direct.proofs.Seen.{rest-unmarked, more-unmarked, unmarked-append, is-no-mark, each-unmarked}

byte-same : (shown : Bool) (byte : ℕ) → is_mark byte ≡ false → unmarked_byte shown byte ≡ byte
byte-same shown byte is = ap (λ b. elim b [ true ↦ elim shown [ true ↦ byte | false ↦ 0 ] | false ↦ byte ]) is

pub unmarked-same : (shown : Bool) (bytes : List ℕ) → IsUnmarked bytes → unmarked shown bytes ≡ bytes
unmarked-same shown [] plain = refl
unmarked-same shown (byte ∷ bytes) plain = let parts = first-unmarked byte bytes plain in cc (byte-same shown byte parts.0, unmarked-same shown bytes parts.1)

pub length-unmarked : (shown : Bool) (bytes : List ℕ) → length (unmarked shown bytes) ≡ length bytes
length-unmarked shown [] = refl
length-unmarked shown (byte ∷ bytes) = omega (arith, length-unmarked shown bytes)

-- ## Names and digits

pub name-byte : (byte : ℕ) → is_name_byte NameClass.Cpp byte ≡ true → is_mark byte ≡ false
name-byte byte is = test-unmarked (is_name_byte NameClass.Cpp) refl refl byte is

digit-byte : (byte : ℕ) → is_decimal_digit byte ≡ true → is_mark byte ≡ false
digit-byte byte is = test-unmarked is_decimal_digit refl refl byte is

-- a name has no marks
pub name-unmarked : (s : List ℕ) (at : ℕ) (name : List ℕ) (end : ℕ) → IsNameAt s at name end → IsUnmarked name
name-unmarked s at name end is = subst IsUnmarked is.own (each-unmarked (λ b. is_name_byte NameClass.Cpp b ≡ true) name-byte is.token.own is.is_name.each)

-- digits have no marks
pub digits-unmarked : (digits : List ℕ) → AllByRecursion (λ b. is_decimal_digit b ≡ true) digits → IsUnmarked digits
digits-unmarked digits each = each-unmarked (λ b. is_decimal_digit b ≡ true) digit-byte digits each

suffix-byte : (byte : ℕ) → is_suffix_byte byte ≡ true → is_mark byte ≡ false
unfolding is_suffix_byte among
suffix-byte byte is = test-unmarked is_suffix_byte refl refl byte is

-- a suffix has no marks
pub suffix-unmarked : (suffix : List ℕ) → IsSuffix suffix → IsUnmarked suffix
suffix-unmarked [] is = absurd is
suffix-unmarked (d ∷ []) is = absurd is
suffix-unmarked (d ∷ b ∷ bs) is =
    more-unmarked d (b ∷ bs) (subst (λ c. is_mark c ≡ false) (sym is.0) refl) (each-unmarked (λ c. is_suffix_byte c ≡ true) suffix-byte (b ∷ bs) is.1)

pub source-unmarked : (name : List ℕ) → IsUnmarked name → IsUnmarked (source_text name)
unfolding source_text
source-unmarked name plain = go (begins_with (codes "_GLOBAL__N") name)
  where
    go : (anonymous : Bool) → IsUnmarked (elim anonymous [ true ↦ codes "(anonymous namespace)" | false ↦ name ])
    go true = refl
    go false = plain

-- ## Texts of tables

abbrev are_unmarked : List Naming → Bool
are_unmarked [] = true
are_unmarked (n ∷ ns) = elim (is_unmarked n.text) [ true ↦ are_unmarked ns | false ↦ false ]

looked-up : (table : List Naming) → are_unmarked table ≡ true → (code : List ℕ) → IsUnmarked (look_up code table)
unfolding look_up
looked-up [] all code = refl
looked-up (n ∷ ns) all code = go (λ there. looked-up ns there code) (is_unmarked n.text) refl all (same_bytes code n.code)
  where
    go : (are_unmarked ns ≡ true → IsUnmarked (look_up code ns)) → (b : Bool) → is_unmarked n.text ≡ b
        → elim b [ true ↦ are_unmarked ns | false ↦ false ] ≡ true → (same : Bool) → IsUnmarked (elim same [ true ↦ n.text | false ↦ look_up code ns ])
    go rest false is there same = absurd (false≢true there)
    go rest true is there true = is
    go rest true is there false = rest there

pub builtin-unmarked : (code : List ℕ) → IsUnmarked (look_up code builtin_texts)
unfolding builtin_texts
builtin-unmarked code = looked-up builtin_texts refl code

pub abbreviation-unmarked : (code : List ℕ) → IsUnmarked (look_up code abbreviation_texts)
unfolding abbreviation_texts
abbreviation-unmarked code = looked-up abbreviation_texts refl code

pub special-unmarked : (code : List ℕ) → IsUnmarked (look_up code special_texts)
unfolding special_texts
special-unmarked code = looked-up special_texts refl code

pub ending-unmarked : (code : List ℕ) → IsUnmarked (look_up code literal_endings)
unfolding literal_endings
ending-unmarked code = looked-up literal_endings refl code

pub operator-unmarked : (a b : ℕ) → IsUnmarked (operator_text a b)
unfolding operator_texts
operator-unmarked a b = unmarked-append (codes "operator") (look_up (a ∷ b ∷ []) operator_texts) refl (looked-up operator_texts refl (a ∷ b ∷ []))

-- ## Texts of definitions

pub thunk-unmarked : (kind : Thunk) → IsUnmarked (thunk_text kind)
unfolding thunk_text
thunk-unmarked (adjusting (non_virtual a)) = refl
thunk-unmarked (adjusting (by_table a b)) = refl
thunk-unmarked (covariant a b) = refl

pub truth-unmarked : (b : Bool) → IsUnmarked (cond b (codes "true") (codes "false"))
truth-unmarked true = refl
truth-unmarked false = refl

if-unmarked : (b : Bool) (text : List ℕ) → IsUnmarked text → IsUnmarked (cond b text [])
if-unmarked true text plain = plain
if-unmarked false text plain = refl

ref-unmarked : (ref : RefQualifier) → IsUnmarked (ref_text ref)
unfolding ref_text
ref-unmarked any_value = refl
ref-unmarked lvalue_only = refl
ref-unmarked rvalue_only = refl
ref-unmarked explicit_object = refl

pub qualifiers-unmarked : (q : Qualifiers) (ref : RefQualifier) → IsUnmarked (encoding_text q ref)
unfolding encoding_text qualifier_text
qualifiers-unmarked q ref =
    let const = cond q.const (codes " const") [] in
    let volatile = cond q.volatile (codes " volatile") [] in
    let restrict = cond q.restrict (codes " restrict") [] in
    unmarked-append (const ++ volatile ++ restrict) (ref_text ref)
    (unmarked-append (const ++ volatile) restrict
    (unmarked-append const volatile (if-unmarked q.const (codes " const") refl) (if-unmarked q.volatile (codes " volatile") refl))
    (if-unmarked q.restrict (codes " restrict") refl)) (ref-unmarked ref)
