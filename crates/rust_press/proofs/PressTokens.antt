-- The pressed spelling of each small part of a tree is read as this part.
use Rattle.rust_press.proofs.Basics.{◌≡◌, ℕ, zero, suc, ◌+◌, ◌<◌, ◌≤◌, inl, inr, length, List, [], ◌∷◌, ◌++◌, Option, Some, Bool, true, false, refl, ap, arith, ◌∙◌, if◌then◌else◌, nat_le, nat_lt, ◌&&◌, le-leb, lt-ltb, Base62, Hex, Rule, Kind, Name, Number, Byte, of_constant, Production, production_of, v0_table, taking, chaining, Value, At, byte_at, is_minus, meaning, meaning_of, plain, ends, token_of, value62, value16, greatest_u64, greatest_u128, Presses, in_ranges, basic_letters, letters, ◌and◌, letter, nothing, digits_in, decimal_digit, number62, digits62, number16, digits16, counted, separator, mark_if, press_name, press_disambiguator, press_binder, identifier_of, press_lifetime, some_lifetime, press_abi, spelled_out, spell_constant, press_constant, most62, IsSpellableName, IsSpellableAbi, IsSpellableInteger, IsSpellableConstant, is_signed, is_unsigned, IsTypeValue}
use Rattle.rust_tree.specs.Symbol as tree
use Rattle.rust_grammar.specs.declared.production.Production.TheVariants as rules
use Rattle.rust_grammar.specs.Value as value
use Rattle.rust_press.proofs.PressParts.{takes-plain, takes-ends, chains-plain, and-presses, last-presses, behind-nothing, nothing-presses, number-presses, name-presses, empty-presses, byte-presses, letter-presses, letter-ends, reads-as}
use Rattle.rust_press.proofs.PressNumbers.{spells62, spells16, spells-name}
use Rattle.rust_press.proofs.PressReferences.{constant-presses}

-- `Makes`: from these values, a rule makes something that is no component; `Ends`: from these values, a rule makes a
-- component
abbrev pub Makes : Rule → (byte bound : ℕ) → Value → List Value → Type 0
Makes rule byte bound v values = (at : At) → byte_at at ≡ byte → at.bound ≡ bound → meaning_of (production_of rule.number) at values ≡ plain at v

abbrev pub Ends : Rule → (byte bound : ℕ) → Value → List Value → Type 0
Ends rule byte bound v values = (at : At) → byte_at at ≡ byte → at.bound ≡ bound → meaning_of (production_of rule.number) at values ≡ ends at v

-- ## Names

pub name-at : (s : List ℕ) (bound : ℕ) (inside : Option Production) (minus : Bool) (kind : ℕ) (name : tree.Name)
    → v0_table.rule kind 117 ≡ Some (taking rules.PunycodeName (Name ∷ [])) → v0_table.rule kind 48 ≡ Some (chaining rules.PlainName (Name ∷ []))
    → IsSpellableName name → Presses s bound inside minus (Kind kind) (press_name name) (λ values. values ≡ value.a_name name ∷ [])
name-at s bound inside minus kind name puny plainly good = go name.punycode
  where
    own : List ℕ
    own = name.bytes

    go : (b : Bool) → Presses s bound inside minus (Kind kind) (mark_if b 117 and counted own) (λ values. values ≡ value.a_name (record { punycode = b; bytes = own }) ∷ [])
    go true =
        takes-plain s bound inside minus kind 117 (taking rules.PunycodeName (Name ∷ [])) (counted own) (λ values. values ≡ value.a_name (record { punycode = true; bytes = own }) ∷ [])
        (value.a_name (record { punycode = true; bytes = own })) (omega arith) puny refl
        (last-presses s (taking rules.PunycodeName (Name ∷ [])) (117 ∷ []) bound Name [] (counted own) (λ values. values ≡ value.a_name (record { punycode = true; bytes = own }) ∷ []) (λ values. values ≡ value.a_name (record { punycode = true; bytes = own }) ∷ [])
        (name-presses s bound (Some rules.PunycodeName) false (digits_in 10 decimal_digit 40 (length own)) (separator own) own (spells-name own good.0 good.1)) (λ values h. h))
        (λ at there same values h. rw h refl)
    go false =
        nothing-presses s bound inside minus (Kind kind) (counted own) (λ values. values ≡ value.a_name (record { punycode = false; bytes = own }) ∷ [])
        (chains-plain s bound inside minus kind 48 (chaining rules.PlainName (Name ∷ [])) (counted own) (λ values. values ≡ value.a_name (record { punycode = false; bytes = own }) ∷ [])
        (value.a_name (record { punycode = false; bytes = own })) (omega arith) plainly refl
        (last-presses s (chaining rules.PlainName (Name ∷ [])) [] bound Name [] (counted own) (λ values. values ≡ value.a_name (record { punycode = false; bytes = own }) ∷ []) (λ values. values ≡ value.a_name (record { punycode = false; bytes = own }) ∷ [])
        (name-presses s bound (Some rules.PlainName) false (digits_in 10 decimal_digit 40 (length own)) (separator own) own (spells-name own good.0 good.1)) (λ values h. h))
        (λ at same values h. rw h refl))

-- ## Counts

-- a number in base 62, as a part of a rule whose tokens are such numbers
pub number62-presses : (s : List ℕ) (bound : ℕ) (inside : Option Production) (minus : Bool) (n : ℕ) → n ≤ most62 → token_of inside minus (digits62 n) ≡ value.number (value62 (digits62 n))
    → Presses s bound inside minus (Number Base62) (number62 n) (λ values. values ≡ value.number n ∷ [])
number62-presses s bound inside minus n small counts front back place components ended is-at from agrees is =
    reads-as (λ values h. h ∙ ap (λ v. v ∷ []) (counts ∙ ap value.number (spells62 n small).1))
    (number-presses s bound inside minus Base62 (digits62 n) (spells62 n small).0 refl front back place components ended is-at from agrees is)

abbrev pub disambiguator_values : ℕ → List Value
disambiguator_values zero = []
disambiguator_values (suc n) = value.a_disambiguator (suc n) ∷ []

suc-means : (n limit : ℕ) → suc n ≤ limit → nat_le (n + 1) limit ≡ true
suc-means n limit small = le-leb (n + 1) limit (omega (arith, small))

plus-one : (n : ℕ) → n + 1 ≡ suc n
plus-one n = omega arith

pub disambiguator-presses : (s : List ℕ) (bound : ℕ) (inside : Option Production) (minus : Bool) (d : ℕ) → d ≤ greatest_u64
    → Presses s bound inside minus (Kind 7) (press_disambiguator d) (λ values. values ≡ disambiguator_values d)
disambiguator-presses s bound inside minus zero small = empty-presses s bound inside minus 7 refl
disambiguator-presses s bound inside minus (suc n) small =
    takes-plain s bound inside minus 7 115 (taking rules.Disambiguator (Number Base62 ∷ [])) (number62 n) (λ values. values ≡ value.number n ∷ []) (value.a_disambiguator (suc n)) (omega arith) refl refl
    (last-presses s (taking rules.Disambiguator (Number Base62 ∷ [])) (115 ∷ []) bound (Number Base62) [] (number62 n) (λ values. values ≡ value.number n ∷ []) (λ values. values ≡ value.number n ∷ [])
    (number62-presses s bound (Some rules.Disambiguator) false n (omega (arith, small)) refl) (λ values h. h))
    (λ at there same values h. rw (h, suc-means n greatest_u64 small, plus-one n) refl)

abbrev pub binder_values : ℕ → List Value
binder_values zero = []
binder_values (suc n) = value.a_binder (suc n) ∷ []

pub binder-presses : (s : List ℕ) (bound : ℕ) (inside : Option Production) (minus : Bool) (n : ℕ) → n ≤ 1000
    → Presses s bound inside minus (Kind 15) (press_binder n) (λ values. values ≡ binder_values n)
binder-presses s bound inside minus zero small = empty-presses s bound inside minus 15 refl
binder-presses s bound inside minus (suc n) small =
    takes-plain s bound inside minus 15 71 (taking rules.Binder (Number Base62 ∷ [])) (number62 n) (λ values. values ≡ value.number n ∷ []) (value.a_binder (suc n)) (omega arith) refl refl
    (last-presses s (taking rules.Binder (Number Base62 ∷ [])) (71 ∷ []) bound (Number Base62) [] (number62 n) (λ values. values ≡ value.number n ∷ []) (λ values. values ≡ value.number n ∷ [])
    (number62-presses s bound (Some rules.Binder) false n (omega (arith, small)) refl) (λ values h. h))
    (λ at there same values h. rw (h, suc-means n 1000 small, plus-one n) refl)

abbrev pub identifier_values : ℕ → tree.Name → List Value
identifier_values zero name = value.a_name name ∷ []
identifier_values (suc n) name = value.an_identifier (record { disambiguator = suc n; name = name }) ∷ []

pub identifier-presses : (s : List ℕ) (bound : ℕ) (inside : Option Production) (minus : Bool) (d : ℕ) (name : tree.Name) → d ≤ greatest_u64 → IsSpellableName name
    → Presses s bound inside minus (Kind 8) (identifier_of d name) (λ values. values ≡ identifier_values d name)
identifier-presses s bound inside minus zero name small good = name-at s bound inside minus 8 name refl refl good
identifier-presses s bound inside minus (suc n) name small good =
    takes-plain s bound inside minus 8 115 (taking rules.DisambiguatedIdentifier (Number Base62 ∷ Kind 9 ∷ [])) (number62 n and press_name name) (λ values. values ≡ value.number n ∷ value.a_name name ∷ [])
    (value.an_identifier (record { disambiguator = suc n; name = name })) (omega arith) refl refl
    (and-presses s (taking rules.DisambiguatedIdentifier (Number Base62 ∷ Kind 9 ∷ [])) (115 ∷ []) bound (Number Base62) (Kind 9 ∷ []) [] (number62 n) (press_name name) (λ values. values ≡ value.number n ∷ []) (λ values. values ≡ value.number n ∷ value.a_name name ∷ [])
    (number62-presses s bound (Some rules.DisambiguatedIdentifier) false n (omega (arith, small)) refl)
    (λ values h. last-presses s (taking rules.DisambiguatedIdentifier (Number Base62 ∷ Kind 9 ∷ [])) (115 ∷ []) bound (Kind 9) values (press_name name) (λ others. others ≡ value.a_name name ∷ []) (λ others. others ≡ value.number n ∷ value.a_name name ∷ [])
    (name-at s bound _ _ 9 name refl refl good) (λ others k. rw (h, k) refl)))
    (λ at there same values h. rw (h, suc-means n greatest_u64 small, plus-one n) refl)

-- a lifetime, for either kind that has its rule
pub lifetime-presses : (s : List ℕ) (bound : ℕ) (inside : Option Production) (minus : Bool) (kind n : ℕ) → v0_table.rule kind 76 ≡ Some (taking rules.Lifetime (Number Base62 ∷ []))
    → n ≤ most62 → n ≤ bound
    → Presses s bound inside minus (Kind kind) (press_lifetime n) (λ values. values ≡ value.a_lifetime n ∷ [])
lifetime-presses s bound inside minus kind n found small closed =
    takes-plain s bound inside minus kind 76 (taking rules.Lifetime (Number Base62 ∷ [])) (number62 n) (λ values. values ≡ value.number n ∷ []) (value.a_lifetime n) (omega arith) found refl
    (last-presses s (taking rules.Lifetime (Number Base62 ∷ [])) (76 ∷ []) bound (Number Base62) [] (number62 n) (λ values. values ≡ value.number n ∷ []) (λ values. values ≡ value.number n ∷ [])
    (number62-presses s bound (Some rules.Lifetime) false n small refl) (λ values h. h))
    (λ at there same values h. rw (h, same, le-leb n bound closed) refl)

abbrev pub lifetime_values : ℕ → List Value
lifetime_values zero = []
lifetime_values (suc n) = value.a_lifetime (suc n) ∷ []

pub some-lifetime-presses : (s : List ℕ) (bound : ℕ) (inside : Option Production) (minus : Bool) (n : ℕ) → n ≤ most62 → n ≤ bound
    → Presses s bound inside minus (Kind 13) (some_lifetime n) (λ values. values ≡ lifetime_values n)
some-lifetime-presses s bound inside minus zero small closed = empty-presses s bound inside minus 13 refl
some-lifetime-presses s bound inside minus (suc n) small closed = lifetime-presses s bound inside minus 13 (suc n) refl small closed

-- ## Marks

abbrev pub unsafe_values : Bool → List Value
unsafe_values true = value.unsafe_mark ∷ []
unsafe_values false = []

pub unsafe-presses : (s : List ℕ) (bound : ℕ) (inside : Option Production) (minus : Bool) (unsafe : Bool)
    → Presses s bound inside minus (Kind 16) (mark_if unsafe 85) (λ values. values ≡ unsafe_values unsafe)
unsafe-presses s bound inside minus true = letter-presses s bound inside minus 16 85 (taking rules.Unsafe []) value.unsafe_mark (omega arith) refl refl refl (λ at there. refl)
unsafe-presses s bound inside minus false = empty-presses s bound inside minus 16 refl

abbrev pub minus_values : Bool → List Value
minus_values true = value.minus_mark ∷ []
minus_values false = []

pub minus-presses : (s : List ℕ) (bound : ℕ) (inside : Option Production) (minus : Bool) (negative : Bool)
    → Presses s bound inside minus (Kind 22) (mark_if negative 110) (λ values. values ≡ minus_values negative)
minus-presses s bound inside minus true = letter-presses s bound inside minus 22 110 (taking rules.Minus []) value.minus_mark (omega arith) refl refl refl (λ at there. refl)
minus-presses s bound inside minus false = empty-presses s bound inside minus 22 refl

pub truth-presses : (s : List ℕ) (bound : ℕ) (inside : Option Production) (minus : Bool) (truth : Bool)
    → Presses s bound inside minus (Kind 23) (letter (if truth then 49 else 48)) (λ values. values ≡ value.a_truth truth ∷ [])
truth-presses s bound inside minus true = letter-presses s bound inside minus 23 49 (taking rules.True []) (value.a_truth true) (omega arith) refl refl refl (λ at there. refl)
truth-presses s bound inside minus false = letter-presses s bound inside minus 23 48 (taking rules.False []) (value.a_truth false) (omega arith) refl refl refl (λ at there. refl)

abbrev pub abi_values : tree.Abi → List Value
abi_values tree.rust_abi = []
abi_values abi = value.an_abi abi ∷ []

pub abi-presses : (s : List ℕ) (bound : ℕ) (inside : Option Production) (minus : Bool) (abi : tree.Abi) → IsSpellableAbi abi
    → Presses s bound inside minus (Kind 17) (press_abi abi) (λ values. values ≡ abi_values abi)
abi-presses s bound inside minus tree.rust_abi good = empty-presses s bound inside minus 17 refl
abi-presses s bound inside minus tree.c_abi good =
    takes-plain s bound inside minus 17 75 (taking rules.Abi (Kind 18 ∷ [])) (letter 67) (λ values. values ≡ value.an_abi tree.c_abi ∷ []) (value.an_abi tree.c_abi) (omega arith) refl refl
    (last-presses s (taking rules.Abi (Kind 18 ∷ [])) (75 ∷ []) bound (Kind 18) [] (letter 67) (λ values. values ≡ value.an_abi tree.c_abi ∷ []) (λ values. values ≡ value.an_abi tree.c_abi ∷ [])
    (letter-presses s bound _ _ 18 67 (taking rules.AbiC []) (value.an_abi tree.c_abi) (omega arith) refl refl refl (λ at there. refl)) (λ values h. h))
    (λ at there same values h. rw h refl)
abi-presses s bound inside minus (tree.named_abi name) good =
    takes-plain s bound inside minus 17 75 (taking rules.Abi (Kind 18 ∷ [])) (press_name name) (λ values. values ≡ value.a_name name ∷ []) (value.an_abi (tree.named_abi name)) (omega arith) refl refl
    (last-presses s (taking rules.Abi (Kind 18 ∷ [])) (75 ∷ []) bound (Kind 18) [] (press_name name) (λ values. values ≡ value.a_name name ∷ []) (λ values. values ≡ value.a_name name ∷ [])
    (name-at s bound _ _ 18 name refl refl good) (λ values h. h))
    (λ at there same values h. rw h refl)

pub namespace-presses : (s : List ℕ) (bound : ℕ) (inside : Option Production) (minus : Bool) (space : ℕ) → space < 256 → in_ranges letters space ≡ true
    → Presses s bound inside minus (Kind 6) (letter space) (λ values. values ≡ value.letter space ∷ [])
namespace-presses s bound inside minus space small good =
    letter-presses s bound inside minus 6 space (taking rules.Namespace []) (value.letter space) small (rw good refl) refl refl (λ at there. rw there refl)

-- ## Constants

signed-presses : (s : List ℕ) (bound : ℕ) (inside : Option Production) (minus : Bool) (type : ℕ) (negative : Bool) (n : ℕ) → type < 256 → is_signed type ≡ true → n ≤ greatest_u128 → (negative && nat_lt 0 n) ≡ negative
    → Presses s bound inside minus (Kind 21) (spelled_out (of_constant (tree.integer type negative n)) (spell_constant (tree.integer type negative n))) (λ values. values ≡ value.a_constant (tree.integer type negative n) ∷ [])
signed-presses s bound inside minus type negative n byte good small some =
    takes-ends s bound inside minus 21 type rule (mark_if negative 110 and number16 n) (Ends rule type bound (value.a_constant (tree.integer type negative n))) (of_constant (tree.integer type negative n)) byte (rw good refl) refl
    (and-presses s rule (type ∷ []) bound (Kind 22) (Number Hex ∷ []) [] (mark_if negative 110) (number16 n) (λ values. values ≡ minus_values negative) (Ends rule type bound (value.a_constant (tree.integer type negative n)))
    (minus-presses s bound _ _ negative)
    (λ values h. rw h (last-presses s rule (type ∷ []) bound (Number Hex) (minus_values negative) (number16 n)
    (λ others. others ≡ token_of (Some rules.SignedConstant) (is_minus (minus_values negative)) (digits16 n) ∷ []) (Ends rule type bound (value.a_constant (tree.integer type negative n)))
    (number-presses s bound _ _ Hex (digits16 n) (spells16 n).0 refl)
    (λ others k at there same. rw k (means negative some at there)))))
    (λ at there same values r. r at there same)
  where
    rule : Rule
    rule = taking rules.SignedConstant (Kind 22 ∷ Number Hex ∷ [])

    means : (b : Bool) → (b && nat_lt 0 n) ≡ b → (at : At) → byte_at at ≡ type
        → meaning rules.SignedConstant at (minus_values b ++ token_of (Some rules.SignedConstant) (is_minus (minus_values b)) (digits16 n) ∷ []) ≡ ends at (value.a_constant (tree.integer type b n))
    means true some at there = rw ((spells16 n).1, le-leb n greatest_u128 small, some, there) refl
    means false some at there = rw ((spells16 n).1, le-leb n greatest_u128 small, there) refl

unsigned-presses : (s : List ℕ) (bound : ℕ) (inside : Option Production) (minus : Bool) (type : ℕ) (n : ℕ) → type < 256 → is_signed type ≡ false → is_unsigned type ≡ true → n ≤ greatest_u128
    → Presses s bound inside minus (Kind 21) (spelled_out (of_constant (tree.integer type false n)) (spell_constant (tree.integer type false n))) (λ values. values ≡ value.a_constant (tree.integer type false n) ∷ [])
unsigned-presses s bound inside minus type n byte bad good small =
    takes-ends s bound inside minus 21 type rule (nothing and number16 n) (Ends rule type bound (value.a_constant (tree.integer type false n))) (of_constant (tree.integer type false n)) byte (rw (bad, good) refl) refl
    (behind-nothing s rule (type ∷ []) bound (Number Hex ∷ []) [] (number16 n) (Ends rule type bound (value.a_constant (tree.integer type false n)))
    (last-presses s rule (type ∷ []) bound (Number Hex) [] (number16 n)
    (λ others. others ≡ token_of (Some rules.UnsignedConstant) false (digits16 n) ∷ []) (Ends rule type bound (value.a_constant (tree.integer type false n)))
    (number-presses s bound _ _ Hex (digits16 n) (spells16 n).0 refl)
    (λ others k at there same. rw (k, (spells16 n).1, le-leb n greatest_u128 small, there) refl)))
    (λ at there same values r. r at there same)
  where
    rule : Rule
    rule = taking rules.UnsignedConstant (Number Hex ∷ [])

integer-presses : (s : List ℕ) (bound : ℕ) (inside : Option Production) (minus : Bool) (type : ℕ) (negative : Bool) (n : ℕ) → type < 256 → n ≤ greatest_u128 → IsSpellableInteger type negative n
    → Presses s bound inside minus (Kind 21) (spelled_out (of_constant (tree.integer type negative n)) (spell_constant (tree.integer type negative n))) (λ values. values ≡ value.a_constant (tree.integer type negative n) ∷ [])
integer-presses s bound inside minus type true n byte small good = signed-presses s bound inside minus type true n byte good.0 small (lt-ltb 0 n good.1)
integer-presses s bound inside minus type false n byte small (inl good) = signed-presses s bound inside minus type false n byte good small refl
integer-presses s bound inside minus type false n byte small (inr good) = unsigned-presses s bound inside minus type n byte good.0 good.1 small

pub constant-kept : (s : List ℕ) (bound : ℕ) → length s ≤ greatest_u64 → (inside : Option Production) (minus : Bool) (constant : tree.Constant) → IsSpellableConstant constant
    → Presses s bound inside minus (Kind 21) (press_constant constant) (λ values. values ≡ value.a_constant constant ∷ [])
constant-kept s bound fits inside minus (tree.integer type negative n) good =
    constant-presses s bound inside minus (tree.integer type negative n) (spell_constant (tree.integer type negative n)) fits (integer-presses s bound inside minus type negative n good.0 good.1 good.2)
constant-kept s bound fits inside minus (tree.boolean truth) good =
    constant-presses s bound inside minus (tree.boolean truth) (spell_constant (tree.boolean truth)) fits
    (takes-ends s bound inside minus 21 98 (taking rules.BoolConstant (Kind 23 ∷ Byte 95 ∷ [])) (letter (if truth then 49 else 48) and letter 95) (λ values. values ≡ value.a_truth truth ∷ []) (of_constant (tree.boolean truth)) (omega arith) refl refl
    (and-presses s (taking rules.BoolConstant (Kind 23 ∷ Byte 95 ∷ [])) (98 ∷ []) bound (Kind 23) (Byte 95 ∷ []) [] (letter (if truth then 49 else 48)) (letter 95) (λ values. values ≡ value.a_truth truth ∷ []) (λ values. values ≡ value.a_truth truth ∷ [])
    (truth-presses s bound _ _ truth)
    (λ values h. last-presses s (taking rules.BoolConstant (Kind 23 ∷ Byte 95 ∷ [])) (98 ∷ []) bound (Byte 95) values (letter 95) (λ others. others ≡ []) (λ others. others ≡ value.a_truth truth ∷ [])
    (byte-presses s bound _ _ 95) (λ others k. rw (h, k) refl)))
    (λ at there same values h. rw h refl))
constant-kept s bound fits inside minus (tree.character c) good =
    constant-presses s bound inside minus (tree.character c) (spell_constant (tree.character c)) fits
    (takes-ends s bound inside minus 21 99 (taking rules.CharConstant (Number Hex ∷ [])) (number16 c) (λ values. values ≡ value.number (value16 (digits16 c)) ∷ []) (of_constant (tree.character c)) (omega arith) refl refl
    (last-presses s (taking rules.CharConstant (Number Hex ∷ [])) (99 ∷ []) bound (Number Hex) [] (number16 c) (λ values. values ≡ value.number (value16 (digits16 c)) ∷ []) (λ values. values ≡ value.number (value16 (digits16 c)) ∷ [])
    (number-presses s bound (Some rules.CharConstant) false Hex (digits16 c) (spells16 c).0 refl) (λ values h. h))
    (λ at there same values h. rw (h, (spells16 c).1, good) refl))
constant-kept s bound fits inside minus tree.placeholder good =
    letter-ends s bound inside minus 21 112 (taking rules.Placeholder []) (value.a_constant tree.placeholder) (omega arith) refl refl refl (λ at there. refl)

-- a basic type
pub basic-presses : (s : List ℕ) (bound : ℕ) (inside : Option Production) (minus : Bool) (type : ℕ) → type < 256 → in_ranges basic_letters type ≡ true
    → Presses s bound inside minus (Kind 11) (letter type) (IsTypeValue (tree.basic type))
basic-presses s bound inside minus type small good front back place components ended is-at from agrees is =
    reads-as (λ values h. inl h)
    (letter-ends s bound inside minus 11 type (taking rules.BasicType []) (value.a_type (tree.basic type)) small (rw good refl) refl refl (λ at there. rw there refl) front back place components ended is-at from agrees is)
