-- What is written of a node, by its production, its numbers and its text: the bytes before the node's parts and those
-- after the parts.
use Rattle.std.specs.Prelude.{ℕ, ◌-◌, List, [], ◌∷◌, ◌++◌, length, Bool, true, false, ◌==◌, nat_lt, if◌then◌else◌, get_or}
use Rattle.rust_tree.specs.declared.tree_production.TheConstants.{CRATE_ROOT, PUNYCODE_CRATE_ROOT, TRAIT_DEFINITION, NESTED, PUNYCODE_NESTED, GENERIC, NO_ARGUMENTS, LIFETIME_ARGUMENT, BASIC, ARRAY, SHARED_REFERENCE, MUTABLE_REFERENCE, FUNCTION, C_FUNCTION, ABI_FUNCTION, PUNYCODE_ABI_FUNCTION, DYN, NO_TYPES, MORE_BINDINGS, PUNYCODE_MORE_BINDINGS, INTEGER, BOOLEAN, CHARACTER, PLACEHOLDER, SYMBOL}
use Rattle.rust_tree.specs.Fields.{Fields, number_in, text_in}
use Rattle.sym_spell.specs.Digits.{digits_of}
use Rattle.rust_press.specs.Pressing.{separator}

-- ## Numbers and names

unfoldable pub number_bytes : ℕ → List ℕ
number_bytes n = (if n == 0 then [] else digits_of 62 (n - 1)) ++ 95 ∷ []

unfoldable pub count_bytes : (byte n : ℕ) → List ℕ
count_bytes byte n = if n == 0 then [] else (byte ∷ number_bytes (n - 1))

unfoldable pub lifetime_bytes : ℕ → List ℕ
lifetime_bytes n = 76 ∷ number_bytes n

unfoldable pub mark_bytes : (is_marked : Bool) → (byte : ℕ) → List ℕ
mark_bytes is_marked byte = if is_marked then byte ∷ [] else []

unfoldable pub name_bytes : (punycode : Bool) → List ℕ → List ℕ
name_bytes punycode name = mark_bytes punycode 117 ++ (digits_of 10 (length name) ++ separator name ++ name)

abbrev pub or_zero : List ℕ → List ℕ
or_zero [] = 48 ∷ []
or_zero (digit ∷ digits) = digit ∷ digits

unfoldable pub integer_bytes : List ℕ → List ℕ
integer_bytes digits = or_zero digits ++ 95 ∷ []

unfoldable pub reference_bytes : (place : ℕ) → List ℕ
reference_bytes place = 66 ∷ number_bytes (place - 2)

-- ## Productions

-- the letter that each production begins with, or a dot if it begins with none
abbrev pub letters : List ℕ
letters =
    67 ∷ 67 ∷ 77 ∷ 88 ∷ 89 ∷ 78 ∷ 78 ∷ 73 ∷ 46 ∷ 76 ∷ 75 ∷ 46 ∷ 46 ∷ 46 ∷ 65 ∷ 83 ∷ 84 ∷ 82 ∷ 81 ∷ 80 ∷ 79 ∷ 70 ∷ 70 ∷ 70 ∷ 70 ∷ 68 ∷ 69 ∷ 46
    ∷ 69 ∷ 46 ∷ 46 ∷ 112 ∷ 112 ∷ 46 ∷ 98 ∷ 99 ∷ 112 ∷ 95 ∷ []

unfoldable pub letter_bytes : (production : ℕ) → List ℕ
letter_bytes production = if get_or letters production 46 == 46 then [] else (get_or letters production 46 ∷ [])

-- whether a production makes a path, a type that isn't a letter, or a constant that isn't unknown
unfoldable pub is_component : (production : ℕ) → Bool
is_component production =
    if nat_lt production NO_ARGUMENTS then true else (
    if nat_lt production ARRAY then false else (
    if nat_lt production NO_TYPES then true else (
    if nat_lt production INTEGER then false else nat_lt production PLACEHOLDER)))

unfoldable pub type_numbers : (production first second : ℕ) → List ℕ
type_numbers production first second =
    if production == BASIC then first ∷ [] else (
    if production == SHARED_REFERENCE then (if first == 0 then [] else lifetime_bytes first) else (
    if production == MUTABLE_REFERENCE then (if first == 0 then [] else lifetime_bytes first) else (
    if nat_lt production FUNCTION then [] else (
    if production == DYN then count_bytes 71 first else (count_bytes 71 first ++ mark_bytes (second == 1) 85)))))

unfoldable pub constant_numbers : (production first second : ℕ) → List ℕ
constant_numbers production first second =
    if production == INTEGER then (first ∷ mark_bytes (second == 1) 110) else (
    if production == BOOLEAN then ((if first == 1 then 49 else 48) ∷ 95 ∷ []) else (
    if production == CHARACTER then (digits_of 16 first ++ 95 ∷ []) else (
    if production == SYMBOL then 82 ∷ [] else [])))

-- the numbers after the letter
unfoldable pub numbers_bytes : (production first second : ℕ) → List ℕ
numbers_bytes production first second =
    if nat_lt production TRAIT_DEFINITION then count_bytes 115 first else (
    if production == NESTED then first ∷ [] else (
    if production == PUNYCODE_NESTED then first ∷ [] else (
    if production == LIFETIME_ARGUMENT then number_bytes first else (
    if nat_lt production BASIC then [] else (
    if nat_lt production NO_TYPES then type_numbers production first second else constant_numbers production first second)))))

-- the text after the numbers
unfoldable pub text_bytes : (production : ℕ) → List ℕ → List ℕ
text_bytes production name =
    if production == CRATE_ROOT then name_bytes false name else (
    if production == PUNYCODE_CRATE_ROOT then name_bytes true name else (
    if production == C_FUNCTION then 75 ∷ 67 ∷ [] else (
    if production == ABI_FUNCTION then (75 ∷ name_bytes false name) else (
    if production == PUNYCODE_ABI_FUNCTION then (75 ∷ name_bytes true name) else (
    if production == MORE_BINDINGS then name_bytes false name else (
    if production == PUNYCODE_MORE_BINDINGS then name_bytes true name else (
    if production == INTEGER then integer_bytes name else [])))))))

-- what comes before the parts
unfoldable pub front_bytes : (production first second : ℕ) → List ℕ → List ℕ
front_bytes production first second name = letter_bytes production ++ (numbers_bytes production first second ++ text_bytes production name)

-- what follows the parts of a component
unfoldable pub end_bytes : (production second : ℕ) → List ℕ → List ℕ
end_bytes production second name =
    if production == NESTED then (count_bytes 115 second ++ name_bytes false name) else (
    if production == PUNYCODE_NESTED then (count_bytes 115 second ++ name_bytes true name) else (
    if production == GENERIC then 69 ∷ [] else (
    if production == DYN then lifetime_bytes second else [])))

abbrev pub front : Fields → List ℕ
front given = front_bytes given.production (number_in given 0) (number_in given 1) (text_in given)

abbrev pub end : Fields → List ℕ
end given = end_bytes given.production (number_in given 1) (text_in given)
