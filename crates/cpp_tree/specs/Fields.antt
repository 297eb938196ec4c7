-- What a tree has apart from its production: numbers, texts and its parts' trees. The productions are constants of the code.
use Rattle.std.specs.Prelude.{ℕ, ◌+◌, ◌*◌, List, [], ◌∷◌, ◌-◌, ◌++◌, Bool, true, false, ◌==◌, ◌||◌, nat_lt, if◌then◌else◌, cond, get_or, Option, Some, None}
use Rattle.cpp_grammar.specs.Term.{Qualifiers, RefQualifier, any_value, lvalue_only, rvalue_only, explicit_object, Signed, non_virtual, by_table, Thunk, adjusting, covariant, Term, symbol, function, object, special, thunk, of_name, construction, clone, alone, in_std, within, instance, local, holder, tagged, of_default, abbreviation, parameter, source, operator, literal_operator, constructor, destructor, inheriting, lambda, generic_lambda, unnamed, string_literal, conversion, enumeration, bindings, builtin, sized_float, constrained, vendor, pointer, lvalue, rvalue, array, bounded, member_pointer, function_type, qualified, vector, complex, decltype, expansion, integer, boolean, null_pointer, encoding_literal, address_of, operation, function_parameter, pack, nil, list, absent, declaring}
use Rattle.cpp_tree.specs.declared.view.Names.{Names}
use Rattle.cpp_tree.specs.declared.view.TheConstants.{ALONE, IN_STD, NESTED}
use Rattle.cpp_tree.specs.declared.tree_production.TheConstants.{ABSENT, NIL, LIST, SYMBOL, FUNCTION, OBJECT, SPECIAL, GUARD, OF_NAME, CONSTRUCTION, CLONE, THUNK, TABLE_THUNK, COVARIANT_THUNK, WIDE_THUNK, INSTANCE, LOCAL, NUMBERED_LOCAL, HOLDER, TAGGED, OF_DEFAULT, ABBREVIATION, PARAMETER, BUILTIN, BUILTIN_WITH_D, SIZED_FLOAT, BOUNDED, CONSTRAINED, VENDOR, POINTER, LVALUE, RVALUE, ARRAY, MEMBER_POINTER, FUNCTION_TYPE, QUALIFIED, VECTOR, COMPLEX, DECLTYPE, EXPANSION, INTEGER, BOOLEAN, NULL_POINTER, ENCODING_LITERAL, ADDRESS_OF, OPERATION, FUNCTION_PARAMETER, PACK, NO_NODE, DECLARING}

-- a production, its two numbers, the bytes of its two texts, and the trees of its parts
pub record Fields : Type 0 where
  pub production : ℕ
  pub numbers : List ℕ
  pub texts : List (List ℕ)
  pub parts : List Term

-- ## The fields of a tree

abbrev pub fields : (production first second : ℕ) → (text : List ℕ) → List Term → Fields
fields production first second text parts = record { production = production; numbers = first ∷ second ∷ []; texts = text ∷ [] ∷ []; parts = parts }

unfoldable pub bit : Bool → ℕ
bit b = cond b 1 0

unfoldable pub mark_number : RefQualifier → ℕ
mark_number any_value = 0
mark_number lvalue_only = 1
mark_number rvalue_only = 2
mark_number explicit_object = 3

abbrev pub qualifiers_number : Qualifiers → ℕ
qualifiers_number q = bit q.restrict + 2 * bit q.volatile + 4 * bit q.const

abbrev pub linkage_number : (c_linkage noexcept : Bool) → ℕ
linkage_number c_linkage noexcept = bit c_linkage + 2 * bit noexcept

-- a tree that no node denotes is its own part
abbrev pub no_node : Term → Fields
no_node t = fields NO_NODE 0 0 [] (t ∷ [])

-- the fields of a name, by its piece, after a prefix if there is one
unfoldable pub name_fields : Names → (prefix : List Term) → (whole : Term) → Term → Fields
name_fields names prefix whole (source internal bytes) = fields names.source (bit internal) 0 bytes prefix
name_fields names prefix whole (operator first second) = fields names.operator first second [] prefix
name_fields names prefix whole (literal_operator bytes) = fields names.literal_operator 0 0 bytes prefix
name_fields names prefix whole (constructor digit) = fields names.constructor digit 0 [] prefix
name_fields names prefix whole (destructor digit) = fields names.destructor digit 0 [] prefix
name_fields names prefix whole (inheriting digit base) = fields names.inheriting digit 0 [] (prefix ++ base ∷ [])
name_fields names prefix whole (lambda parameters number) = fields names.lambda number 0 [] (prefix ++ parameters ∷ [])
name_fields names prefix whole (generic_lambda parameters number) = fields names.generic_lambda number 0 [] (prefix ++ parameters ∷ [])
name_fields names prefix whole (unnamed number) = fields names.unnamed number 0 [] prefix
name_fields names prefix whole (conversion type) = fields names.conversion 0 0 [] (prefix ++ type ∷ [])
name_fields names prefix whole (enumeration type name) = fields names.enumeration 0 0 name (prefix ++ type ∷ [])
name_fields names prefix whole (bindings bound) = fields names.bindings 0 0 [] (prefix ++ bound ∷ [])
name_fields names prefix whole string_literal = fields names.string_literal 0 0 [] prefix
name_fields names prefix whole absent = fields names.no_piece 0 0 [] prefix
name_fields names prefix whole _ = no_node whole

-- the last letter of the code of a guard variable, which has a production of its own
abbrev pub GUARD_LETTER : ℕ
GUARD_LETTER = 86

-- the fields of a special name that is about a name: its numbers are the letter, and one number for qualifiers and mark
unfoldable pub named_fields : (letter : ℕ) → (name : Term) → Qualifiers → RefQualifier → Fields
named_fields letter name q mark =
    if letter == GUARD_LETTER then fields GUARD (qualifiers_number q) (mark_number mark) [] (name ∷ [])
    else fields OF_NAME letter (qualifiers_number q + 8 * mark_number mark) [] (name ∷ [])

-- the fields of a name in a function, with a discriminator or without
unfoldable pub local_fields : (around entity : Term) → Option (List ℕ) → Fields
local_fields around entity None = fields LOCAL 0 0 [] (around ∷ entity ∷ [])
local_fields around entity (Some digits) = fields NUMBERED_LOCAL 0 0 digits (around ∷ entity ∷ [])

-- two offsets of a thunk
abbrev pub two_offsets : (production : ℕ) → (first second : Signed) → (encoding : Term) → Fields
two_offsets production first second encoding = record {
  production = production;
  numbers = bit first.negative ∷ bit second.negative ∷ [];
  texts = first.digits ∷ second.digits ∷ [];
  parts = encoding ∷ [];
}

unfoldable pub thunk_fields : Thunk → Term → Fields
thunk_fields (adjusting (non_virtual offset)) encoding = fields THUNK (bit offset.negative) 0 offset.digits (encoding ∷ [])
thunk_fields (adjusting (by_table first second)) encoding = two_offsets TABLE_THUNK first second encoding
thunk_fields (covariant (non_virtual first) (non_virtual second)) encoding = two_offsets COVARIANT_THUNK first second encoding
thunk_fields _ encoding = fields WIDE_THUNK 0 0 [] (encoding ∷ [])

-- Generated by tools/trees.py.
unfoldable pub fields_of : Term → Fields
fields_of absent = fields ABSENT 0 0 [] []
fields_of nil = fields NIL 0 0 [] []
fields_of (list first rest) = fields LIST 0 0 [] (first ∷ rest ∷ [])
fields_of (symbol encoding suffix) = fields SYMBOL 0 0 suffix (encoding ∷ [])
fields_of (function name q mark returned parameters) = fields FUNCTION (qualifiers_number q) (mark_number mark) [] (name ∷ returned ∷ parameters ∷ [])
fields_of (object name q mark) = fields OBJECT (qualifiers_number q) (mark_number mark) [] (name ∷ [])
fields_of (special letter type) = fields SPECIAL letter 0 [] (type ∷ [])
fields_of (of_name letter name q mark) = named_fields letter name q mark
fields_of (thunk kind encoding) = thunk_fields kind encoding
fields_of (construction derived digits parent) = fields CONSTRUCTION 0 0 digits (derived ∷ parent ∷ [])
fields_of (clone letter encoding) = fields CLONE letter 0 [] (encoding ∷ [])
fields_of (instance template arguments) = fields INSTANCE 0 0 [] (template ∷ arguments ∷ [])
fields_of (local around entity discriminator) = local_fields around entity discriminator
fields_of (holder name) = fields HOLDER 0 0 [] (name ∷ [])
fields_of (tagged of_structor name tag) = fields TAGGED (bit of_structor) 0 tag (name ∷ [])
fields_of (of_default digits entity) = fields OF_DEFAULT 0 0 digits (entity ∷ [])
fields_of (abbreviation letter) = fields ABBREVIATION letter 0 [] []
fields_of (parameter number) = fields PARAMETER number 0 [] []
fields_of (declaring heads parameters) = fields DECLARING 0 0 [] (heads ∷ parameters ∷ [])
fields_of (builtin (letter ∷ [])) = fields BUILTIN letter 0 [] []
fields_of (builtin (d ∷ letter ∷ [])) = if d == 68 then fields BUILTIN_WITH_D letter 0 [] [] else no_node (builtin (d ∷ letter ∷ []))
fields_of (sized_float digits end) = fields SIZED_FLOAT end 0 digits []
fields_of (constrained letter concept) = fields CONSTRAINED letter 0 [] (concept ∷ [])
fields_of (vendor bytes) = fields VENDOR 0 0 bytes []
fields_of (pointer type) = fields POINTER 0 0 [] (type ∷ [])
fields_of (lvalue type) = fields LVALUE 0 0 [] (type ∷ [])
fields_of (rvalue type) = fields RVALUE 0 0 [] (type ∷ [])
fields_of (array digits element) = fields ARRAY 0 0 digits (element ∷ [])
fields_of (bounded bound element) = fields BOUNDED 0 0 [] (bound ∷ element ∷ [])
fields_of (member_pointer class member) = fields MEMBER_POINTER 0 0 [] (class ∷ member ∷ [])
fields_of (function_type c_linkage noexcept mark returned parameters) =
    fields FUNCTION_TYPE (linkage_number c_linkage noexcept) (mark_number mark) [] (returned ∷ parameters ∷ [])
fields_of (qualified q type) = fields QUALIFIED (qualifiers_number q) 0 [] (type ∷ [])
fields_of (vector digits element) = fields VECTOR 0 0 digits (element ∷ [])
fields_of (complex type) = fields COMPLEX 0 0 [] (type ∷ [])
fields_of (decltype operand) = fields DECLTYPE 0 0 [] (operand ∷ [])
fields_of (expansion pattern) = fields EXPANSION 0 0 [] (pattern ∷ [])
fields_of (integer type value) = fields INTEGER (bit value.negative) 0 value.digits (type ∷ [])
fields_of (boolean truth) = fields BOOLEAN (bit truth) 0 [] []
fields_of null_pointer = fields NULL_POINTER 0 0 [] []
fields_of (encoding_literal encoding) = fields ENCODING_LITERAL 0 0 [] (encoding ∷ [])
fields_of (address_of encoding) = fields ADDRESS_OF 0 0 [] (encoding ∷ [])
fields_of (operation one two u w) = fields OPERATION one two [] (u ∷ w ∷ [])
fields_of (function_parameter digits) = fields FUNCTION_PARAMETER 0 0 digits []
fields_of (pack elements) = fields PACK 0 0 [] (elements ∷ [])
fields_of (alone piece) = name_fields ALONE [] (alone piece) piece
fields_of (in_std piece) = name_fields IN_STD [] (in_std piece) piece
fields_of (within prefix piece) = name_fields NESTED (prefix ∷ []) (within prefix piece) piece
fields_of t = no_node t

-- the offsets of a thunk
unfoldable pub offsets_of : Term → Option Thunk
offsets_of (thunk kind encoding) = Some kind
offsets_of _ = None

-- ## The tree of fields. A missing field is no tree.

abbrev number_in : Fields → (k : ℕ) → ℕ
number_in given k = get_or given.numbers k 0

abbrev is_so : Fields → (k : ℕ) → Bool
is_so given k = number_in given k == 1

abbrev text_in : Fields → (k : ℕ) → List ℕ
text_in given k = get_or given.texts k []

abbrev part_in : Fields → (k : ℕ) → Term
part_in given k = get_or given.parts k absent

abbrev pub mark_in : ℕ → RefQualifier
mark_in n = get_or (any_value ∷ lvalue_only ∷ rvalue_only ∷ explicit_object ∷ []) n any_value

abbrev these : (restrict volatile const : Bool) → Qualifiers
these restrict volatile const = record { restrict = restrict; volatile = volatile; const = const }

abbrev pub qualifiers_in : ℕ → Qualifiers
qualifiers_in n = get_or (
    these false false false
    ∷ these true false false
    ∷ these false true false
    ∷ these true true false
    ∷ these false false true
    ∷ these true false true
    ∷ these false true true
    ∷ these true true true
    ∷ []) n (these false false false)

-- the qualifiers and the mark that one number encodes
abbrev pub qualifiers_of_both : ℕ → Qualifiers
qualifiers_of_both n = qualifiers_in (if nat_lt n 8 then n else if nat_lt n 16 then n - 8 else if nat_lt n 24 then n - 16 else n - 24)

abbrev pub mark_of_both : ℕ → RefQualifier
mark_of_both n = if nat_lt n 8 then any_value else if nat_lt n 16 then lvalue_only else if nat_lt n 24 then rvalue_only else explicit_object

abbrev pub c_linkage_in : ℕ → Bool
c_linkage_in n = (n == 1) || (n == 3)

abbrev pub noexcept_in : ℕ → Bool
noexcept_in n = (n == 2) || (n == 3)

abbrev signed_in : Fields → (k : ℕ) → Signed
signed_in given k = record { negative = is_so given k; digits = text_in given k }

abbrev thunk_in : Option Thunk → Thunk
thunk_in None = adjusting (non_virtual (record { negative = false; digits = [] }))
thunk_in (Some kind) = kind

-- the trees at the productions of names in one sort of scope
abbrev names_in : Names → Fields → (part : Term) → (named : Term → Term) → List (ℕ × Term)
names_in names given part named =
    (names.source, named (source (is_so given 0) (text_in given 0)))
    ∷ (names.operator, named (operator (number_in given 0) (number_in given 1)))
    ∷ (names.literal_operator, named (literal_operator (text_in given 0)))
    ∷ (names.constructor, named (constructor (number_in given 0)))
    ∷ (names.destructor, named (destructor (number_in given 0)))
    ∷ (names.inheriting, named (inheriting (number_in given 0) part))
    ∷ (names.lambda, named (lambda part (number_in given 0)))
    ∷ (names.generic_lambda, named (generic_lambda part (number_in given 0)))
    ∷ (names.conversion, named (conversion part))
    ∷ (names.enumeration, named (enumeration part (text_in given 0)))
    ∷ (names.bindings, named (bindings part))
    ∷ (names.unnamed, named (unnamed (number_in given 0)))
    ∷ (names.string_literal, named string_literal)
    ∷ (names.no_piece, named absent)
    ∷ []

-- the tree at a production in a list
abbrev tree_at : (production : ℕ) → List (ℕ × Term) → Term
tree_at production [] = absent
tree_at production (first ∷ rest) = if production == first.0 then first.1 else tree_at production rest

-- Generated by tools/trees.py. The production over these numbers, texts and trees of parts
abbrev pub narrow_tree_from : Fields → Term
narrow_tree_from given = tree_at given.production (
    (ABSENT, absent)
    ∷ (NIL, nil)
    ∷ (LIST, list (part_in given 0) (part_in given 1))
    ∷ (SYMBOL, symbol (part_in given 0) (text_in given 0))
    ∷ (FUNCTION, function (part_in given 0) (qualifiers_in (number_in given 0)) (mark_in (number_in given 1)) (part_in given 1) (part_in given 2))
    ∷ (OBJECT, object (part_in given 0) (qualifiers_in (number_in given 0)) (mark_in (number_in given 1)))
    ∷ (SPECIAL, special (number_in given 0) (part_in given 0))
    ∷ (GUARD, of_name GUARD_LETTER (part_in given 0) (qualifiers_in (number_in given 0)) (mark_in (number_in given 1)))
    ∷ (OF_NAME, of_name (number_in given 0) (part_in given 0) (qualifiers_of_both (number_in given 1)) (mark_of_both (number_in given 1)))
    ∷ (THUNK, thunk (adjusting (non_virtual (signed_in given 0))) (part_in given 0))
    ∷ (TABLE_THUNK, thunk (adjusting (by_table (signed_in given 0) (signed_in given 1))) (part_in given 0))
    ∷ (COVARIANT_THUNK, thunk (covariant (non_virtual (signed_in given 0)) (non_virtual (signed_in given 1))) (part_in given 0))
    ∷ (CONSTRUCTION, construction (part_in given 0) (text_in given 0) (part_in given 1))
    ∷ (CLONE, clone (number_in given 0) (part_in given 0))
    ∷ (INSTANCE, instance (part_in given 0) (part_in given 1))
    ∷ (LOCAL, local (part_in given 0) (part_in given 1) None)
    ∷ (NUMBERED_LOCAL, local (part_in given 0) (part_in given 1) (Some (text_in given 0)))
    ∷ (HOLDER, holder (part_in given 0))
    ∷ (TAGGED, tagged (is_so given 0) (part_in given 0) (text_in given 0))
    ∷ (OF_DEFAULT, of_default (text_in given 0) (part_in given 0))
    ∷ (ABBREVIATION, abbreviation (number_in given 0))
    ∷ (PARAMETER, parameter (number_in given 0))
    ∷ (DECLARING, declaring (part_in given 0) (part_in given 1))
    ∷ (BUILTIN, builtin (number_in given 0 ∷ []))
    ∷ (BUILTIN_WITH_D, builtin (68 ∷ number_in given 0 ∷ []))
    ∷ (SIZED_FLOAT, sized_float (text_in given 0) (number_in given 0))
    ∷ (CONSTRAINED, constrained (number_in given 0) (part_in given 0))
    ∷ (VENDOR, vendor (text_in given 0))
    ∷ (POINTER, pointer (part_in given 0))
    ∷ (LVALUE, lvalue (part_in given 0))
    ∷ (RVALUE, rvalue (part_in given 0))
    ∷ (ARRAY, array (text_in given 0) (part_in given 0))
    ∷ (BOUNDED, bounded (part_in given 0) (part_in given 1))
    ∷ (MEMBER_POINTER, member_pointer (part_in given 0) (part_in given 1))
    ∷ (FUNCTION_TYPE, function_type (c_linkage_in (number_in given 0)) (noexcept_in (number_in given 0)) (mark_in (number_in given 1)) (part_in given 0) (part_in given 1))
    ∷ (QUALIFIED, qualified (qualifiers_in (number_in given 0)) (part_in given 0))
    ∷ (VECTOR, vector (text_in given 0) (part_in given 0))
    ∷ (COMPLEX, complex (part_in given 0))
    ∷ (DECLTYPE, decltype (part_in given 0))
    ∷ (EXPANSION, expansion (part_in given 0))
    ∷ (INTEGER, integer (part_in given 0) (signed_in given 0))
    ∷ (BOOLEAN, boolean (is_so given 0))
    ∷ (NULL_POINTER, null_pointer)
    ∷ (ENCODING_LITERAL, encoding_literal (part_in given 0))
    ∷ (ADDRESS_OF, address_of (part_in given 0))
    ∷ (OPERATION, operation (number_in given 0) (number_in given 1) (part_in given 0) (part_in given 1))
    ∷ (FUNCTION_PARAMETER, function_parameter (text_in given 0))
    ∷ (PACK, pack (part_in given 0))
    ∷ (NO_NODE, part_in given 0)
    ∷ names_in ALONE given (part_in given 0) alone ++ names_in IN_STD given (part_in given 0) in_std ++ names_in NESTED given (part_in given 1) (within (part_in given 0))
    )

-- The production over these fields. The offsets are those of a thunk that has more than two.
abbrev pub tree_from : Fields → (offsets : Option Thunk) → Term
tree_from given offsets = if given.production == WIDE_THUNK then thunk (thunk_in offsets) (part_in given 0) else narrow_tree_from given
