-- What productions denote: parameters, encodings, references, signatures.
use Rattle.std.specs.Prelude.{ℕ, List, [], ◌∷◌, Bool, true, false, cond, ◌||◌, ◌&&◌, nat_eq, Option, Some, None}
use Rattle.cpp_grammar.specs.Term.{RefQualifier, Term, function, object, of_default, operator, declaring, builtin, lvalue, rvalue, encoding_literal, address_of, operation, nil, list, absent}
use Rattle.cpp_grammar.specs.Scope.{has_return_type}
use Rattle.cpp_grammar.specs.Values.{Value, nothing_there, letter, text, tree, piece, named, pair, signature, tree_of, qualifiers_of, ref_of, normal}

-- a lone void means no parameters
unfoldable pub is_void : Term → Bool
is_void (builtin (b ∷ [])) = nat_eq b 118
is_void _ = false

unfoldable pub is_nil : Term → Bool
is_nil nil = true
is_nil _ = false

unfoldable pub parameters : Term → Term
parameters (list first rest) = elim (is_void first && is_nil rest) [ true ↦ nil | false ↦ list first rest ]
parameters t = t

-- The declaration of one more of a lambda's parameters, before the lambda's first type. The declaration is the first value's
-- tree; the second value is that type, or a pair of that type and the list of the other declarations.
unfoldable pub declared_first : Value → Value → Value
declared_first head (pair key first heads) = pair key first (list (tree_of head) heads)
declared_first head first = pair 84 (tree_of first) (list (tree_of head) nil)

-- The signature of a lambda with these parameters. The declarations of its own parameters are with the first of its types.
unfoldable pub signature_with : (first : Value) → (parameters : Term) → Term
signature_with (pair key first heads) parameters = declaring heads parameters
signature_with first parameters = parameters

-- an encoding without items is data; with items it's a function
unfoldable pub encoding_of : Value → Term → Term
encoding_of name (list first rest) =
    elim (has_return_type (tree_of name)) [
      | true ↦ function (tree_of name) (qualifiers_of name) (ref_of name) first (parameters rest)
      | false ↦ function (tree_of name) (qualifiers_of name) (ref_of name) absent (parameters (list first rest))
    ]
encoding_of name _ = object (tree_of name) (qualifiers_of name) (ref_of name)

unfoldable pub listed_value : Value → Value
listed_value v = tree (tree_of v) true

unfoldable pub discriminator_of : Value → Option (List ℕ)
discriminator_of (text digits) = Some digits
discriminator_of _ = None

-- one more parameter before those of a signature
unfoldable pub with_item : Term → Value → Value
with_item t rest = signature (list t (tree_of rest)) (ref_of rest)

unfoldable pub reference_to : ℕ → Value → Value
reference_to byte v = tree (cond (nat_eq byte 82) (lvalue (tree_of v)) (rvalue (tree_of v))) false

unfoldable pub signature_or : RefQualifier → Value → Value
signature_or ref nothing_there = signature nil ref
signature_or ref v = v

-- an entity in a default argument, with the qualifiers that belong to the encoding
unfoldable pub default_entity : (digits : List ℕ) → Value → Value
default_entity digits entity = named (of_default (normal digits) (tree_of entity)) (qualifiers_of entity) (ref_of entity)

-- the operator of two letters that begins with l, or a literal operator
unfoldable pub operator_or_literal : ℕ → Value → Value
operator_or_literal first (letter second) = piece (operator first second)
operator_or_literal first v = v

-- ## Expressions

-- the letters of an operator
unfoldable pub first_letter : Term → ℕ
first_letter (operator first second) = first
first_letter _ = 0

unfoldable pub second_letter : Term → ℕ
second_letter (operator first second) = second
second_letter _ = 0

unfoldable pub is_code : (a b first second : ℕ) → Bool
is_code a b first second = nat_eq first a && nat_eq second b

-- the address of an encoding is a tree of its own
unfoldable pub operation_or_address : (is_address : Bool) → (first second : ℕ) → (left right : Term) → Term
operation_or_address true first second (encoding_literal e) right = address_of e
operation_or_address is_address first second left right = operation first second left right

-- The operation of the operator with this first letter, this second letter and these operands. A value that is already
-- an expression stays as it is.
unfoldable pub operation_by : (first : ℕ) → Value → Value
operation_by first (pair second left right) = tree (operation_or_address (is_code 97 100 first second) first second left right) true
operation_by first v = v

unfoldable pub is_comma : Term → Bool
is_comma (operation first second left right) = is_code 99 109 first second
is_comma _ = false

-- a comma, > or >>, which would seem to continue or to end template arguments
unfoldable pub ends_arguments : Term → Bool
ends_arguments (operation first second left right) = is_code 99 109 first second || is_code 103 116 first second || is_code 114 115 first second
ends_arguments _ = false

unfoldable pub in_parentheses : Term → Term
in_parentheses t = operation 40 41 t absent

-- an expression as a template argument
unfoldable pub enclosed_argument : Value → Value
enclosed_argument v = elim (ends_arguments (tree_of v)) [ true ↦ tree (in_parentheses (tree_of v)) true | false ↦ v ]

-- an expression as an element of a list
unfoldable pub enclosed_element : Term → Term
enclosed_element t = elim (is_comma t) [ true ↦ in_parentheses t | false ↦ t ]
