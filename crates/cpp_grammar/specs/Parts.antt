-- The parts of what is printed: each item of a C++ tree has at most eight parts: texts that aren't empty, and further
-- items.
use Rattle.std.specs.Prelude.{ℕ, zero, suc, ◌+◌, ◌^◌, List, [], ◌∷◌, ◌++◌, length, drop, Bool, true, false, cond, ◌||◌, ◌&&◌, nat_eq, nat_le, nat_lt, Option, Some, None, codes, decimal}
use Prim.Native.String.{String}
use Rattle.sym_print.specs.declared.detail.Detail.{Detail}
use Rattle.sym_print.specs.Details.{has_arguments, has_parameters}
use Rattle.sym_print.specs.Unfold.{PartOf, text, sub}
use Rattle.cpp_grammar.specs.Texts.{same_bytes, look_up, builtin_texts, operator_texts, abbreviation_texts, special_texts, named_special_texts, literal_endings}
use Rattle.cpp_grammar.specs.declared.operand.Operand.{Operand}
use Rattle.cpp_grammar.specs.Operations.{UNARY, PRIMARY, Operation, operations, operation_of_code}
use Rattle.cpp_grammar.specs.Term.{Qualifiers, RefQualifier, any_value, lvalue_only, rvalue_only, explicit_object, Signed, non_virtual, by_table, Thunk, adjusting, covariant, Term, symbol, function, object, special, thunk, of_name, construction, clone, alone, in_std, within, instance, local, holder, tagged, of_default, abbreviation, parameter, source, operator, literal_operator, constructor, destructor, inheriting, lambda, generic_lambda, unnamed, string_literal, conversion, enumeration, bindings, declaring, builtin, sized_float, constrained, vendor, pointer, lvalue, rvalue, array, bounded, member_pointer, function_type, qualified, vector, complex, decltype, expansion, integer, boolean, null_pointer, encoding_literal, address_of, operation, function_parameter, pack, nil, list, absent}
use Rattle.cpp_grammar.specs.Scope.{element, arguments_of, without_tags}
use Rattle.cpp_grammar.specs.Items.{Form, root, full, bare, left, right, low, base, piece, first, more, expand, declared, in_none, Context, Item, closed, signature_in, argument, head, is_reference, is_funarr, packs_of, is_empty}

abbrev pub as_item : Form → Context → Term → PartOf Item
as_item form context t = sub (record { tree = t; form = form; context = context })

abbrev pub says : String → PartOf Item
says t = text (codes t)

-- an empty text isn't a part
unfoldable pub text_part : List ℕ → List (PartOf Item)
text_part [] = []
text_part (b ∷ bs) = text (b ∷ bs) ∷ []

-- an empty list isn't a part
unfoldable pub list_part : Form → Context → Term → List (PartOf Item)
list_part form context nil = []
list_part form context t = as_item form context t ∷ []

unfoldable pub qualifier_text : Qualifiers → List ℕ
qualifier_text q = cond q.const (codes " const") [] ++ cond q.volatile (codes " volatile") [] ++ cond q.restrict (codes " restrict") []

unfoldable pub ref_text : RefQualifier → List ℕ
ref_text any_value = []
ref_text lvalue_only = codes " &"
ref_text rvalue_only = codes " &&"
ref_text explicit_object = []

-- what begins the parameters: the first of them may be the object
unfoldable pub begins_parameters : RefQualifier → Term → List ℕ
begins_parameters explicit_object nil = codes "("
begins_parameters explicit_object parameters = codes "(this "
begins_parameters _ parameters = codes "("

-- the text with its first byte, a blank, moved to the end; a qualified type has a qualifier
unfoldable pub blank_last : List ℕ → List ℕ
blank_last [] = []
blank_last (b ∷ bs) = bs ++ (b ∷ [])

unfoldable pub begins_with : List ℕ → List ℕ → Bool
begins_with [] ys = true
begins_with (a ∷ xs) [] = false
begins_with (a ∷ xs) (b ∷ ys) = nat_eq a b && begins_with xs ys

unfoldable pub source_text : List ℕ → List ℕ
source_text name = elim (begins_with (codes "_GLOBAL__N") name) [ true ↦ codes "(anonymous namespace)" | false ↦ name ]

-- the parts of a lambda that has parameters of its own: the declarations of these come first
unfoldable pub generic_parts : Context → (signature : Term) → (number : ℕ) → List (PartOf Item)
generic_parts context (declaring heads parameters) number =
    (says "{lambda<" ∷ as_item (declared 0) context heads ∷ says ">(" ∷ list_part first context parameters) ++ (says ")#" ∷ text (decimal number) ∷ says "}" ∷ [])
generic_parts context parameters number =
    (says "{lambda(" ∷ list_part first context parameters) ++ (says ")#" ∷ text (decimal number) ∷ says "}" ∷ [])

-- the parts of a piece of a name
unfoldable pub piece_parts : Context → Term → List (PartOf Item)
piece_parts context (source internal name) = text (source_text name) ∷ []
piece_parts context (operator a b) = text (codes "operator" ++ look_up (a ∷ b ∷ []) operator_texts) ∷ []
piece_parts context (literal_operator name) = says "operator\"\" " ∷ text name ∷ []
piece_parts context (lambda parameters number) =
    (says "{lambda(" ∷ list_part first context parameters) ++ (says ")#" ∷ text (decimal number) ∷ says "}" ∷ [])
piece_parts context (generic_lambda parameters number) = generic_parts (signature_in context parameters) parameters number
piece_parts context (unnamed number) = says "{unnamed type#" ∷ text (decimal number) ∷ says "}" ∷ []
piece_parts context string_literal = says "string literal" ∷ []
piece_parts context (conversion t) = says "operator " ∷ as_item left context t ∷ as_item right context t ∷ []
piece_parts context (enumeration t name) = says "{enum:" ∷ as_item left context t ∷ as_item right context t ∷ says "{" ∷ text name ∷ says "}}" ∷ []
piece_parts context (bindings names) = says "[" ∷ list_part first context names ++ (says "]" ∷ [])
piece_parts context _ = []

-- a prefix is a name, or the enclosing encoding, which is printed in the closed context
unfoldable pub prefix_item : Context → Term → PartOf Item
prefix_item context (function name q r returned parameters) = as_item bare closed (function name q r returned parameters)
prefix_item context (object name q r) = as_item bare closed (object name q r)
prefix_item context (special letter t) = as_item bare closed (special letter t)
prefix_item context (thunk kind e) = as_item bare closed (thunk kind e)
prefix_item context (of_name letter name q r) = as_item bare closed (of_name letter name q r)
prefix_item context (construction derived digits parent) = as_item bare closed (construction derived digits parent)
prefix_item context (clone letter e) = as_item bare closed (clone letter e)
prefix_item context (holder name) = as_item left context name
prefix_item context t = as_item left context t

-- a prefix before a piece, and what is between them
unfoldable pub before_piece : Context → Term → List (PartOf Item)
before_piece context absent = []
before_piece context prefix = prefix_item context prefix ∷ says "::" ∷ []

-- a piece of a name that is attached to a module
unfoldable pub attached_parts : Context → (prefix piece : Term) → (module_name : Term) → List (PartOf Item)
attached_parts context prefix p module_name = before_piece context prefix ++ (as_item piece context p ∷ says "@" ∷ as_item left context module_name ∷ [])

-- a prefix that is an operation W is the module that the piece is attached to; an operation W@ is a further prefix and the
-- module
unfoldable pub component_parts : Context → (prefix piece : Term) → List (PartOf Item)
component_parts context (operation a b x y) p = elim (nat_eq a 87) [
  | true ↦ elim (nat_eq b 64) [ true ↦ attached_parts context x p y | false ↦ attached_parts context absent p (operation a b x y) ]
  | false ↦ prefix_item context (operation a b x y) ∷ says "::" ∷ as_item piece context p ∷ []
]
component_parts context prefix p = prefix_item context prefix ∷ says "::" ∷ as_item piece context p ∷ []

unfoldable pub within_parts : Context → Term → Term → List (PartOf Item)
within_parts context prefix (constructor digit) = as_item left context prefix ∷ says "::" ∷ as_item base context prefix ∷ []
within_parts context prefix (inheriting digit class) = as_item left context prefix ∷ says "::" ∷ as_item base context prefix ∷ []
within_parts context prefix (destructor digit) = as_item left context prefix ∷ says "::~" ∷ as_item base context prefix ∷ []
within_parts context prefix p = component_parts context prefix p

-- The last piece of a template name. A parameter, an abbreviation or an instance has none.
unfoldable pub last_piece : Term → Term
last_piece (alone p) = p
last_piece (in_std p) = p
last_piece (within prefix p) = p
last_piece (local encoding entity discriminator) = last_piece entity
last_piece (of_default digits entity) = last_piece entity
last_piece _ = absent

-- there is a blank before the < of arguments after the operators << and <
unfoldable pub opening_text : Term → List ℕ
opening_text (operator a b) = cond (same_bytes (a ∷ b ∷ []) (codes "ls") || same_bytes (a ∷ b ∷ []) (codes "lt")) (codes " <") (codes "<")
opening_text _ = codes "<"

unfoldable pub instance_parts : (arguments_shown : Bool) → Context → Term → Term → List (PartOf Item)
instance_parts false context template arguments = as_item left context template ∷ []
instance_parts true context template arguments =
    (as_item left context template ∷ text (opening_text (last_piece template)) ∷ list_part first context arguments) ++ (says ">" ∷ [])

-- the left parts of the inner type and the mark, with a ( before the mark if that type is a function or an array
unfoldable pub marked_parts : Context → Term → String → List (PartOf Item)
marked_parts context t mark = elim (is_funarr (head context t)) [
  | true ↦ as_item left context t ∷ text (codes "(" ++ codes mark) ∷ []
  | false ↦ as_item left context t ∷ says mark ∷ []
]

unfoldable pub reference_parts : Context → Form → Term → String → List (PartOf Item)
reference_parts context form t mark = elim (is_reference (head context t)) [
  | true ↦ as_item form context t ∷ []
  | false ↦ marked_parts context t mark
]

unfoldable pub qualified_left : Context → Qualifiers → Term → List (PartOf Item)
qualified_left context q (function_type c_linkage noexcept ref returned parameters) = as_item left context (function_type c_linkage noexcept ref returned parameters) ∷ []
qualified_left context q t = elim (is_reference (head context t)) [
  | true ↦ as_item left context t ∷ []
  | false ↦ elim (is_funarr (head context t)) [
    | true ↦ as_item left context t ∷ text_part (blank_last (qualifier_text q))
    | false ↦ as_item left context t ∷ text_part (qualifier_text q)
  ]
]

unfoldable pub expansion_parts : Context → Term → Option ℕ → List (PartOf Item)
expansion_parts context pattern None = as_item left context pattern ∷ as_item right context pattern ∷ says "..." ∷ []
expansion_parts context pattern (Some zero) = []
expansion_parts context pattern (Some (suc m)) = as_item (expand 0) context pattern ∷ []

unfoldable pub sign_part : Signed → List (PartOf Item)
sign_part n = cond n.negative (says "-" ∷ []) []

-- the types whose literals need no cast
unfoldable pub is_plain_integer : Term → Bool
is_plain_integer (builtin (c ∷ [])) = nat_eq c 105 || nat_eq c 106 || nat_eq c 108 || nat_eq c 109 || nat_eq c 120 || nat_eq c 121
is_plain_integer _ = false

unfoldable pub builtin_code : Term → List ℕ
builtin_code (builtin code) = code
builtin_code _ = []

unfoldable pub integer_parts : Context → Term → Signed → List (PartOf Item)
integer_parts context t n = elim (is_plain_integer t) [
  | true ↦ sign_part n ++ (text n.digits ∷ text_part (look_up (builtin_code t) literal_endings))
  | false ↦ (says "(" ∷ as_item left context t ∷ as_item right context t ∷ says ")" ∷ []) ++ sign_part n ++ (text n.digits ∷ [])
]

unfoldable pub member_parts : Context → Term → Term → List (PartOf Item)
member_parts context class t = elim (is_funarr (head context t)) [
  | true ↦ as_item left context t ∷ says "(" ∷ as_item left context class ∷ says "::*" ∷ []
  | false ↦ as_item left context t ∷ says " " ∷ as_item left context class ∷ says "::*" ∷ []
]

unfoldable pub array_left : Context → Term → List (PartOf Item)
array_left context t = elim (is_funarr (head context t)) [
  | true ↦ as_item left context t ∷ []
  | false ↦ as_item left context t ∷ says " " ∷ []
]

-- ## Parameters that a lambda declares

-- what the name of a parameter begins with, by the letter of its declaration: of a value, of a template, or of a type
unfoldable pub letter_name : ℕ → List ℕ
letter_name letter = cond (nat_eq letter 110) (codes "$N") (cond (nat_eq letter 116) (codes "$TT") (codes "$T"))

unfoldable pub declared_letter : Term → ℕ
declared_letter (operation a b x y) = b
declared_letter _ = 0

-- likewise by the declaration, which may be that of a pack
unfoldable pub front_of_name : Term → List ℕ
front_of_name (operation a b x y) = cond (nat_eq b 112) (letter_name (declared_letter x)) (letter_name b)
front_of_name _ = letter_name 0

-- the name of the parameter with this number and this declaration; a parameter past the declared ones is auto
unfoldable pub name_of_own : (number : ℕ) → Term → List (PartOf Item)
name_of_own k absent = text (look_up (68 ∷ 97 ∷ []) builtin_texts) ∷ []
name_of_own k head = text (front_of_name head) ∷ text (decimal k) ∷ []

-- the name of a parameter in a form: there is nothing to the right of a name
unfoldable pub own_name : Form → (number : ℕ) → Term → List (PartOf Item)
own_name right k head = []
own_name form k head = name_of_own k head

-- what a parameter prints: its name, if a signature declares it, or else what its argument prints
unfoldable pub parameter_parts : Form → (number : ℕ) → (argument : Term) → List (PartOf Item)
parameter_parts form k (declaring heads parameters) = own_name form k (element heads k)
parameter_parts form k argument = as_item form closed argument ∷ []

unfoldable pub comma_before : ℕ → List (PartOf Item)
comma_before zero = []
comma_before (suc i) = says ", " ∷ []

-- the declarations after the one with this number, if the next number has 32 bits
unfoldable pub declared_rest : Context → Term → (number : ℕ) → List (PartOf Item)
declared_rest context rest k = elim (nat_lt (k + 1) (2 ^ 32)) [ true ↦ list_part (declared (k + 1)) context rest | false ↦ [] ]

-- the declarations of a lambda's parameters from this number on, each with the parameter's name
unfoldable pub declared_parts : Context → Term → (number : ℕ) → List (PartOf Item)
declared_parts context (list e rest) k =
    comma_before k ++ (as_item left context e ∷ says " " ∷ text (front_of_name e) ∷ text (decimal k) ∷ []) ++ declared_rest context rest k
declared_parts context _ k = []

unfoldable pub float_parts : (digits : List ℕ) → (end : ℕ) → List (PartOf Item)
float_parts digits end = elim (nat_eq end 98) [
  | true ↦ says "std::bfloat16_t" ∷ []
  | false ↦ elim (nat_eq end 120) [ true ↦ says "_Float" ∷ text digits ∷ says "x" ∷ [] | false ↦ says "_Float" ∷ text digits ∷ [] ]
]

-- the text after a concept's name
unfoldable pub placeholder_text : (letter : ℕ) → List ℕ
placeholder_text letter = elim (nat_eq letter 107) [ true ↦ codes " auto" | false ↦ codes " decltype(auto)" ]

-- ## Expressions

-- an operation that isn't in the table prints nothing
abbrev pub no_operation : Operation
no_operation = record { code = []; precedence = PRIMARY; front = []; left = Operand.NotPrinted; between = []; right = Operand.NotPrinted; back = [] }

-- how the operation of two letters is printed
unfoldable pub printed : (a b : ℕ) → Operation
printed a b = elim (operation_of_code (a ∷ b ∷ []) operations) [ Some o ↦ o | None ↦ no_operation ]

-- what is neither an operation nor an address needs no parentheses
unfoldable pub precedence_of : Term → ℕ
precedence_of (operation a b x y) = (printed a b).precedence
precedence_of (address_of e) = UNARY
precedence_of _ = PRIMARY

unfoldable pub operand_parts : Context → Operand → Term → List (PartOf Item)
operand_parts context Operand.NotPrinted t = []
operand_parts context Operand.AsItIs t = as_item left context t ∷ []
operand_parts context Operand.AsType t = as_item left context t ∷ as_item right context t ∷ []
operand_parts context Operand.AsList t = list_part first context t
operand_parts context (Operand.From least) t = elim (nat_le least (precedence_of t)) [
  | true ↦ says "(" ∷ as_item left context t ∷ says ")" ∷ []
  | false ↦ as_item left context t ∷ []
]

unfoldable pub operation_parts : Context → Operation → Term → Term → List (PartOf Item)
operation_parts context o x y =
    text_part o.front ++ (operand_parts context o.left x ++ (text_part o.between ++ (operand_parts context o.right y ++ text_part o.back)))

-- the most parts of an operand, and of an operation
abbrev pub most_parts : Operand → ℕ
most_parts Operand.NotPrinted = 0
most_parts Operand.AsItIs = 1
most_parts Operand.AsType = 2
most_parts Operand.AsList = 1
most_parts (Operand.From least) = 3

abbrev pub most_of : Operation → ℕ
most_of o = length (text_part o.front) + most_parts o.left + length (text_part o.between) + most_parts o.right + length (text_part o.back)

-- the entity of a local name; its default argument isn't printed
unfoldable pub entity_of : Term → Term
entity_of (of_default digits entity) = entity
entity_of entity = entity

unfoldable pub left_parts : Detail → Context → Term → List (PartOf Item)
left_parts d context (alone p) = piece_parts context p
left_parts d context (in_std p) = says "std::" ∷ as_item piece context p ∷ []
left_parts d context (within prefix p) = within_parts context prefix p
left_parts d context (instance template arguments) = instance_parts (has_arguments d) context template arguments
left_parts d context (local encoding entity discriminator) = as_item left context (entity_of entity) ∷ []
left_parts d context (holder name) = as_item left context name ∷ []
left_parts d context (tagged of_structor name tag) = as_item left context name ∷ says "[abi:" ∷ text tag ∷ says "]" ∷ []
left_parts d context (abbreviation letter) = text (look_up (letter ∷ []) abbreviation_texts) ∷ []
left_parts d context (parameter k) = parameter_parts left k (argument context k)
left_parts d context (builtin code) = text (look_up code builtin_texts) ∷ []
left_parts d context (sized_float digits end) = float_parts digits end
left_parts d context (constrained letter concept) = as_item left context concept ∷ text (placeholder_text letter) ∷ []
left_parts d context (vendor name) = text (source_text name) ∷ []
left_parts d context (pointer t) = marked_parts context t "*"
left_parts d context (lvalue t) = reference_parts context low t "&"
left_parts d context (rvalue t) = reference_parts context left t "&&"
left_parts d context (array digits t) = array_left context t
left_parts d context (bounded bound t) = array_left context t
left_parts d context (function_type c_linkage noexcept ref returned parameters) = as_item left context returned ∷ says " " ∷ []
left_parts d context (member_pointer class t) = member_parts context class t
left_parts d context (qualified q t) = qualified_left context q t
left_parts d context (vector digits t) = as_item left context t ∷ says " __vector(" ∷ text digits ∷ says ")" ∷ []
left_parts d context (complex t) = as_item left context t ∷ says " _Complex" ∷ []
left_parts d context (decltype e) = says "decltype(" ∷ as_item left context e ∷ says ")" ∷ []
left_parts d context (expansion pattern) = expansion_parts context pattern (packs_of context pattern)
left_parts d context (operation a b x y) = operation_parts context (printed a b) x y
left_parts d context (function_parameter digits) = says "fp" ∷ text_part digits
left_parts d context (pack elements) = list_part first context elements
left_parts d context (integer t n) = integer_parts context t n
left_parts d context (boolean b) = text (cond b (codes "true") (codes "false")) ∷ []
left_parts d context null_pointer = says "nullptr" ∷ []
left_parts d context (encoding_literal e) = as_item bare closed e ∷ []
left_parts d context (address_of e) = says "&" ∷ as_item bare closed e ∷ []
left_parts d context _ = []

-- a reference under a reference is printed low, as an lvalue reference
unfoldable pub low_parts : Detail → Context → Term → List (PartOf Item)
low_parts d context (lvalue t) = reference_parts context low t "&"
low_parts d context (rvalue t) = reference_parts context low t "&"
low_parts d context (qualified q t) = as_item low context t ∷ []
low_parts d context (parameter k) = parameter_parts low k (argument context k)
low_parts d context t = left_parts d context t

unfoldable pub function_right : Context → List ℕ → RefQualifier → Bool → Term → Term → List (PartOf Item)
function_right context qualifiers ref noexcept returned parameters =
    (says "(" ∷ list_part first context parameters)
    ++ (says ")" ∷ text_part (qualifiers ++ ref_text ref ++ cond noexcept (codes " noexcept") []))
    ++ (as_item right context returned ∷ [])

unfoldable pub closing_right : Context → Term → List (PartOf Item)
closing_right context t = elim (is_funarr (head context t)) [
  | true ↦ says ")" ∷ as_item right context t ∷ []
  | false ↦ as_item right context t ∷ []
]

unfoldable pub qualified_right : Context → Qualifiers → Term → List (PartOf Item)
qualified_right context q (function_type c_linkage noexcept ref returned parameters) = function_right context (qualifier_text q) ref noexcept returned parameters
qualified_right context q t = as_item right context t ∷ []

unfoldable pub right_parts : Context → Term → List (PartOf Item)
right_parts context (pointer t) = closing_right context t
right_parts context (lvalue t) = closing_right context t
right_parts context (rvalue t) = closing_right context t
right_parts context (member_pointer class t) = closing_right context t
right_parts context (array digits t) = (says "[" ∷ text_part digits) ++ (says "]" ∷ as_item right context t ∷ [])
right_parts context (bounded bound t) = says "[" ∷ as_item left context bound ∷ says "]" ∷ as_item right context t ∷ []
right_parts context (function_type c_linkage noexcept ref returned parameters) = function_right context [] ref noexcept returned parameters
right_parts context (qualified q t) = qualified_right context q t
right_parts context (vector digits t) = as_item right context t ∷ []
right_parts context (complex t) = as_item right context t ∷ []
right_parts context (parameter k) = parameter_parts right k (argument context k)
right_parts context _ = []

unfoldable pub base_within : Context → Term → Term → List (PartOf Item)
base_within context prefix (constructor digit) = as_item base context prefix ∷ []
base_within context prefix (inheriting digit class) = as_item base context prefix ∷ []
base_within context prefix (destructor digit) = as_item base context prefix ∷ []
base_within context prefix p = piece_parts context p

-- the piece of a name, which has no node of its own
unfoldable pub own_piece : Term → Term
own_piece (alone p) = p
own_piece (in_std p) = p
own_piece (within prefix p) = p
own_piece t = t

-- The name of a class under its tags: the piece of its name without them. If the name is itself that of a constructor, its
-- tags are examined one by one.
unfoldable pub base_tagged : Context → (of_structor : Bool) → (name : Term) → List (PartOf Item)
base_tagged context true name = as_item base context name ∷ []
base_tagged context false name = piece_parts context (own_piece (without_tags name))

-- the name of a constructor's class
unfoldable pub base_parts : Detail → Context → Term → List (PartOf Item)
base_parts d context (alone p) = piece_parts context p
base_parts d context (in_std p) = piece_parts context p
base_parts d context (within prefix p) = base_within context prefix p
base_parts d context (instance template arguments) = as_item base context template ∷ []
base_parts d context (local encoding entity discriminator) = as_item base context (entity_of entity) ∷ []
base_parts d context (holder name) = as_item base context name ∷ []
base_parts d context (tagged of_structor name tag) = base_tagged context of_structor name
base_parts d context (abbreviation letter) = text (drop 5 (look_up (letter ∷ []) abbreviation_texts)) ∷ []
base_parts d context (parameter k) = parameter_parts base k (argument context k)
base_parts d context t = left_parts d context t

-- the context of the types of an encoding with this name
unfoldable pub types_of : Term → Context
types_of name = record { scope = arguments_of name; index = None; in_signature = in_none }

unfoldable pub encoding_text : Qualifiers → RefQualifier → List ℕ
encoding_text q ref = qualifier_text q ++ ref_text ref

-- a function without its return type, or just its name
unfoldable pub function_bare : (parameters_shown : Bool) → Term → Qualifiers → RefQualifier → Term → List (PartOf Item)
function_bare false name q ref parameters = as_item left closed name ∷ []
function_bare true name q ref parameters =
    (as_item left closed name ∷ text (begins_parameters ref parameters) ∷ list_part first (types_of name) parameters) ++ (says ")" ∷ text_part (encoding_text q ref))

unfoldable pub function_full : (parameters_shown : Bool) → Term → Qualifiers → RefQualifier → Term → Term → List (PartOf Item)
function_full false name q ref returned parameters = function_bare false name q ref parameters
function_full true name q ref absent parameters = function_bare true name q ref parameters
function_full true name q ref returned parameters =
    (as_item left (types_of name) returned ∷ says " " ∷ []) ++ function_bare true name q ref parameters ++ (as_item right (types_of name) returned ∷ [])

unfoldable pub thunk_text : Thunk → List ℕ
thunk_text (adjusting (non_virtual a)) = codes "non-virtual thunk to "
thunk_text (adjusting (by_table a b)) = codes "virtual thunk to "
thunk_text (covariant a b) = codes "covariant return thunk to "

-- t for a function within a transaction, n for one outside
unfoldable pub clone_text : (letter : ℕ) → List ℕ
clone_text letter = elim (nat_eq letter 116) [ true ↦ codes "transaction clone for " | false ↦ codes "non-transaction clone for " ]

abbrev pub construction_parts : (derived parent : Term) → List (PartOf Item)
construction_parts derived parent =
    says "construction vtable for " ∷ as_item left closed parent ∷ as_item right closed parent ∷ says "-in-" ∷ as_item left closed derived ∷ as_item right closed derived ∷ []

unfoldable pub full_parts : Detail → Term → List (PartOf Item)
full_parts d (function name q ref returned parameters) = function_full (has_parameters d) name q ref returned parameters
full_parts d (object name q ref) = as_item left closed name ∷ text_part (encoding_text q ref)
full_parts d (special letter t) = text (look_up (letter ∷ []) special_texts) ∷ as_item left closed t ∷ as_item right closed t ∷ []
full_parts d (thunk kind e) = text (thunk_text kind) ∷ as_item full closed e ∷ []
full_parts d (of_name letter name q ref) = text (look_up (letter ∷ []) named_special_texts) ∷ as_item left closed name ∷ text_part (encoding_text q ref)
full_parts d (construction derived digits parent) = construction_parts derived parent
full_parts d (clone letter e) = text (clone_text letter) ∷ as_item full closed e ∷ []
full_parts d _ = []

unfoldable pub bare_parts : Detail → Term → List (PartOf Item)
bare_parts d (function name q ref returned parameters) = function_bare (has_parameters d) name q ref parameters
bare_parts d e = full_parts d e

unfoldable pub root_parts : Term → List (PartOf Item)
root_parts (symbol e []) = as_item full closed e ∷ []
root_parts (symbol e (b ∷ bs)) = as_item full closed e ∷ says " (" ∷ text (b ∷ bs) ∷ says ")" ∷ []
root_parts _ = []

-- an empty element is skipped
unfoldable pub first_parts : Context → Term → List (PartOf Item)
first_parts context (list e rest) = elim (is_empty context e) [
  | true ↦ list_part first context rest
  | false ↦ (as_item left context e ∷ as_item right context e ∷ []) ++ list_part more context rest
]
first_parts context _ = []

unfoldable pub more_parts : Context → Term → List (PartOf Item)
more_parts context (list e rest) = elim (is_empty context e) [
  | true ↦ list_part more context rest
  | false ↦ (says ", " ∷ as_item left context e ∷ as_item right context e ∷ []) ++ list_part more context rest
]
more_parts context _ = []

unfoldable pub at_index : ℕ → Context → Context
at_index i context = record { scope = context.scope; index = Some i; in_signature = context.in_signature }

-- whether an index is below the length of the packs; a pattern that is expanded has packs
unfoldable pub is_below : ℕ → Option ℕ → Bool
is_below i None = false
is_below i (Some m) = nat_lt i m

unfoldable pub expand_rest : Context → Term → ℕ → List (PartOf Item)
expand_rest context pattern i = elim (is_below i (packs_of context pattern)) [ true ↦ as_item (expand i) context pattern ∷ [] | false ↦ [] ]

unfoldable pub expand_parts : Context → Term → ℕ → List (PartOf Item)
expand_parts context pattern i =
    comma_before i ++ (as_item left (at_index i context) pattern ∷ as_item right (at_index i context) pattern ∷ []) ++ expand_rest context pattern (i + 1)

unfoldable pub parts_in : Detail → Context → Form → Term → List (PartOf Item)
parts_in d context root t = root_parts t
parts_in d context full t = full_parts d t
parts_in d context bare t = bare_parts d t
parts_in d context left t = left_parts d context t
parts_in d context right t = right_parts context t
parts_in d context low t = low_parts d context t
parts_in d context base t = base_parts d context t
parts_in d context piece t = piece_parts context t
parts_in d context first t = first_parts context t
parts_in d context more t = more_parts context t
parts_in d context (expand i) t = expand_parts context t i
parts_in d context (declared i) t = declared_parts context t i

-- the parts without empty texts; so no tree has an empty text as a part, whether or not it is a symbol's tree
unfoldable pub not_empty : List (PartOf Item) → List (PartOf Item)
not_empty [] = []
not_empty (text [] ∷ ps) = not_empty ps
not_empty (text (b ∷ bs) ∷ ps) = text (b ∷ bs) ∷ not_empty ps
not_empty (sub item ∷ ps) = sub item ∷ not_empty ps

unfoldable pub parts : Detail → Item → List (PartOf Item)
parts d item = not_empty (parts_in d item.context item.form item.tree)
