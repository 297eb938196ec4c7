-- What a tree has in addition to its production: numbers, texts and its parts' trees. The productions are the code's constants.
use Rattle.std.specs.Prelude.{ℕ, List, [], ◌∷◌, Bool, true, false, ◌==◌, if◌then◌else◌, Option, Some, None, slice_get, slice_index, slice_index_or}
use Rattle.sym_core.specs.Value.{value_of}
use Rattle.sym_core.specs.declared.NumberKind.{NumberKind}
use Rattle.rust_tree.specs.declared.tree_production.TheConstants.{CRATE_ROOT, PUNYCODE_CRATE_ROOT, INHERENT_IMPL, TRAIT_IMPL, TRAIT_DEFINITION, NESTED, PUNYCODE_NESTED, GENERIC, NO_ARGUMENTS, LIFETIME_ARGUMENT, CONSTANT_ARGUMENT, TYPE_ARGUMENT, BASIC, PATH_TYPE, ARRAY, SLICE, TUPLE, SHARED_REFERENCE, MUTABLE_REFERENCE, CONST_POINTER, MUT_POINTER, FUNCTION, C_FUNCTION, ABI_FUNCTION, PUNYCODE_ABI_FUNCTION, DYN, NO_TYPES, MORE_TYPES, NO_BOUNDS, MORE_BOUNDS, NO_BINDINGS, MORE_BINDINGS, PUNYCODE_MORE_BINDINGS, INTEGER, BOOLEAN, CHARACTER, PLACEHOLDER, SYMBOL}
use Rattle.rust_tree.specs.Symbol as tree
use Rattle.rust_tree.specs.Tree.{Tree, of_path, of_arguments, of_type, of_types, of_bounds, of_bindings, of_constant, of_symbol}
use Rattle.rust_tree.specs.Nodes.{path_in, arguments_in, type_in, types_in, bounds_in, bindings_in, constant_in}
use Rattle.rust_tree.specs.Hexadecimal.{hexadecimal}

-- a production, its two numbers, the bytes of its two texts, and the trees of its parts
pub record Fields : Type 0 where
  pub production : ℕ
  pub numbers : List ℕ
  pub texts : List (List ℕ)
  pub parts : List Tree

-- ## The fields of a tree

abbrev pub fields : (production first second : ℕ) → (text : List ℕ) → List Tree → Fields
fields production first second text parts = record { production = production; numbers = first ∷ second ∷ []; texts = text ∷ [] ∷ []; parts = parts }

-- one production for a name, and another one for a name in Punycode
abbrev pub by_name : tree.Name → (plain punycode : ℕ) → ℕ
by_name name plain punycode = if name.punycode then punycode else plain

abbrev pub one_if : Bool → ℕ
one_if b = if b then 1 else 0

-- a type as a part: the tree of a path denotes the path as a type too
abbrev pub type_part : tree.Ty → Tree
type_part (tree.path_type path) = of_path path
type_part type = of_type type

abbrev pub other_part : Option tree.Path → List Tree
other_part None = []
other_part (Some path) = of_path path ∷ []

abbrev pub path_fields : tree.Path → Fields
path_fields (tree.crate_root own) = fields (by_name own.name CRATE_ROOT PUNYCODE_CRATE_ROOT) own.disambiguator 0 own.name.bytes []
path_fields (tree.inherent_impl disambiguator path type) = fields INHERENT_IMPL disambiguator 0 [] (of_path path ∷ type_part type ∷ [])
path_fields (tree.trait_impl disambiguator path type implemented) =
    fields TRAIT_IMPL disambiguator 0 [] (of_path path ∷ type_part type ∷ of_path implemented ∷ [])
path_fields (tree.trait_definition type implemented) = fields TRAIT_DEFINITION 0 0 [] (type_part type ∷ of_path implemented ∷ [])
path_fields (tree.nested namespace parent own) =
    fields (by_name own.name NESTED PUNYCODE_NESTED) namespace own.disambiguator own.name.bytes (of_path parent ∷ [])
path_fields (tree.generic parent arguments) = fields GENERIC 0 0 [] (of_path parent ∷ of_arguments arguments ∷ [])

abbrev pub arguments_fields : tree.Arguments → Fields
arguments_fields tree.no_arguments = fields NO_ARGUMENTS 0 0 [] []
arguments_fields (tree.lifetime_argument lifetime rest) = fields LIFETIME_ARGUMENT lifetime 0 [] (of_arguments rest ∷ [])
arguments_fields (tree.constant_argument constant rest) = fields CONSTANT_ARGUMENT 0 0 [] (of_constant constant ∷ of_arguments rest ∷ [])
arguments_fields (tree.type_argument type rest) = fields TYPE_ARGUMENT 0 0 [] (type_part type ∷ of_arguments rest ∷ [])

abbrev pub abi_production : tree.Abi → ℕ
abi_production tree.rust_abi = FUNCTION
abi_production tree.c_abi = C_FUNCTION
abi_production (tree.named_abi name) = by_name name ABI_FUNCTION PUNYCODE_ABI_FUNCTION

abbrev pub abi_text : tree.Abi → List ℕ
abi_text (tree.named_abi name) = name.bytes
abi_text _ = []

abbrev pub type_fields : tree.Ty → Fields
type_fields (tree.basic letter) = fields BASIC letter 0 [] []
type_fields (tree.path_type path) = fields PATH_TYPE 0 0 [] (of_path path ∷ [])
type_fields (tree.array type size) = fields ARRAY 0 0 [] (type_part type ∷ of_constant size ∷ [])
type_fields (tree.slice type) = fields SLICE 0 0 [] (type_part type ∷ [])
type_fields (tree.tuple types) = fields TUPLE 0 0 [] (of_types types ∷ [])
type_fields (tree.shared_reference lifetime type) = fields SHARED_REFERENCE lifetime 0 [] (type_part type ∷ [])
type_fields (tree.mutable_reference lifetime type) = fields MUTABLE_REFERENCE lifetime 0 [] (type_part type ∷ [])
type_fields (tree.const_pointer type) = fields CONST_POINTER 0 0 [] (type_part type ∷ [])
type_fields (tree.mut_pointer type) = fields MUT_POINTER 0 0 [] (type_part type ∷ [])
type_fields (tree.function binder is_unsafe abi parameters returned) =
    fields (abi_production abi) binder (one_if is_unsafe) (abi_text abi) (of_types parameters ∷ type_part returned ∷ [])
type_fields (tree.dyn binder bounds lifetime) = fields DYN binder lifetime [] (of_bounds bounds ∷ [])

abbrev pub types_fields : tree.Tys → Fields
types_fields tree.no_types = fields NO_TYPES 0 0 [] []
types_fields (tree.more_types type rest) = fields MORE_TYPES 0 0 [] (type_part type ∷ of_types rest ∷ [])

abbrev pub bounds_fields : tree.Bounds → Fields
bounds_fields tree.no_bounds = fields NO_BOUNDS 0 0 [] []
bounds_fields (tree.more_bounds path bindings rest) = fields MORE_BOUNDS 0 0 [] (of_path path ∷ of_bindings bindings ∷ of_bounds rest ∷ [])

abbrev pub bindings_fields : tree.Bindings → Fields
bindings_fields tree.no_bindings = fields NO_BINDINGS 0 0 [] []
bindings_fields (tree.more_bindings name type rest) =
    fields (by_name name MORE_BINDINGS PUNYCODE_MORE_BINDINGS) 0 0 name.bytes (type_part type ∷ of_bindings rest ∷ [])

abbrev pub constant_fields : tree.Constant → Fields
constant_fields (tree.integer letter minus magnitude) = fields INTEGER letter (one_if minus) (hexadecimal magnitude) []
constant_fields (tree.boolean truth) = fields BOOLEAN (one_if truth) 0 [] []
constant_fields (tree.character character) = fields CHARACTER character 0 [] []
constant_fields tree.placeholder = fields PLACEHOLDER 0 0 [] []

abbrev pub symbol_fields : tree.Symbol → Fields
symbol_fields symbol = fields SYMBOL 0 0 symbol.suffix (of_path symbol.path ∷ other_part symbol.instantiating)

abbrev pub fields_of : Tree → Fields
fields_of (of_path path) = path_fields path
fields_of (of_arguments arguments) = arguments_fields arguments
fields_of (of_type type) = type_fields type
fields_of (of_types types) = types_fields types
fields_of (of_bounds bounds) = bounds_fields bounds
fields_of (of_bindings bindings) = bindings_fields bindings
fields_of (of_constant constant) = constant_fields constant
fields_of (of_symbol symbol) = symbol_fields symbol

-- ## The tree of fields. A missing field is an empty tree.

abbrev pub number_in : Fields → (k : ℕ) → ℕ
number_in given k = slice_index given.numbers k

abbrev pub text_in : Fields → List ℕ
text_in given = slice_index_or given.texts 0 []

abbrev pub part_in : Fields → (k : ℕ) → Option Tree
part_in given k = slice_get given.parts k

abbrev pub name_in : (punycode : Bool) → Fields → tree.Name
name_in punycode given = record { punycode = punycode; bytes = text_in given }

abbrev pub identifier_in : (punycode : Bool) → (disambiguator : ℕ) → Fields → tree.Identifier
identifier_in punycode disambiguator given = record { disambiguator = disambiguator; name = name_in punycode given }

abbrev pub other_in : Option Tree → Option tree.Path
other_in None = None
other_in (Some part) = Some (path_in (Some part))

abbrev pub function_in : tree.Abi → Fields → tree.Ty
function_in abi given = tree.function (number_in given 0) (number_in given 1 == 1) abi (types_in (part_in given 0)) (type_in (part_in given 1))

abbrev pub binding_in : tree.Name → Fields → tree.Bindings
binding_in name given = tree.more_bindings name (type_in (part_in given 0)) (bindings_in (part_in given 1))

-- the tree that a list has for a production; a placeholder where it has none
abbrev pub tree_at : (production : ℕ) → List (ℕ × Tree) → Tree
tree_at production [] = of_constant tree.placeholder
tree_at production (first ∷ rest) = if production == first.0 then first.1 else tree_at production rest

-- the tree that has this production, these numbers and texts, and these trees as parts
abbrev pub tree_from : Fields → Tree
tree_from given = tree_at given.production (
    (CRATE_ROOT, of_path (tree.crate_root (identifier_in false (number_in given 0) given)))
    ∷ (PUNYCODE_CRATE_ROOT, of_path (tree.crate_root (identifier_in true (number_in given 0) given)))
    ∷ (INHERENT_IMPL, of_path (tree.inherent_impl (number_in given 0) (path_in (part_in given 0)) (type_in (part_in given 1))))
    ∷ (TRAIT_IMPL, of_path (tree.trait_impl (number_in given 0) (path_in (part_in given 0)) (type_in (part_in given 1)) (path_in (part_in given 2))))
    ∷ (TRAIT_DEFINITION, of_path (tree.trait_definition (type_in (part_in given 0)) (path_in (part_in given 1))))
    ∷ (NESTED, of_path (tree.nested (number_in given 0) (path_in (part_in given 0)) (identifier_in false (number_in given 1) given)))
    ∷ (PUNYCODE_NESTED, of_path (tree.nested (number_in given 0) (path_in (part_in given 0)) (identifier_in true (number_in given 1) given)))
    ∷ (GENERIC, of_path (tree.generic (path_in (part_in given 0)) (arguments_in (part_in given 1))))
    ∷ (NO_ARGUMENTS, of_arguments tree.no_arguments)
    ∷ (LIFETIME_ARGUMENT, of_arguments (tree.lifetime_argument (number_in given 0) (arguments_in (part_in given 0))))
    ∷ (CONSTANT_ARGUMENT, of_arguments (tree.constant_argument (constant_in (part_in given 0)) (arguments_in (part_in given 1))))
    ∷ (TYPE_ARGUMENT, of_arguments (tree.type_argument (type_in (part_in given 0)) (arguments_in (part_in given 1))))
    ∷ (BASIC, of_type (tree.basic (number_in given 0)))
    ∷ (PATH_TYPE, of_type (tree.path_type (path_in (part_in given 0))))
    ∷ (ARRAY, of_type (tree.array (type_in (part_in given 0)) (constant_in (part_in given 1))))
    ∷ (SLICE, of_type (tree.slice (type_in (part_in given 0))))
    ∷ (TUPLE, of_type (tree.tuple (types_in (part_in given 0))))
    ∷ (SHARED_REFERENCE, of_type (tree.shared_reference (number_in given 0) (type_in (part_in given 0))))
    ∷ (MUTABLE_REFERENCE, of_type (tree.mutable_reference (number_in given 0) (type_in (part_in given 0))))
    ∷ (CONST_POINTER, of_type (tree.const_pointer (type_in (part_in given 0))))
    ∷ (MUT_POINTER, of_type (tree.mut_pointer (type_in (part_in given 0))))
    ∷ (FUNCTION, of_type (function_in tree.rust_abi given))
    ∷ (C_FUNCTION, of_type (function_in tree.c_abi given))
    ∷ (ABI_FUNCTION, of_type (function_in (tree.named_abi (name_in false given)) given))
    ∷ (PUNYCODE_ABI_FUNCTION, of_type (function_in (tree.named_abi (name_in true given)) given))
    ∷ (DYN, of_type (tree.dyn (number_in given 0) (bounds_in (part_in given 0)) (number_in given 1)))
    ∷ (NO_TYPES, of_types tree.no_types)
    ∷ (MORE_TYPES, of_types (tree.more_types (type_in (part_in given 0)) (types_in (part_in given 1))))
    ∷ (NO_BOUNDS, of_bounds tree.no_bounds)
    ∷ (MORE_BOUNDS, of_bounds (tree.more_bounds (path_in (part_in given 0)) (bindings_in (part_in given 1)) (bounds_in (part_in given 2))))
    ∷ (NO_BINDINGS, of_bindings tree.no_bindings)
    ∷ (MORE_BINDINGS, of_bindings (binding_in (name_in false given) given))
    ∷ (PUNYCODE_MORE_BINDINGS, of_bindings (binding_in (name_in true given) given))
    ∷ (INTEGER, of_constant (tree.integer (number_in given 0) (number_in given 1 == 1) (value_of NumberKind.Hex (text_in given))))
    ∷ (BOOLEAN, of_constant (tree.boolean (number_in given 0 == 1)))
    ∷ (CHARACTER, of_constant (tree.character (number_in given 0)))
    ∷ (PLACEHOLDER, of_constant tree.placeholder)
    ∷ (SYMBOL, of_symbol (record { path = path_in (part_in given 0); instantiating = other_in (part_in given 1); suffix = text_in given }))
    ∷ []
    )
