-- The pressed spelling of what a symbol denotes: the parts of its tree in order. A path, type or constant that equals an earlier one is a
-- reference to the first one that it equals, except for basic types and the unknown constant. Everything else is spelled out.
use Rattle.std.specs.Prelude.{ℕ, zero, suc, ◌-◌, List, [], ◌∷◌, ◌++◌, length, Bool, true, false, if◌then◌else◌, ◌||◌, ◌==◌, Option, Some, None}
use Rattle.sym_core.specs.Number.{is_decimal_digit}
use Rattle.sym_spell.specs.Pressing as spell
use Rattle.sym_spell.specs.Pressing.{◌and◌, text, letter, nothing}
use Rattle.sym_spell.specs.Digits.{digits_in, decimal_digit, digit62}
use Rattle.rust_tree.specs.Symbol as tree
use Rattle.rust_tree.specs.Tree.{Tree, of_path, of_constant}
use Rattle.rust_tree.specs.Fields.{type_part}
use Rattle.rust_tree.specs.Hexadecimal.{hexadecimal}
use Rattle.rust_press.specs.Same.{same_tree}

-- ## What has been spelled out so far

-- a path, type or constant that is spelled out, and the place where its spelling begins
pub record Component : Type 0 where
  pub place : ℕ
  pub own : Tree

-- a spelling; its components are in reverse order
abbrev pub Pressed : Type 0
Pressed = spell.Pressed Component

abbrev pub Pressing : Type 0
Pressing = spell.Pressing Component

-- ## Numbers and names

-- in base 62: 0 has no digit, and digits of value v denote v + 1
abbrev pub digits62 : ℕ → List ℕ
digits62 zero = []
digits62 (suc n) = digits_in 62 digit62 40 n

abbrev pub number62 : ℕ → Pressing
number62 n = text (digits62 n ++ 95 ∷ [])

-- in base 16, zero is the digit 0
abbrev pub digits16 : ℕ → List ℕ
digits16 zero = 48 ∷ []
digits16 (suc n) = hexadecimal (suc n)

abbrev pub number16 : ℕ → Pressing
number16 n = text (digits16 n ++ 95 ∷ [])

-- a separator comes only before a name that begins with a digit or an underscore
abbrev pub separator : List ℕ → List ℕ
separator [] = []
separator (c ∷ cs) = if is_decimal_digit c || (c == 95) then 95 ∷ [] else []

abbrev pub counted : List ℕ → Pressing
counted bytes = text (digits_in 10 decimal_digit 40 (length bytes) ++ separator bytes ++ bytes)

abbrev pub mark_if : Bool → (byte : ℕ) → Pressing
mark_if true byte = letter byte
mark_if false byte = nothing

abbrev pub press_name : tree.Name → Pressing
press_name name = mark_if name.punycode 117 and counted name.bytes

-- nothing for 0; for any other number, the letter and the number less one, so the number 1 has no digit
abbrev pub count_of : (byte : ℕ) → ℕ → Pressing
count_of byte zero = nothing
count_of byte (suc n) = letter byte and number62 n

abbrev pub press_disambiguator : ℕ → Pressing
press_disambiguator = count_of 115

abbrev pub press_binder : ℕ → Pressing
press_binder = count_of 71

abbrev pub identifier_of : ℕ → tree.Name → Pressing
identifier_of zero name = press_name name
identifier_of (suc n) name = letter 115 and number62 n and press_name name

abbrev pub press_identifier : tree.Identifier → Pressing
press_identifier identifier = identifier_of identifier.disambiguator identifier.name

abbrev pub press_lifetime : ℕ → Pressing
press_lifetime lifetime = letter 76 and number62 lifetime

-- the lifetime of a reference; an erased lifetime is left out
abbrev pub some_lifetime : ℕ → Pressing
some_lifetime zero = nothing
some_lifetime (suc n) = press_lifetime (suc n)

abbrev pub press_abi : tree.Abi → Pressing
press_abi tree.rust_abi = nothing
press_abi tree.c_abi = letter 75 and letter 67
press_abi (tree.named_abi name) = letter 75 and press_name name

-- ## References

-- where the first component that is equal to a tree begins
abbrev pub first_place : Tree → List Component → Option ℕ
first_place own [] = None
first_place own (c ∷ cs) =
    elim (first_place own cs) [ Some place ↦ Some place | None ↦ elim (same_tree own c.own) [ true ↦ Some c.place | false ↦ None ] ]

-- a reference to a place: B and the place less two, since a reference counts from the first byte after `_R`
abbrev pub reference : (place : ℕ) → Pressing
reference place = letter 66 and number62 (place - 2)

abbrev pub spelled_out : Tree → Pressing → Pressing
spelled_out own spelling place components =
    let pressed = spelling place components in
    record { bytes = pressed.bytes; components = record { place = place; own = own } ∷ pressed.components }

abbrev pub either : Option ℕ → Pressing → Pressing
either None spelling = spelling
either (Some place) spelling = reference place

abbrev pub component : Tree → Pressing → Pressing
component own spelling place components = either (first_place own components) (spelled_out own spelling) place components

-- ## Trees

abbrev pub spell_constant : tree.Constant → Pressing
spell_constant (tree.integer type minus magnitude) = letter type and mark_if minus 110 and number16 magnitude
spell_constant (tree.boolean truth) = letter 98 and letter (if truth then 49 else 48) and letter 95
spell_constant (tree.character character) = letter 99 and number16 character
spell_constant tree.placeholder = letter 112

-- the unknown constant is always its letter
abbrev pub press_constant : tree.Constant → Pressing
press_constant tree.placeholder = letter 112
press_constant constant = component (of_constant constant) (spell_constant constant)

abbrev pub path_or_reference : tree.Path → Pressing → Pressing
path_or_reference path = component (of_path path)

-- a basic type is always its letter
abbrev pub type_or_reference : tree.Ty → Pressing → Pressing
type_or_reference (tree.basic type) spelling = letter type
type_or_reference type spelling = component (type_part type) spelling

abbrev mutual
  -- a path that is spelled out
  pub spell_path : tree.Path → Pressing
  spell_path (tree.crate_root own) = letter 67 and press_identifier own
  spell_path (tree.inherent_impl disambiguator path type) =
      letter 77 and press_disambiguator disambiguator and path_or_reference path (spell_path path) and type_or_reference type (spell_type type)
  spell_path (tree.trait_impl disambiguator path type implemented) =
      letter 88 and press_disambiguator disambiguator and path_or_reference path (spell_path path) and type_or_reference type (spell_type type)
      and path_or_reference implemented (spell_path implemented)
  spell_path (tree.trait_definition type implemented) =
      letter 89 and type_or_reference type (spell_type type) and path_or_reference implemented (spell_path implemented)
  spell_path (tree.nested namespace parent own) =
      letter 78 and letter namespace and path_or_reference parent (spell_path parent) and press_identifier own
  spell_path (tree.generic path arguments) =
      letter 73 and path_or_reference path (spell_path path) and press_arguments arguments and letter 69

  pub press_arguments : tree.Arguments → Pressing
  press_arguments tree.no_arguments = nothing
  press_arguments (tree.lifetime_argument lifetime rest) = press_lifetime lifetime and press_arguments rest
  press_arguments (tree.constant_argument constant rest) = letter 75 and press_constant constant and press_arguments rest
  press_arguments (tree.type_argument type rest) = type_or_reference type (spell_type type) and press_arguments rest

  -- a type that is spelled out
  pub spell_type : tree.Ty → Pressing
  spell_type (tree.basic type) = letter type
  spell_type (tree.path_type path) = spell_path path
  spell_type (tree.array type size) = letter 65 and type_or_reference type (spell_type type) and press_constant size
  spell_type (tree.slice type) = letter 83 and type_or_reference type (spell_type type)
  spell_type (tree.tuple types) = letter 84 and press_types types
  spell_type (tree.shared_reference lifetime type) = letter 82 and some_lifetime lifetime and type_or_reference type (spell_type type)
  spell_type (tree.mutable_reference lifetime type) = letter 81 and some_lifetime lifetime and type_or_reference type (spell_type type)
  spell_type (tree.const_pointer type) = letter 80 and type_or_reference type (spell_type type)
  spell_type (tree.mut_pointer type) = letter 79 and type_or_reference type (spell_type type)
  spell_type (tree.function binder is_unsafe abi parameters returned) =
      letter 70 and press_binder binder and mark_if is_unsafe 85 and press_abi abi and press_types parameters
      and type_or_reference returned (spell_type returned)
  spell_type (tree.dyn binder bounds lifetime) = letter 68 and press_binder binder and press_bounds bounds and press_lifetime lifetime

  pub press_types : tree.Tys → Pressing
  press_types tree.no_types = letter 69
  press_types (tree.more_types type rest) = type_or_reference type (spell_type type) and press_types rest

  pub press_bounds : tree.Bounds → Pressing
  press_bounds tree.no_bounds = letter 69
  press_bounds (tree.more_bounds path bindings rest) =
      path_or_reference path (spell_path path) and press_bindings bindings and press_bounds rest

  pub press_bindings : tree.Bindings → Pressing
  press_bindings tree.no_bindings = nothing
  press_bindings (tree.more_bindings name type rest) =
      letter 112 and press_name name and type_or_reference type (spell_type type) and press_bindings rest

abbrev pub press_path : tree.Path → Pressing
press_path path = path_or_reference path (spell_path path)

abbrev pub press_other : Option tree.Path → Pressing
press_other None = nothing
press_other (Some path) = press_path path

abbrev pub press_symbol : tree.Symbol → Pressing
press_symbol symbol = text (95 ∷ 82 ∷ []) and press_path symbol.path and press_other symbol.instantiating and text symbol.suffix

-- the pressed bytes of a symbol
abbrev pub pressed : tree.Symbol → List ℕ
pressed symbol = (press_symbol symbol 0 []).bytes
