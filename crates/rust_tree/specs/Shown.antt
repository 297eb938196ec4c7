-- How an unshared tree is shown: the parts of its items, each a text that isn't empty or another item.
use Rattle.std.specs.Prelude.{ℕ, zero, suc, ◌+◌, ◌-◌, List, [], ◌∷◌, ◌++◌, Bool, true, false, if◌then◌else◌, ◌&&◌, ◌||◌, ◌==◌, nat_le, nat_lt, Option, Some, None, codes, decimal}
use Rattle.std.specs.Fmt.{digits}
use Rattle.sym_print.specs.Unshared.{Unshared, done}
use Rattle.sym_print.specs.Building.{◌then◌, ◌also◌, ◌perhaps◌}
use Rattle.sym_print.specs.declared.detail.Detail.{Detail}
use Rattle.sym_print.specs.Details.{has_arguments}
use Rattle.sym_core.specs.Printed.{printed_name, signed_text}
use Rattle.rust_tree.specs.BasicTypes.{basic_texts}
use Rattle.rust_tree.specs.Symbol.{Name, Identifier, Abi, rust_abi, c_abi, named_abi, Path, Arguments, Ty, Tys, Bounds, Bindings, Constant, Symbol, crate_root, inherent_impl, trait_impl, trait_definition, nested, generic, no_arguments, lifetime_argument, constant_argument, type_argument, basic, path_type, array, slice, tuple, shared_reference, mutable_reference, const_pointer, mut_pointer, function, dyn, no_types, more_types, no_bounds, more_bounds, no_bindings, more_bindings, integer, boolean, character, placeholder}

-- ## Texts

abbrev pub name_text : Name → List ℕ
name_text name = printed_name name.punycode name.bytes

abbrev pub text_at : List (ℕ × List ℕ) → ℕ → List ℕ
text_at [] letter = []
text_at ((l, bs) ∷ rest) letter = if l == letter then bs else text_at rest letter

-- the text of a basic type, by its letter
unfoldable pub basic_text : ℕ → List ℕ
basic_text = text_at basic_texts

-- The name of the lifetime of this number, the outermost bound one being 0.
unfoldable pub numbered_lifetime : ℕ → List ℕ
numbered_lifetime number = if nat_lt number 26 then 39 ∷ (97 + number) ∷ [] else 39 ∷ 95 ∷ decimal number

-- a lifetime, with n lifetimes bound around it
unfoldable pub lifetime_text : ℕ → ℕ → List ℕ
lifetime_text bound zero = codes "'_"
lifetime_text bound (suc k) = numbered_lifetime (bound - suc k)

-- a character between single quotes
unfoldable pub character_text : ℕ → List ℕ
character_text c =
    if (c == 39) || (c == 92) then 39 ∷ 92 ∷ c ∷ 39 ∷ []
    else (if nat_le 32 c && nat_le c 126 then 39 ∷ c ∷ 39 ∷ [] else codes "'\\u{" ++ digits 16 false c ++ codes "}'")

-- ## Parts

unfoldable pub constant_parts : Constant → Unshared
constant_parts (integer letter minus magnitude) = signed_text minus magnitude then done
constant_parts (boolean true) = codes "true" then done
constant_parts (boolean false) = codes "false" then done
constant_parts (character c) = character_text c then done
constant_parts placeholder = codes "_" then done

unfoldable pub lifetime_parts : (bound lifetime : ℕ) → Unshared
lifetime_parts bound lifetime = lifetime_text bound lifetime then done

-- how a namespace that is an upper-case letter is named
unfoldable pub namespace_text : ℕ → List ℕ
namespace_text letter = if letter == 67 then codes "closure" else (if letter == 83 then codes "shim" else letter ∷ [])

-- a name and what precedes it, unless the name is empty
abbrev pub name_behind : (before : List ℕ) → (name : List ℕ) → Unshared → Unshared
name_behind before [] rest = rest
name_behind before (b ∷ bs) rest = before then (b ∷ bs) then rest

abbrev pub special_name : (namespace : ℕ) → Identifier → Unshared → Unshared
special_name namespace name rest =
    codes "::{" then namespace_text namespace
    then name_behind (codes ":") (name_text name.name) (codes "#" then decimal name.disambiguator then codes "}" then rest)

abbrev pub nested_name : (lower_case : Bool) → (namespace : ℕ) → Identifier → Unshared → Unshared
nested_name true namespace name rest = name_behind (codes "::") (name_text name.name) rest
nested_name false namespace name rest = special_name namespace name rest

-- Arguments, which follow `::` in value style. In brief they aren't shown.
abbrev pub argument_list : (all : Bool) → (value : Bool) → (arguments : Option Unshared) → Unshared → Unshared
argument_list true value arguments rest = (if value then codes "::<" else codes "<") then arguments perhaps codes ">" then rest
argument_list false value arguments rest = rest

-- a path and its arguments
abbrev pub generic_parts : (all : Bool) → (value : Bool) → (parent : Unshared) → (arguments : Option Unshared) → Unshared
generic_parts all value parent arguments = parent also argument_list all value arguments done

-- the names of n lifetimes, from this number on
unfoldable pub names_from : (separator : List ℕ) → (number : ℕ) → (count : ℕ) → Option Unshared
names_from separator number zero = None
names_from separator number (suc more) =
    Some (separator then numbered_lifetime number then names_from (codes ", ") (number + 1) more perhaps done)

-- `for<'a, 'b> `, before other parts
abbrev pub for_binder : (bound binder : ℕ) → Unshared → Unshared
for_binder bound zero rest = rest
for_binder bound (suc more) rest = codes "for<" then names_from [] bound (suc more) perhaps codes "> " then rest

-- how a signature begins, up to its parameters
abbrev pub signature_opening : (unsafe : Bool) → Abi → Unshared → Unshared
signature_opening unsafe rust_abi rest = (if unsafe then codes "unsafe fn(" else codes "fn(") then rest
signature_opening unsafe c_abi rest = (if unsafe then codes "unsafe extern \"" else codes "extern \"") then codes "C" then codes "\" fn(" then rest
signature_opening unsafe (named_abi name) rest =
    (if unsafe then codes "unsafe extern \"" else codes "extern \"") then name_text name then codes "\" fn(" then rest

-- the result of a signature, unless it is the unit type
abbrev pub returned_parts : (unit : Bool) → (returned : Unshared) → Unshared → Unshared
returned_parts true returned rest = rest
returned_parts false returned rest = codes " -> " then returned also rest

abbrev pub signature_parts : (unsafe : Bool) → Abi → (parameters : Option Unshared) → (unit : Bool) → (returned : Unshared) → Unshared
signature_parts unsafe abi parameters unit returned =
    signature_opening unsafe abi (parameters perhaps codes ")" then returned_parts unit returned done)

abbrev pub is_unit : Ty → Bool
is_unit (basic letter) = letter == 117
is_unit _ = false

abbrev pub closing_tuple : Tys → List ℕ
closing_tuple (more_types type no_types) = codes ",)"
closing_tuple _ = codes ")"

-- the beginning of a reference: its lifetime, if it has one, and `mut` where it is mutable
abbrev pub reference_opening : (bound lifetime : ℕ) → (mutable : Bool) → Unshared → Unshared
reference_opening bound zero mutable rest = (if mutable then codes "&mut " else codes "&") then rest
reference_opening bound (suc k) mutable rest =
    codes "&" then lifetime_text bound (suc k) then (if mutable then codes " mut " else codes " ") then rest

abbrev pub dyn_lifetime : (bound lifetime : ℕ) → Unshared → Unshared
dyn_lifetime bound zero rest = rest
dyn_lifetime bound (suc k) rest = codes " + " then lifetime_text bound (suc k) then rest

-- A bound of a `dyn`: its bindings, if it has any, follow the arguments of its path. In brief it is just the path.
abbrev pub behind_arguments : (arguments : Option Unshared) → Unshared → Unshared
behind_arguments None rest = rest
behind_arguments (Some arguments) rest = arguments also codes ", " then rest

abbrev pub generic_bound : (all : Bool) → (parent : Unshared) → (arguments bindings : Option Unshared) → Unshared
generic_bound true parent arguments (Some bindings) =
    parent also codes "<" then behind_arguments arguments (bindings also codes ">" then done)
generic_bound all parent arguments _ = generic_parts all false parent arguments also done

abbrev pub plain_bound : (all : Bool) → (path : Unshared) → (bindings : Option Unshared) → Unshared
plain_bound true path (Some bindings) = path also codes "<" then bindings also codes ">" then done
plain_bound all path _ = path also done

unfoldable mutual
  -- a path with `bound` lifetimes bound around it
  pub path_parts : Detail → (bound : ℕ) → (value : Bool) → Path → Unshared
  path_parts detail bound value (crate_root name) = name_text name.name then done
  path_parts detail bound value (inherent_impl disambiguator path type) =
      codes "<" then type_parts detail bound type also codes ">" then done
  path_parts detail bound value (trait_impl disambiguator path type implemented) =
      codes "<" then type_parts detail bound type also codes " as " then path_parts detail bound false implemented also codes ">" then done
  path_parts detail bound value (trait_definition type implemented) =
      codes "<" then type_parts detail bound type also codes " as " then path_parts detail bound false implemented also codes ">" then done
  path_parts detail bound value (nested namespace parent name) =
      path_parts detail bound value parent also nested_name (nat_le 97 namespace) namespace name done
  path_parts detail bound value (generic parent arguments) =
      generic_parts (has_arguments detail) value (path_parts detail bound value parent) (arguments_from detail bound [] arguments)

  -- arguments one after another, a separator before the first
  pub arguments_from : Detail → (bound : ℕ) → (separator : List ℕ) → Arguments → Option Unshared
  arguments_from detail bound separator no_arguments = None
  arguments_from detail bound separator (lifetime_argument lifetime rest) =
      Some (separator then lifetime_parts bound lifetime also arguments_from detail bound (codes ", ") rest perhaps done)
  arguments_from detail bound separator (constant_argument constant rest) =
      Some (separator then constant_parts constant also arguments_from detail bound (codes ", ") rest perhaps done)
  arguments_from detail bound separator (type_argument type rest) =
      Some (separator then type_parts detail bound type also arguments_from detail bound (codes ", ") rest perhaps done)

  pub type_parts : Detail → (bound : ℕ) → Ty → Unshared
  type_parts detail bound (basic letter) = basic_text letter then done
  type_parts detail bound (path_type path) = path_parts detail bound false path
  type_parts detail bound (array type size) =
      codes "[" then type_parts detail bound type also codes "; " then constant_parts size also codes "]" then done
  type_parts detail bound (slice type) = codes "[" then type_parts detail bound type also codes "]" then done
  type_parts detail bound (tuple types) = codes "(" then types_from detail bound [] types perhaps closing_tuple types then done
  type_parts detail bound (shared_reference lifetime type) = reference_opening bound lifetime false (type_parts detail bound type also done)
  type_parts detail bound (mutable_reference lifetime type) = reference_opening bound lifetime true (type_parts detail bound type also done)
  type_parts detail bound (const_pointer type) = codes "*const " then type_parts detail bound type also done
  type_parts detail bound (mut_pointer type) = codes "*mut " then type_parts detail bound type also done
  type_parts detail bound (function binder unsafe abi types returned) =
      for_binder bound binder (signature_parts unsafe abi (types_from detail (bound + binder) [] types) (is_unit returned) (type_parts detail (bound + binder) returned) also done)
  type_parts detail bound (dyn binder bounds lifetime) =
      codes "dyn " then for_binder bound binder (bounds_from detail (bound + binder) [] bounds perhaps dyn_lifetime bound lifetime done)

  pub types_from : Detail → (bound : ℕ) → (separator : List ℕ) → Tys → Option Unshared
  types_from detail bound separator no_types = None
  types_from detail bound separator (more_types type rest) =
      Some (separator then type_parts detail bound type also types_from detail bound (codes ", ") rest perhaps done)

  pub bounds_from : Detail → (bound : ℕ) → (separator : List ℕ) → Bounds → Option Unshared
  bounds_from detail bound separator no_bounds = None
  bounds_from detail bound separator (more_bounds (generic parent arguments) bindings rest) =
      Some (separator then generic_bound (has_arguments detail) (path_parts detail bound false parent) (arguments_from detail bound [] arguments) (bindings_from detail bound [] bindings) also bounds_from detail bound (codes " + ") rest perhaps done)
  bounds_from detail bound separator (more_bounds path bindings rest) =
      Some (separator then plain_bound (has_arguments detail) (path_parts detail bound false path) (bindings_from detail bound [] bindings) also bounds_from detail bound (codes " + ") rest perhaps done)

  pub bindings_from : Detail → (bound : ℕ) → (separator : List ℕ) → Bindings → Option Unshared
  bindings_from detail bound separator no_bindings = None
  bindings_from detail bound separator (more_bindings name type rest) =
      Some (separator then name_text name then codes " = " then type_parts detail bound type also bindings_from detail bound (codes ", ") rest perhaps done)

-- one bound
unfoldable pub bound_parts : Detail → (bound : ℕ) → Path → Bindings → Unshared
bound_parts detail bound (generic parent arguments) bindings =
    generic_bound (has_arguments detail) (path_parts detail bound false parent) (arguments_from detail bound [] arguments) (bindings_from detail bound [] bindings)
bound_parts detail bound path bindings = plain_bound (has_arguments detail) (path_parts detail bound false path) (bindings_from detail bound [] bindings)

-- the suffix of a symbol in parentheses, before other parts
abbrev pub suffix_parts : List ℕ → Unshared → Unshared
suffix_parts [] rest = rest
suffix_parts (b ∷ bs) rest = codes " (" then (b ∷ bs) then codes ")" then rest

unfoldable pub symbol_parts : Detail → Symbol → Unshared
symbol_parts detail symbol = path_parts detail 0 true symbol.path also suffix_parts symbol.suffix done
