-- A tree is made again from its fields.
use Rattle.rust_tree.proofs.Basics.{◌≡◌, ℕ, suc, ◌<◌, List, [], ◌∷◌, length, slice_get, arith, Bool, true, false, Option, Some, None, refl, sym, ap, ◌∙◌, Tree, of_path, of_arguments, of_type, of_types, of_bounds, of_bindings, of_constant, of_symbol, type_in, Fields, fields_of, tree_from, type_part, IsView, AreAlike}
use Rattle.rust_tree.specs.Symbol as tree
use Rattle.rust_tree.specs.declared.view.Node.{Node}
use Rattle.rust_tree.proofs.Numerals.{value-hexadecimal}

part-type : (type : tree.Ty) → type_in (Some (type_part type)) ≡ type
part-type (tree.path_type path) = refl
part-type _ = refl

path-made : (path : tree.Path) → tree_from (fields_of (of_path path)) ≡ of_path path
path-made (tree.crate_root own) = named own.disambiguator own.name.punycode own.name.bytes
  where
    named : (d : ℕ) (punycode : Bool) (bytes : List ℕ) → let own : tree.Identifier = record { disambiguator = d; name = record { punycode = punycode; bytes = bytes } } in
        tree_from (fields_of (of_path (tree.crate_root own))) ≡ of_path (tree.crate_root own)
    named d true bytes = refl
    named d false bytes = refl
path-made (tree.inherent_impl d path type) = ap (λ t. of_path (tree.inherent_impl d path t)) (part-type type)
path-made (tree.trait_impl d path type implemented) = ap (λ t. of_path (tree.trait_impl d path t implemented)) (part-type type)
path-made (tree.trait_definition type implemented) = ap (λ t. of_path (tree.trait_definition t implemented)) (part-type type)
path-made (tree.nested namespace parent own) = named own.disambiguator own.name.punycode own.name.bytes
  where
    named : (d : ℕ) (punycode : Bool) (bytes : List ℕ) → let own : tree.Identifier = record { disambiguator = d; name = record { punycode = punycode; bytes = bytes } } in
        tree_from (fields_of (of_path (tree.nested namespace parent own))) ≡ of_path (tree.nested namespace parent own)
    named d true bytes = refl
    named d false bytes = refl
path-made (tree.generic parent given) = refl

arguments-made : (arguments : tree.Arguments) → tree_from (fields_of (of_arguments arguments)) ≡ of_arguments arguments
arguments-made tree.no_arguments = refl
arguments-made (tree.lifetime_argument lifetime rest) = refl
arguments-made (tree.constant_argument constant rest) = refl
arguments-made (tree.type_argument type rest) = ap (λ t. of_arguments (tree.type_argument t rest)) (part-type type)

function-made : (binder : ℕ) (is_unsafe : Bool) (abi : tree.Abi) (parameters : tree.Tys) (returned : tree.Ty)
    → tree_from (fields_of (of_type (tree.function binder is_unsafe abi parameters returned))) ≡ of_type (tree.function binder is_unsafe abi parameters returned)
function-made binder true tree.rust_abi parameters returned = ap (λ t. of_type (tree.function binder true tree.rust_abi parameters t)) (part-type returned)
function-made binder false tree.rust_abi parameters returned = ap (λ t. of_type (tree.function binder false tree.rust_abi parameters t)) (part-type returned)
function-made binder true tree.c_abi parameters returned = ap (λ t. of_type (tree.function binder true tree.c_abi parameters t)) (part-type returned)
function-made binder false tree.c_abi parameters returned = ap (λ t. of_type (tree.function binder false tree.c_abi parameters t)) (part-type returned)
function-made binder is_unsafe (tree.named_abi name) parameters returned = named is_unsafe name.punycode name.bytes
  where
    named : (unsafe punycode : Bool) (bytes : List ℕ) → let abi : tree.Abi = tree.named_abi (record { punycode = punycode; bytes = bytes }) in
        tree_from (fields_of (of_type (tree.function binder unsafe abi parameters returned))) ≡ of_type (tree.function binder unsafe abi parameters returned)
    named true true bytes = ap (λ t. of_type (tree.function binder true (tree.named_abi (record { punycode = true; bytes = bytes })) parameters t)) (part-type returned)
    named true false bytes = ap (λ t. of_type (tree.function binder true (tree.named_abi (record { punycode = false; bytes = bytes })) parameters t)) (part-type returned)
    named false true bytes = ap (λ t. of_type (tree.function binder false (tree.named_abi (record { punycode = true; bytes = bytes })) parameters t)) (part-type returned)
    named false false bytes = ap (λ t. of_type (tree.function binder false (tree.named_abi (record { punycode = false; bytes = bytes })) parameters t)) (part-type returned)

type-made : (type : tree.Ty) → tree_from (fields_of (of_type type)) ≡ of_type type
type-made (tree.basic letter) = refl
type-made (tree.path_type path) = refl
type-made (tree.array type size) = ap (λ t. of_type (tree.array t size)) (part-type type)
type-made (tree.slice type) = ap (λ t. of_type (tree.slice t)) (part-type type)
type-made (tree.tuple types) = refl
type-made (tree.shared_reference lifetime type) = ap (λ t. of_type (tree.shared_reference lifetime t)) (part-type type)
type-made (tree.mutable_reference lifetime type) = ap (λ t. of_type (tree.mutable_reference lifetime t)) (part-type type)
type-made (tree.const_pointer type) = ap (λ t. of_type (tree.const_pointer t)) (part-type type)
type-made (tree.mut_pointer type) = ap (λ t. of_type (tree.mut_pointer t)) (part-type type)
type-made (tree.function binder is_unsafe abi parameters returned) = function-made binder is_unsafe abi parameters returned
type-made (tree.dyn binder given lifetime) = refl

types-made : (types : tree.Tys) → tree_from (fields_of (of_types types)) ≡ of_types types
types-made tree.no_types = refl
types-made (tree.more_types type rest) = ap (λ t. of_types (tree.more_types t rest)) (part-type type)

bounds-made : (bounds : tree.Bounds) → tree_from (fields_of (of_bounds bounds)) ≡ of_bounds bounds
bounds-made tree.no_bounds = refl
bounds-made (tree.more_bounds path given rest) = refl

bindings-made : (bindings : tree.Bindings) → tree_from (fields_of (of_bindings bindings)) ≡ of_bindings bindings
bindings-made tree.no_bindings = refl
bindings-made (tree.more_bindings name type rest) = named name.punycode name.bytes
  where
    named : (punycode : Bool) (bytes : List ℕ) → let name : tree.Name = record { punycode = punycode; bytes = bytes } in
        tree_from (fields_of (of_bindings (tree.more_bindings name type rest))) ≡ of_bindings (tree.more_bindings name type rest)
    named true bytes = ap (λ t. of_bindings (tree.more_bindings (record { punycode = true; bytes = bytes }) t rest)) (part-type type)
    named false bytes = ap (λ t. of_bindings (tree.more_bindings (record { punycode = false; bytes = bytes }) t rest)) (part-type type)

constant-made : (constant : tree.Constant) → tree_from (fields_of (of_constant constant)) ≡ of_constant constant
constant-made (tree.integer letter true magnitude) = ap (λ n. of_constant (tree.integer letter true n)) (value-hexadecimal magnitude)
constant-made (tree.integer letter false magnitude) = ap (λ n. of_constant (tree.integer letter false n)) (value-hexadecimal magnitude)
constant-made (tree.boolean true) = refl
constant-made (tree.boolean false) = refl
constant-made (tree.character character) = refl
constant-made tree.placeholder = refl

symbol-made : (symbol : tree.Symbol) → tree_from (fields_of (of_symbol symbol)) ≡ of_symbol symbol
symbol-made symbol = whole symbol.path symbol.instantiating symbol.suffix
  where
    whole : (path : tree.Path) (other : Option tree.Path) (suffix : List ℕ) → let symbol : tree.Symbol = record { path = path; instantiating = other; suffix = suffix } in
        tree_from (fields_of (of_symbol symbol)) ≡ of_symbol symbol
    whole path None suffix = refl
    whole path (Some other) suffix = refl

-- a tree is made again from its production and its other fields
pub tree-made : (one : Tree) → tree_from (fields_of one) ≡ one
tree-made (of_path path) = path-made path
tree-made (of_arguments arguments) = arguments-made arguments
tree-made (of_type type) = type-made type
tree-made (of_types types) = types-made types
tree-made (of_bounds bounds) = bounds-made bounds
tree-made (of_bindings bindings) = bindings-made bindings
tree-made (of_constant constant) = constant-made constant
tree-made (of_symbol symbol) = symbol-made symbol

-- ## Views of trees

same-lists : (xs ys : List Tree) → length xs ≡ length ys → ((k : ℕ) → k < length xs → slice_get xs k ≡ slice_get ys k) → xs ≡ ys
same-lists [] [] long each = refl
same-lists [] (y ∷ ys) long each = absurd (omega (arith, long))
same-lists (x ∷ xs) [] long each = absurd (omega (arith, long))
same-lists (x ∷ xs) (y ∷ ys) long each =
    let first : Some x ≡ Some y = each 0 (omega arith) in
    let rest : xs ≡ ys = same-lists xs ys (omega (arith, long)) (λ k h. each (suc k) (omega (arith, h))) in
    cc

same-fields : (p q : ℕ) (ns ms : List ℕ) (ts us : List (List ℕ)) (xs ys : List Tree) → p ≡ q → ns ≡ ms → ts ≡ us → xs ≡ ys
    → tree_from (record { production = p; numbers = ns; texts = ts; parts = xs }) ≡ tree_from (record { production = q; numbers = ms; texts = us; parts = ys })
same-fields p q ns ms ts us xs ys e f g h =
    ap (λ n. tree_from (record { production = n; numbers = ns; texts = ts; parts = xs })) e
    ∙ ap (λ n. tree_from (record { production = q; numbers = n; texts = ts; parts = xs })) f
    ∙ ap (λ n. tree_from (record { production = q; numbers = ms; texts = n; parts = xs })) g
    ∙ ap (λ n. tree_from (record { production = q; numbers = ms; texts = us; parts = n })) h

pub equal-trees : (s t : List ℕ) (first second : Node) (one other : Tree) → IsView s first (fields_of one) → IsView t second (fields_of other)
    → AreAlike s t first second one other → one ≡ other
equal-trees s t first second one other is also_is alike =
    let mine : Fields = fields_of one in
    let yours : Fields = fields_of other in
    sym (tree-made one)
    ∙ same-fields mine.production yours.production mine.numbers yours.numbers mine.texts yours.texts mine.parts yours.parts
    (sym is.production ∙ alike.production ∙ also_is.production) (sym is.numbers ∙ alike.numbers ∙ also_is.numbers) (sym is.texts ∙ alike.texts ∙ also_is.texts)
    (same-lists mine.parts yours.parts (sym is.parts ∙ alike.parts ∙ also_is.parts) (λ k h. alike.equal k (omega (arith, h, is.parts))))
    ∙ tree-made other

pub equal-views : (s t : List ℕ) (first second : Node) (one other : Tree) → IsView s first (fields_of one) → IsView t second (fields_of other)
    → one ≡ other → AreAlike s t first second one other
equal-views s t first second one other is also_is same = record {
  production = is.production ∙ ap (λ tree. (fields_of tree).production) same ∙ sym also_is.production;
  numbers = is.numbers ∙ ap (λ tree. (fields_of tree).numbers) same ∙ sym also_is.numbers;
  texts = is.texts ∙ ap (λ tree. (fields_of tree).texts) same ∙ sym also_is.texts;
  parts = is.parts ∙ ap (λ tree. length (fields_of tree).parts) same ∙ sym also_is.parts;
  equal = λ k h. ap (λ tree. slice_get (fields_of tree).parts k) same;
}
