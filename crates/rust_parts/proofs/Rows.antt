-- The definitions, computed on symbols.
use Rattle.rust_parts.proofs.Basics.{◌≡◌, ℕ, List, [], ◌∷◌, codes, false, None, refl, Path, Identifier, Symbol, crate_root, trait_impl, nested, generic, no_arguments, type_argument, basic, path_type, only, suffixed, Role, kind_of_letter, kind_of_path, kind_of_symbol, argument, elements, arguments, of_trait, of_type, scope, scoped, name, symbol_marked}
use Rattle.std.specs.Fmt.{digits}
use Prim.Native.String.{String}
use Rattle.rust_tree.specs.Shown.{basic_text, namespace_text, path_parts, symbol_parts}
use Rattle.sym_print.specs.declared.detail.Detail.{Detail}
use Rattle.sym_print.specs.declared.detail.Detail.TheVariants.{Full, Brief}
use Rattle.sym_parts.specs.Marked.{text_of, stretches_from, stretches_of, ◌before◌}
use Rattle.sym_parts.specs.declared.stretch.Stretch.{Stretch}
use Rattle.sym_parts.specs.declared.role.Role.TheVariants as role
use Rattle.sym_parts.specs.declared.kind.NameKind.TheVariants as kind

-- ## Symbols

named : String → Identifier
named spelled = record { disambiguator = 0; name = record { punycode = false; bytes = codes spelled } }

with_suffix : Path → String → Symbol
with_suffix path suffix = record { path = path; instantiating = None; suffix = codes suffix }

foo : Path
foo = crate_root (named "foo")

-- foo::bar
bar : Path
bar = nested 118 foo (named "bar")

-- foo::bar::<u32>
bar_of_u32 : Path
bar_of_u32 = generic bar (type_argument (basic 109) no_arguments)

-- foo::bar::<u32, u8>
bar_of_two : Path
bar_of_two = generic bar (type_argument (basic 109) (type_argument (basic 104) no_arguments))

-- <foo::Bar as std::Trait>::baz
baz : Path
baz = nested 118 (trait_impl 0 foo (path_type (nested 116 foo (named "Bar"))) (nested 116 (crate_root (named "std")) (named "Trait"))) (named "baz")

-- a closure in a path
closure_in : Path → Path
closure_in path = nested 67 path (named "")

-- ## Parts

part : Role → (start length : ℕ) → Stretch
part r start length = record { role = r; ordinal = only; start = start; length = length }

-- an argument of the last list
an_argument : (number start length : ℕ) → Stretch
an_argument number start length = record { role = role.GenericArgument; ordinal = argument 0 number; start = start; length = length }

parts_in : Detail → Symbol → List Stretch
parts_in detail s = stretches_of (symbol_marked s (symbol_parts detail s))

-- foo
row-crate : parts_in Full (with_suffix foo "") ≡ part role.Crate 0 3 ∷ []
unfolding foo named with_suffix part an_argument parts_in path_parts symbol_parts text_of stretches_from ◌before◌ suffixed scope name symbol_marked
row-crate = refl

-- foo::bar::<u32> (.cold)
row-suffix : parts_in Full (with_suffix bar_of_u32 ".cold")
    ≡ part role.Scope 0 3 ∷ part role.Crate 0 3 ∷ part role.Base 5 3 ∷ part role.GenericArguments 10 5 ∷ an_argument 1 11 3 ∷ part role.Suffix 17 5 ∷ []
unfolding foo bar bar_of_u32 named with_suffix part an_argument parts_in basic_text path_parts symbol_parts text_of stretches_from ◌before◌ suffixed elements arguments scope scoped name symbol_marked
row-suffix = refl

-- foo::bar (.cold)
row-brief : parts_in Brief (with_suffix bar_of_u32 ".cold") ≡ part role.Scope 0 3 ∷ part role.Crate 0 3 ∷ part role.Base 5 3 ∷ part role.Suffix 10 5 ∷ []
unfolding foo bar bar_of_u32 named with_suffix part an_argument parts_in basic_text path_parts symbol_parts text_of stretches_from ◌before◌ suffixed elements arguments scope scoped name symbol_marked
row-brief = refl

-- foo::bar::<u32, u8>
row-two : parts_in Full (with_suffix bar_of_two "")
    ≡ part role.Scope 0 3 ∷ part role.Crate 0 3 ∷ part role.Base 5 3 ∷ part role.GenericArguments 10 9 ∷ an_argument 1 11 3 ∷ an_argument 2 16 2 ∷ []
unfolding foo bar bar_of_two named with_suffix part an_argument parts_in basic_text path_parts symbol_parts text_of stretches_from ◌before◌ suffixed elements arguments scope scoped name symbol_marked
row-two = refl

-- foo::bar::<u32>::{closure#0}
row-closure : parts_in Full (with_suffix (closure_in bar_of_u32) "")
    ≡ part role.Scope 0 15 ∷ part role.Crate 0 3 ∷ part role.GenericArguments 10 5 ∷ an_argument 1 11 3 ∷ part role.Base 17 11 ∷ []
unfolding foo bar bar_of_u32 closure_in named with_suffix part an_argument parts_in digits basic_text namespace_text path_parts symbol_parts text_of stretches_from ◌before◌ suffixed elements arguments scope scoped name symbol_marked
row-closure = refl

-- <foo::Bar as std::Trait>::baz::{closure#0}
row-trait : parts_in Full (with_suffix (closure_in baz) "")
    ≡ part role.Scope 0 29 ∷ part role.Impl 0 24 ∷ part role.SelfType 1 8 ∷ part role.Trait 13 10 ∷ part role.Base 31 11 ∷ []
unfolding foo baz closure_in named with_suffix part an_argument parts_in digits basic_text namespace_text path_parts symbol_parts text_of stretches_from ◌before◌ suffixed of_trait of_type scope scoped name symbol_marked
row-trait = refl

-- foo::bar, within a path that has no name
row-unnamed : parts_in Full (with_suffix (nested 110 bar (named "")) "") ≡ part role.Scope 0 3 ∷ part role.Crate 0 3 ∷ part role.Base 5 3 ∷ []
unfolding foo bar named with_suffix part an_argument parts_in path_parts symbol_parts text_of stretches_from ◌before◌ suffixed scope scoped name symbol_marked
row-unnamed = refl

-- ## Kinds

kind-of_crate : kind_of_symbol (with_suffix foo "") ≡ kind.Crate
unfolding foo named with_suffix kind_of_letter kind_of_path kind_of_symbol
kind-of_crate = refl

kind-of_value : kind_of_symbol (with_suffix bar_of_u32 "") ≡ kind.Value
unfolding foo bar bar_of_u32 named with_suffix kind_of_letter kind_of_path kind_of_symbol
kind-of_value = refl

kind-of_closure : kind_of_symbol (with_suffix (closure_in bar_of_u32) "") ≡ kind.Closure
unfolding closure_in named with_suffix kind_of_letter kind_of_path kind_of_symbol
kind-of_closure = refl

kind-of_unnamed : kind_of_symbol (with_suffix (nested 110 bar (named "")) "") ≡ kind.Value
unfolding foo bar named with_suffix kind_of_letter kind_of_path kind_of_symbol
kind-of_unnamed = refl
