-- The grammar of Rust v0 symbols: which rule a kind takes at a byte (RFC 2603, "Syntax of mangled names").
use Rattle.std.specs.Prelude.{ℕ, List, [], ◌∷◌, ◌++◌, length, take, true, false, codes}
use Rattle.sym_core.specs.declared.NumberKind.TheVariants.{Base62, Hex}
use Rattle.sym_shape.specs.declared.rule.Rule.{Rule}
use Rattle.sym_core.specs.declared.NameClass.TheVariants.{Rust}
use Rattle.sym_shape.specs.declared.rule.Sym.{Sym}
use Rattle.sym_shape.specs.declared.rule.Sym.TheVariants.{Kind, Name, Number, Byte}
use Rattle.sym_shape.specs.declared.sheet.ByteRange.{ByteRange}
use Rattle.sym_shape.specs.declared.sheet.Choice.{Choice}
use Rattle.sym_shape.specs.Sheet.{KindSheet, table_of, range}
use Rattle.sym_shape.specs.Table.{Table}
use Rattle.rust_grammar.specs.declared.production.Production.{Production}
use Rattle.rust_grammar.specs.declared.production.Production.TheVariants as rules
use Rattle.rust_grammar.specs.declared.kind.TheConstants.{PATH, OTHER_PATH, SUFFIX, SUFFIX_BYTE, SUFFIX_REST, NAMESPACE, DISAMBIGUATOR, IDENTIFIER, NAME, ARGUMENTS, TYPE, TYPES, SOME_LIFETIME, LIFETIME, BINDER, UNSAFE, ABI, ABI_NAME, BOUNDS, BINDINGS, CONSTANT, MINUS, TRUTH}
use Rattle.rust_grammar.specs.Productions.{number_of}
use Rattle.rust_grammar.specs.BasicLetters.{basic_letters, signed_letters, unsigned_letters}

-- the symbols of a rule, filled up to five
abbrev pub filled : List Sym → List Sym
filled symbols = take 5 (symbols ++ Byte 0 ∷ Byte 0 ∷ Byte 0 ∷ Byte 0 ∷ Byte 0 ∷ [])

-- a production's rule that takes the byte at which it is chosen
abbrev pub taking : Production → List Sym → Rule
taking production symbols = record { number = number_of production; eats = true; count = length symbols; symbols = filled symbols }

-- a production's rule that takes no byte of its own
abbrev pub chaining : Production → List Sym → Rule
chaining production symbols = record { number = number_of production; eats = false; count = length symbols; symbols = filled symbols }

abbrev pub takes : List ByteRange → Production → List Sym → Choice
takes bytes production symbols = record { ranges = length bytes; bytes = bytes; rule = taking production symbols }

abbrev pub chains : List ByteRange → Production → List Sym → Choice
chains bytes production symbols = record { ranges = length bytes; bytes = bytes; rule = chaining production symbols }

-- each byte by itself
abbrev pub each : List ℕ → List ByteRange
each [] = []
each (b ∷ bs) = range b b ∷ each bs

abbrev pub digits : List ByteRange
digits = range 48 57 ∷ []

abbrev pub letters : List ByteRange
letters = range 65 90 ∷ range 97 122 ∷ []

-- `$`, `.`, digits, letters and `_`
abbrev pub suffix_bytes : List ByteRange
suffix_bytes = range 36 36 ∷ range 46 46 ∷ range 48 57 ∷ range 65 90 ∷ range 95 95 ∷ range 97 122 ∷ []

-- what begins a path
abbrev pub paths : List ByteRange
paths = each (codes "BCMXYNI")

-- what begins a type: A to D, F, I, M to T, X, Y, and the letters of basic types
abbrev pub types : List ByteRange
types = range 65 68 ∷ range 70 70 ∷ range 73 73 ∷ range 77 84 ∷ range 88 89 ∷ basic_letters

-- what may follow a path, a name, a type or a constant
abbrev pub behind_component : List ByteRange
behind_component = digits ++ types ++ each (codes ".EKL")

abbrev pub symbol_rules : List Choice
symbol_rules =
    takes (each (codes "_")) rules.Symbol (Byte 82 ∷ Kind PATH ∷ Kind OTHER_PATH ∷ Kind SUFFIX ∷ []) ∷ []

-- the forms of a path; references are listed apart, since a type has references of its own
abbrev pub path_forms : List Choice
path_forms =
    takes (each (codes "C")) rules.Crate (Kind IDENTIFIER ∷ [])
    ∷ takes (each (codes "M")) rules.InherentImpl (Kind DISAMBIGUATOR ∷ Kind PATH ∷ Kind TYPE ∷ [])
    ∷ takes (each (codes "X")) rules.TraitImpl (Kind DISAMBIGUATOR ∷ Kind PATH ∷ Kind TYPE ∷ Kind PATH ∷ [])
    ∷ takes (each (codes "Y")) rules.TraitDefinition (Kind TYPE ∷ Kind PATH ∷ [])
    ∷ takes (each (codes "N")) rules.Nested (Kind NAMESPACE ∷ Kind PATH ∷ Kind IDENTIFIER ∷ [])
    ∷ takes (each (codes "I")) rules.Generic (Kind PATH ∷ Kind ARGUMENTS ∷ Byte 69 ∷ []) ∷ []

abbrev pub path_rules : List Choice
path_rules =
    takes (each (codes "B")) rules.PathReference (Number Base62 ∷ []) ∷ path_forms

abbrev pub suffix_rules : List Choice
suffix_rules =
    takes (each (codes ".")) rules.Suffix (Kind SUFFIX_BYTE ∷ Kind SUFFIX_REST ∷ []) ∷ []

abbrev pub suffix_byte_rules : List Choice
suffix_byte_rules =
    takes suffix_bytes rules.SuffixByte [] ∷ []

abbrev pub suffix_rest_rules : List Choice
suffix_rest_rules =
    takes suffix_bytes rules.SuffixByte (Kind SUFFIX_REST ∷ []) ∷ []

abbrev pub namespace_rules : List Choice
namespace_rules =
    takes letters rules.Namespace [] ∷ []

abbrev pub disambiguator_rules : List Choice
disambiguator_rules =
    takes (each (codes "s")) rules.Disambiguator (Number Base62 ∷ []) ∷ []

abbrev pub identifier_rules : List Choice
identifier_rules =
    takes (each (codes "s")) rules.DisambiguatedIdentifier (Number Base62 ∷ Kind NAME ∷ [])
    ∷ takes (each (codes "u")) rules.PunycodeName (Name ∷ [])
    ∷ chains digits rules.PlainName (Name ∷ []) ∷ []

abbrev pub name_rules : List Choice
name_rules =
    takes (each (codes "u")) rules.PunycodeName (Name ∷ [])
    ∷ chains digits rules.PlainName (Name ∷ []) ∷ []

abbrev pub arguments_rules : List Choice
arguments_rules =
    chains (each (codes "L")) rules.LifetimeArgument (Kind LIFETIME ∷ Kind ARGUMENTS ∷ [])
    ∷ takes (each (codes "K")) rules.ConstantArgument (Kind CONSTANT ∷ Kind ARGUMENTS ∷ [])
    ∷ chains types rules.TypeArgument (Kind TYPE ∷ Kind ARGUMENTS ∷ []) ∷ []

-- the forms of a type that is neither basic, nor a path or a reference
abbrev pub type_forms : List Choice
type_forms =
    takes (each (codes "A")) rules.Array (Kind TYPE ∷ Kind CONSTANT ∷ [])
    ∷ takes (each (codes "S")) rules.Slice (Kind TYPE ∷ [])
    ∷ takes (each (codes "T")) rules.Tuple (Kind TYPES ∷ [])
    ∷ takes (each (codes "R")) rules.SharedReference (Kind SOME_LIFETIME ∷ Kind TYPE ∷ [])
    ∷ takes (each (codes "Q")) rules.MutableReference (Kind SOME_LIFETIME ∷ Kind TYPE ∷ [])
    ∷ takes (each (codes "P")) rules.ConstPointer (Kind TYPE ∷ [])
    ∷ takes (each (codes "O")) rules.MutPointer (Kind TYPE ∷ [])
    ∷ takes (each (codes "F")) rules.Function (Kind BINDER ∷ Kind UNSAFE ∷ Kind ABI ∷ Kind TYPES ∷ Kind TYPE ∷ [])
    ∷ takes (each (codes "D")) rules.Dyn (Kind BINDER ∷ Kind BOUNDS ∷ Kind LIFETIME ∷ []) ∷ []

abbrev pub type_rules : List Choice
type_rules =
    takes basic_letters rules.BasicType []
    ∷ takes (each (codes "B")) rules.TypeReference (Number Base62 ∷ [])
    ∷ path_forms ++ type_forms

abbrev pub types_rules : List Choice
types_rules =
    takes (each (codes "E")) rules.TypesEnd []
    ∷ chains types rules.TypesMore (Kind TYPE ∷ Kind TYPES ∷ []) ∷ []

abbrev pub some_lifetime_rules : List Choice
some_lifetime_rules =
    takes (each (codes "L")) rules.Lifetime (Number Base62 ∷ []) ∷ []

abbrev pub lifetime_rules : List Choice
lifetime_rules =
    takes (each (codes "L")) rules.Lifetime (Number Base62 ∷ []) ∷ []

abbrev pub binder_rules : List Choice
binder_rules =
    takes (each (codes "G")) rules.Binder (Number Base62 ∷ []) ∷ []

abbrev pub unsafe_rules : List Choice
unsafe_rules =
    takes (each (codes "U")) rules.Unsafe [] ∷ []

abbrev pub abi_rules : List Choice
abi_rules =
    takes (each (codes "K")) rules.Abi (Kind ABI_NAME ∷ []) ∷ []

abbrev pub abi_name_rules : List Choice
abi_name_rules =
    takes (each (codes "C")) rules.AbiC []
    ∷ takes (each (codes "u")) rules.PunycodeName (Name ∷ [])
    ∷ chains digits rules.PlainName (Name ∷ []) ∷ []

abbrev pub bounds_rules : List Choice
bounds_rules =
    takes (each (codes "E")) rules.BoundsEnd []
    ∷ chains paths rules.BoundsMore (Kind PATH ∷ Kind BINDINGS ∷ Kind BOUNDS ∷ []) ∷ []

abbrev pub bindings_rules : List Choice
bindings_rules =
    takes (each (codes "p")) rules.Binding (Kind NAME ∷ Kind TYPE ∷ Kind BINDINGS ∷ []) ∷ []

abbrev pub constant_rules : List Choice
constant_rules =
    takes (each signed_letters) rules.SignedConstant (Kind MINUS ∷ Number Hex ∷ [])
    ∷ takes (each unsigned_letters) rules.UnsignedConstant (Number Hex ∷ [])
    ∷ takes (each (codes "b")) rules.BoolConstant (Kind TRUTH ∷ Byte 95 ∷ [])
    ∷ takes (each (codes "c")) rules.CharConstant (Number Hex ∷ [])
    ∷ takes (each (codes "p")) rules.Placeholder []
    ∷ takes (each (codes "B")) rules.ConstantReference (Number Base62 ∷ []) ∷ []

abbrev pub minus_rules : List Choice
minus_rules =
    takes (each (codes "n")) rules.Minus [] ∷ []

abbrev pub truth_rules : List Choice
truth_rules =
    takes (each (codes "0")) rules.False []
    ∷ takes (each (codes "1")) rules.True [] ∷ []

-- a kind that is never empty: its rules, what may follow it, its rank (above the ranks of the kinds that its chains begin
-- with), and the height of its lowest tree
abbrev pub kind : List Choice → List ByteRange → ℕ → ℕ → KindSheet
kind choices after rank height = record { choices = choices; may_be_empty = false; after = after; rank = rank; height = height }

-- a kind that may be empty
abbrev pub optional : List Choice → List ByteRange → ℕ → KindSheet
optional choices after rank = record { choices = choices; may_be_empty = true; after = after; rank = rank; height = 0 }

-- the default, which no kind has
abbrev pub no_kind : KindSheet
no_kind = kind [] [] 0 0

-- the kinds by number
abbrev pub kinds : List KindSheet
kinds =
    kind symbol_rules [] 0 2
    ∷ kind path_rules behind_component 0 1
    ∷ optional path_rules (each (codes ".")) 0
    ∷ optional suffix_rules [] 0
    ∷ kind suffix_byte_rules suffix_bytes 0 1
    ∷ optional suffix_rest_rules [] 0
    ∷ kind namespace_rules paths 0 1
    ∷ optional disambiguator_rules paths 0
    ∷ kind identifier_rules behind_component 1 1
    ∷ kind name_rules behind_component 1 1
    ∷ optional arguments_rules (each (codes "E")) 1
    ∷ kind type_rules behind_component 0 1
    ∷ kind types_rules behind_component 1 1
    ∷ optional some_lifetime_rules types 0
    ∷ kind lifetime_rules behind_component 0 1
    ∷ optional binder_rules (types ++ each (codes "EKU")) 0
    ∷ optional unsafe_rules (types ++ each (codes "EK")) 0
    ∷ optional abi_rules (types ++ each (codes "E")) 0
    ∷ kind abi_name_rules (types ++ each (codes "E")) 1 1
    ∷ kind bounds_rules (each (codes "L")) 1 1
    ∷ optional bindings_rules (paths ++ each (codes "E")) 0
    ∷ kind constant_rules behind_component 0 1
    ∷ optional minus_rules (digits ++ range 95 95 ∷ range 97 102 ∷ []) 0
    ∷ kind truth_rules (each (codes "_")) 0 1 ∷ []

abbrev pub v0_table : Table
v0_table = table_of no_kind kinds Rust
