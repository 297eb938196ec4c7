-- What a C++ symbol is, by its tree.
use Rattle.std.specs.Prelude.{ℕ, Bool, true, false, ◌&&◌, nat_eq, if◌then◌else◌}
use Rattle.cpp_grammar.specs.Term.{Term, symbol, function, object, special, thunk, of_name, construction, clone, alone, in_std, within, instance, local, holder, tagged, of_default, operator, literal_operator, constructor, destructor, inheriting, lambda, generic_lambda, string_literal, conversion, absent, non_virtual, by_table, Thunk, adjusting, covariant}
use Rattle.sym_parts.specs.declared.kind.NameKind.{NameKind}
use Rattle.sym_parts.specs.declared.kind.NameKind.TheVariants as kind

-- ## Names

-- a name without its arguments and tags, and without the function or initializer that the name is in
unfoldable pub own_name : Term → Term
own_name (instance template arguments) = own_name template
own_name (tagged of_structor name tag) = own_name name
own_name (local encoding entity discriminator) = own_name entity
own_name (of_default digits entity) = own_name entity
own_name (holder name) = own_name name
own_name t = t

-- the piece at the end of an own name
unfoldable pub piece_of : Term → Term
piece_of (alone piece) = piece
piece_of (in_std piece) = piece
piece_of (within prefix piece) = piece
piece_of t = absent

unfoldable pub is_lambda_piece : Term → Bool
is_lambda_piece (lambda parameters number) = true
is_lambda_piece (generic_lambda parameters number) = true
is_lambda_piece t = false

-- the name is a lambda's
abbrev pub is_lambda : Term → Bool
is_lambda name = is_lambda_piece (piece_of (own_name name))

-- a name without arguments is in a lambda
unfoldable pub is_in_lambda : Term → Bool
is_in_lambda (within prefix piece) = is_lambda prefix
is_in_lambda t = false

-- ## Functions

-- the operator's code is that of a call, cl
unfoldable pub is_call : (first second : ℕ) → Bool
is_call first second = nat_eq first 99 && nat_eq second 108

-- the kind of a function by the piece at the end of its name; the call of a lambda isn't an operator
unfoldable pub piece_kind : (in_lambda : Bool) → Term → NameKind
piece_kind in_lambda (constructor digit) = kind.Constructor
piece_kind in_lambda (inheriting digit base) = kind.Constructor
piece_kind in_lambda (destructor digit) = kind.Destructor
piece_kind in_lambda (operator first second) = if in_lambda && is_call first second then kind.Lambda else kind.Operator
piece_kind in_lambda (literal_operator bytes) = kind.LiteralOperator
piece_kind in_lambda (conversion type) = kind.Conversion
piece_kind in_lambda t = kind.Function

-- the kind of a function by its name without arguments
abbrev pub named_kind : Term → NameKind
named_kind name = piece_kind (is_in_lambda name) (piece_of name)

-- ## What isn't a function

unfoldable pub is_string : Term → Bool
is_string string_literal = true
is_string t = false

-- the kind of an encoding without parameters, by its name
unfoldable pub object_kind : Term → NameKind
object_kind (local encoding entity discriminator) = if is_string (piece_of (own_name entity)) then kind.StringLiteral else kind.LocalVariable
object_kind name = kind.Variable

-- the kind of a special name of a type, by the last letter of its code, V, T, I, S or A; a module's initializer is a function
unfoldable pub special_kind : (letter : ℕ) → NameKind
special_kind letter =
    if nat_eq letter 86 then kind.Vtable else if nat_eq letter 84 then kind.Vtt else if nat_eq letter 73 then kind.Typeinfo
    else if nat_eq letter 83 then kind.TypeinfoName else if nat_eq letter 65 then kind.TemplateObject else kind.Function

-- the kind of a special name of a variable, by the last letter of its code, V, H, W or R
unfoldable pub of_name_kind : (letter : ℕ) → NameKind
of_name_kind letter =
    if nat_eq letter 86 then kind.Guard else if nat_eq letter 72 then kind.TlsInit else if nat_eq letter 87 then kind.TlsWrapper
    else kind.ReferenceTemporary

-- the kind of a thunk by what it adjusts
unfoldable pub thunk_kind : Thunk → NameKind
thunk_kind (adjusting (non_virtual offset)) = kind.Thunk
thunk_kind (adjusting (by_table offset entry)) = kind.VirtualThunk
thunk_kind (covariant this result) = kind.CovariantThunk

-- ## Symbols

-- the kind of an encoding; the tree of each symbol is an encoding
unfoldable pub encoding_kind : Term → NameKind
encoding_kind (function name q mark returned parameters) = named_kind (own_name name)
encoding_kind (object name q mark) = object_kind name
encoding_kind (special letter type) = special_kind letter
encoding_kind (of_name letter name q mark) = of_name_kind letter
encoding_kind (thunk adjustment encoding) = thunk_kind adjustment
encoding_kind (construction derived digits parent) = kind.ConstructionVtable
encoding_kind (clone letter encoding) = kind.TransactionClone
encoding_kind t = kind.Variable

-- the kind of a whole symbol; its suffix doesn't matter
unfoldable pub kind_of_symbol : Term → NameKind
kind_of_symbol (symbol encoding suffix) = encoding_kind encoding
kind_of_symbol t = kind.Variable
