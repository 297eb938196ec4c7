-- What a symbol is by the productions of its nodes.
use Rattle.std.specs.Prelude.{◌≡◌, ◌<◌, ℕ, Bool, ◌||◌, ◌&&◌, nat_eq, if◌then◌else◌, Option, Some, None}
use Rattle.cpp_layout.specs.Layout.{ReadSymbol, table_of}
use Rattle.cpp_tree.specs.Views.{plain_tree}
use Rattle.cpp_tree.specs.declared.tree_production.TheConstants.{INSTANCE, LOCAL, NUMBERED_LOCAL, TAGGED, OF_DEFAULT, HOLDER, SPECIAL, GUARD, OF_NAME, CONSTRUCTION, CLONE, THUNK, TABLE_THUNK, COVARIANT_THUNK, WIDE_THUNK, OPERATOR, STD_OPERATOR, NESTED_OPERATOR, LITERAL_OPERATOR, STD_LITERAL_OPERATOR, NESTED_LITERAL_OPERATOR, CONSTRUCTOR, STD_CONSTRUCTOR, NESTED_CONSTRUCTOR, DESTRUCTOR, STD_DESTRUCTOR, NESTED_DESTRUCTOR, LAMBDA, STD_LAMBDA, NESTED_LAMBDA, GENERIC_LAMBDA, STD_GENERIC_LAMBDA, NESTED_GENERIC_LAMBDA, STRING_LITERAL, STD_STRING_LITERAL, NESTED_STRING_LITERAL, CONVERSION, STD_CONVERSION, NESTED_CONVERSION, INHERITING, STD_INHERITING, NESTED_INHERITING}
use Rattle.sym_parts.specs.declared.kind.NameKind.{NameKind}
use Rattle.sym_parts.specs.declared.kind.NameKind.TheVariants as kind
use Rattle.cpp_parts.specs.Kinds.{own_name, special_kind, of_name_kind}

-- whether a production is one of three: those of a piece without a scope, of a piece in std, and of a piece after a prefix
unfoldable pub is_any : (production first second third : ℕ) → Bool
is_any production first second third = nat_eq production first || (nat_eq production second || nat_eq production third)

unfoldable pub is_string_by : (production : ℕ) → Bool
is_string_by p = is_any p STRING_LITERAL STD_STRING_LITERAL NESTED_STRING_LITERAL

unfoldable pub is_lambda_by : (production : ℕ) → Bool
is_lambda_by p = is_any p LAMBDA STD_LAMBDA NESTED_LAMBDA || is_any p GENERIC_LAMBDA STD_GENERIC_LAMBDA NESTED_GENERIC_LAMBDA

unfoldable pub is_constructor_by : (production : ℕ) → Bool
is_constructor_by p = is_any p CONSTRUCTOR STD_CONSTRUCTOR NESTED_CONSTRUCTOR || is_any p INHERITING STD_INHERITING NESTED_INHERITING

unfoldable pub is_operator_by : (production : ℕ) → Bool
is_operator_by p = is_any p OPERATOR STD_OPERATOR NESTED_OPERATOR

-- the number of the part that has a tree's own name, by the tree's production; none if the tree is itself an own name
unfoldable pub inner_part_by : (production : ℕ) → Option ℕ
inner_part_by p =
    if nat_eq p LOCAL || nat_eq p NUMBERED_LOCAL then Some 1
    else if nat_eq p INSTANCE || (nat_eq p TAGGED || (nat_eq p OF_DEFAULT || nat_eq p HOLDER)) then Some 0
    else None

-- the kind of an operator: the call of a lambda, or an operator
unfoldable pub called_kind : (in_lambda is_call : Bool) → NameKind
called_kind in_lambda is_call = if in_lambda && is_call then kind.Lambda else kind.Operator

-- the kind of an entity in a function
unfoldable pub local_kind : (is_string : Bool) → NameKind
local_kind is_string = if is_string then kind.StringLiteral else kind.LocalVariable

-- the kind of a function by the production of its own name, if the name isn't a lambda's
unfoldable pub piece_kind_by : (production : ℕ) → NameKind
piece_kind_by p =
    if is_constructor_by p then kind.Constructor
    else if is_any p DESTRUCTOR STD_DESTRUCTOR NESTED_DESTRUCTOR then kind.Destructor
    else if is_operator_by p then kind.Operator
    else if is_any p LITERAL_OPERATOR STD_LITERAL_OPERATOR NESTED_LITERAL_OPERATOR then kind.LiteralOperator
    else if is_any p CONVERSION STD_CONVERSION NESTED_CONVERSION then kind.Conversion
    else kind.Function

-- the kind of an encoding that is neither a function nor an object, by its production and, if it has one, by its letter
unfoldable pub other_kind_by : (production letter : ℕ) → NameKind
other_kind_by p letter =
    if nat_eq p SPECIAL then special_kind letter
    else if nat_eq p GUARD then kind.Guard
    else if nat_eq p OF_NAME then of_name_kind letter
    else if nat_eq p THUNK then kind.Thunk
    else if nat_eq p TABLE_THUNK then kind.VirtualThunk
    else if nat_eq p COVARIANT_THUNK then kind.CovariantThunk
    else if nat_eq p WIDE_THUNK then kind.CovariantThunk
    else if nat_eq p CONSTRUCTION then kind.ConstructionVtable
    else if nat_eq p CLONE then kind.TransactionClone
    else kind.Variable

-- a node is an own name, or has the own name of an earlier node
abbrev pub IsInner : ReadSymbol → (node : ℕ) → Option ℕ → Type 0
IsInner y node None = own_name (plain_tree (table_of y) node) ≡ plain_tree (table_of y) node
IsInner y node (Some inner) = (own_name (plain_tree (table_of y) node) ≡ own_name (plain_tree (table_of y) inner)) × (inner < node)
