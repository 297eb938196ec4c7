-- What a symbol's shape denotes. The parts of each rule are read in the order of their bytes, and then the rule's
-- production says what they denote together.
use Rattle.std.specs.Prelude.{ℕ, ◌+◌, drop, slice_index, List, [], ◌∷◌, Bool, true, false, ◌&&◌, ◌||◌, if◌then◌else◌, ◌==◌, nat_le, nat_lt, Option, Some, None, Result, Ok, Err}
use Rattle.sym_core.specs.declared.refusal.Refusal.{Refusal}
use Rattle.sym_core.specs.declared.refusal.Refusal.TheVariants.{BadReference, BadValue, Malformed}
use Rattle.sym_core.specs.declared.NumberKind.TheVariants.{Base62, Hex}
use Rattle.sym_core.specs.Value.{value_of, counted_value}
use Rattle.sym_shape.specs.Tree.{Tree, spell}
use Rattle.sym_link.specs.Reading.{Found, Open, Reading, ◌>>=◌}
use Rattle.sym_link.specs.Unfold.{found, unfold_tree}
use Rattle.rust_grammar.specs.declared.production.Production.{Production}
use Rattle.rust_grammar.specs.declared.production.Production.TheVariants as rules
use Rattle.rust_grammar.specs.Productions.{production_of}
use Rattle.rust_grammar.specs.Value.{Value, Ended, State, Integer, number, an_integer, letter, a_name, an_identifier, a_disambiguator, a_binder, a_lifetime, unsafe_mark, an_abi, a_truth, minus_mark, a_path, a_type, a_constant, some_arguments, some_types, some_bounds, some_bindings, a_suffix, suffix_rest, a_symbol}
use Rattle.rust_tree.specs.Nodes.{most_bound}
use Rattle.rust_tree.specs.Symbol as tree
use Rattle.rust_tree.specs.Need.{need, need_of_type}

-- the value of a number in base 62: 0 where there are no digits, otherwise one more than the digits denote
abbrev pub value62 : List ℕ → ℕ
value62 = counted_value Base62

-- the value of hexadecimal digits, 0 where there are none
abbrev pub value16 : List ℕ → ℕ
value16 = value_of Hex

abbrev pub is_scalar : ℕ → Bool
is_scalar c = nat_lt c 55296 || (nat_le 57344 c && nat_lt c 1114112)

-- The refusal of parts that aren't those of the rule. No well shaped symbol has it.
abbrev pub no_such_parts : Refusal
no_such_parts = Malformed 0

-- the next part, of one sort, and the parts after it
abbrev pub Part : Type 0 → Type 0
Part A = Result (A × List Value) Refusal

abbrev pub number_part : List Value → Part ℕ
number_part (number n ∷ rest) = Ok (n, rest)
number_part _ = Err no_such_parts

abbrev pub integer_part : List Value → Part Integer
integer_part (an_integer integer ∷ rest) = Ok (integer, rest)
integer_part _ = Err no_such_parts

abbrev pub letter_part : List Value → Part ℕ
letter_part (letter c ∷ rest) = Ok (c, rest)
letter_part _ = Err no_such_parts

abbrev pub name_part : List Value → Part tree.Name
name_part (a_name name ∷ rest) = Ok (name, rest)
name_part _ = Err no_such_parts

abbrev pub identifier_part : List Value → Part tree.Identifier
identifier_part (an_identifier name ∷ rest) = Ok (name, rest)
identifier_part (a_name name ∷ rest) = Ok (record { disambiguator = 0; name = name }, rest)
identifier_part _ = Err no_such_parts

abbrev pub path_part : List Value → Part tree.Path
path_part (a_path path ∷ rest) = Ok (path, rest)
path_part _ = Err no_such_parts

-- a path is a type too
abbrev pub type_part : List Value → Part tree.Ty
type_part (a_path path ∷ rest) = Ok (tree.path_type path, rest)
type_part (a_type type ∷ rest) = Ok (type, rest)
type_part _ = Err no_such_parts

abbrev pub constant_part : List Value → Part tree.Constant
constant_part (a_constant constant ∷ rest) = Ok (constant, rest)
constant_part _ = Err no_such_parts

abbrev pub lifetime_part : List Value → Part ℕ
lifetime_part (a_lifetime lifetime ∷ rest) = Ok (lifetime, rest)
lifetime_part _ = Err no_such_parts

abbrev pub truth_part : List Value → Part Bool
truth_part (a_truth truth ∷ rest) = Ok (truth, rest)
truth_part _ = Err no_such_parts

abbrev pub abi_value_part : List Value → Part tree.Abi
abi_value_part (an_abi abi ∷ rest) = Ok (abi, rest)
abi_value_part (a_name name ∷ rest) = Ok (tree.named_abi name, rest)
abi_value_part _ = Err no_such_parts

abbrev pub types_part : List Value → Part tree.Tys
types_part (some_types types ∷ rest) = Ok (types, rest)
types_part _ = Err no_such_parts

abbrev pub bounds_part : List Value → Part tree.Bounds
bounds_part (some_bounds bounds ∷ rest) = Ok (bounds, rest)
bounds_part _ = Err no_such_parts

-- parts that may be missing
abbrev pub disambiguator_part : List Value → Part ℕ
disambiguator_part (a_disambiguator count ∷ rest) = Ok (count, rest)
disambiguator_part rest = Ok (0, rest)

abbrev pub binder_part : List Value → Part ℕ
binder_part (a_binder lifetimes ∷ rest) = Ok (lifetimes, rest)
binder_part rest = Ok (0, rest)

abbrev pub some_lifetime_part : List Value → Part ℕ
some_lifetime_part (a_lifetime lifetime ∷ rest) = Ok (lifetime, rest)
some_lifetime_part rest = Ok (0, rest)

abbrev pub unsafe_part : List Value → Part Bool
unsafe_part (unsafe_mark ∷ rest) = Ok (true, rest)
unsafe_part rest = Ok (false, rest)

abbrev pub minus_part : List Value → Part Bool
minus_part (minus_mark ∷ rest) = Ok (true, rest)
minus_part rest = Ok (false, rest)

abbrev pub abi_part : List Value → Part tree.Abi
abi_part (an_abi abi ∷ rest) = Ok (abi, rest)
abi_part rest = Ok (tree.rust_abi, rest)

abbrev pub arguments_part : List Value → Part tree.Arguments
arguments_part (some_arguments arguments ∷ rest) = Ok (arguments, rest)
arguments_part rest = Ok (tree.no_arguments, rest)

abbrev pub bindings_part : List Value → Part tree.Bindings
bindings_part (some_bindings bindings ∷ rest) = Ok (bindings, rest)
bindings_part rest = Ok (tree.no_bindings, rest)

abbrev pub suffix_part : List Value → Part (List ℕ)
suffix_part (a_suffix bytes ∷ rest) = Ok (bytes, rest)
suffix_part rest = Ok ([], rest)

abbrev pub other_path_part : List Value → Part (Option tree.Path)
other_path_part (a_path path ∷ rest) = Ok (Some path, rest)
other_path_part rest = Ok (None, rest)

-- Where a rule is: the symbol and the place in it, how many lifetimes are bound around it, and what has ended once its
-- parts are read.
pub record At : Type 0 where
  pub symbol : List ℕ
  pub place : ℕ
  pub bound : ℕ
  pub ended : List Ended

-- the byte at the place
abbrev pub byte_at : At → ℕ
byte_at at = slice_index at.symbol at.place

abbrev pub Meaning : Type 0
Meaning = Result (Found Value State) Refusal

-- nothing that a reference may name has ended
abbrev pub plain : At → Value → Meaning
plain at value = Ok (record { value = value; state = record { ended = at.ended; inside = None; minus = false } })

-- a path, a type or a constant has ended
abbrev pub ends : At → Value → Meaning
ends at value = Ok (record { value = value; state = record { ended = record { place = at.place; value = value } ∷ at.ended; inside = None; minus = false } })

abbrev pub ends_path : At → tree.Path → Meaning
ends_path at path = ends at (a_path path)

abbrev pub ends_type : At → tree.Ty → Meaning
ends_type at type = ends at (a_type type)

abbrev pub ends_constant : At → tree.Constant → Meaning
ends_constant at constant = ends at (a_constant constant)

-- the value that began at a place, if it has ended
abbrev pub ended_at : List Ended → ℕ → Option Value
ended_at [] place = None
ended_at (e ∷ es) place = if e.place == place then Some e.value else ended_at es place

-- A reference to a path takes a path, or a type that is one; a reference to a type takes a type, or a path.
abbrev pub as_path : Option Value → Option tree.Path
as_path (Some (a_path path)) = Some path
as_path (Some (a_type (tree.path_type path))) = Some path
as_path _ = None

abbrev pub as_type : Option Value → Option tree.Ty
as_type (Some (a_path path)) = Some (tree.path_type path)
as_type (Some (a_type type)) = Some type
as_type _ = None

abbrev pub as_constant : Option Value → Option tree.Constant
as_constant (Some (a_constant constant)) = Some constant
as_constant _ = None

-- The ended node that a reference names. The reference's number counts the bytes after `_R`.
abbrev pub referred : At → ℕ → Option Value
referred at n = ended_at at.ended (n + 2)

-- the referenced tree needs no more lifetimes than are bound here
abbrev pub refers_to_path : At → Option tree.Path → Meaning
refers_to_path at None = Err (BadReference at.place)
refers_to_path at (Some path) = if nat_le (need path) at.bound then ends_path at path else Err (BadReference at.place)

abbrev pub refers_to_type : At → Option tree.Ty → Meaning
refers_to_type at None = Err (BadReference at.place)
refers_to_type at (Some type) = if nat_le (need_of_type type) at.bound then ends_type at type else Err (BadReference at.place)

abbrev pub refers_to_constant : At → Option tree.Constant → Meaning
refers_to_constant at None = Err (BadReference at.place)
refers_to_constant at (Some constant) = ends_constant at constant

-- a lifetime is bound here, or erased
abbrev pub lifetime_of : At → ℕ → Meaning
lifetime_of at lifetime = if nat_le lifetime at.bound then plain at (a_lifetime lifetime) else Err (BadReference at.place)

-- a number, which is refused where it is greater than the limit
abbrev pub bounded : At → ℕ → ℕ → Result ℕ Refusal
bounded at limit n = if nat_le n limit then Ok n else Err (BadValue at.place)

abbrev pub greatest_u64 : ℕ
greatest_u64 = 18446744073709551615

abbrev pub greatest_u128 : ℕ
greatest_u128 = 340282366920938463463374607431768211455

-- the count of a disambiguator
abbrev pub disambiguator_of : At → ℕ → Result ℕ Refusal
disambiguator_of at n = bounded at greatest_u64 (n + 1)

abbrev pub integer_of : At → Integer → Meaning
integer_of at integer = do
  n ← bounded at greatest_u128 integer.magnitude
  ends_constant at (tree.integer (byte_at at) integer.minus n)

abbrev pub character_of : At → ℕ → Meaning
character_of at c = if is_scalar c then ends_constant at (tree.character c) else Err (BadValue at.place)

-- what the parts of a rule denote together
abbrev pub meaning : Production → At → List Value → Meaning
meaning rules.Symbol at parts = do
  path ← path_part parts
  other ← other_path_part path.1
  suffix ← suffix_part other.1
  plain at (a_symbol (record { path = path.0; instantiating = other.0; suffix = suffix.0 }))
-- a suffix extends to the symbol's end
meaning rules.Suffix at parts = plain at (a_suffix (drop at.place at.symbol))
meaning rules.SuffixByte at parts = plain at suffix_rest
meaning rules.PathReference at parts = do
  n ← number_part parts
  refers_to_path at (as_path (referred at n.0))
meaning rules.Crate at parts = do
  name ← identifier_part parts
  ends_path at (tree.crate_root name.0)
meaning rules.InherentImpl at parts = do
  disambiguator ← disambiguator_part parts
  path ← path_part disambiguator.1
  type ← type_part path.1
  ends_path at (tree.inherent_impl disambiguator.0 path.0 type.0)
meaning rules.TraitImpl at parts = do
  disambiguator ← disambiguator_part parts
  path ← path_part disambiguator.1
  type ← type_part path.1
  implemented ← path_part type.1
  ends_path at (tree.trait_impl disambiguator.0 path.0 type.0 implemented.0)
meaning rules.TraitDefinition at parts = do
  type ← type_part parts
  implemented ← path_part type.1
  ends_path at (tree.trait_definition type.0 implemented.0)
meaning rules.Nested at parts = do
  namespace ← letter_part parts
  parent ← path_part namespace.1
  name ← identifier_part parent.1
  ends_path at (tree.nested namespace.0 parent.0 name.0)
meaning rules.Generic at parts = do
  path ← path_part parts
  arguments ← arguments_part path.1
  ends_path at (tree.generic path.0 arguments.0)
meaning rules.Namespace at parts = plain at (letter (byte_at at))
meaning rules.Disambiguator at parts = do
  n ← number_part parts
  count ← disambiguator_of at n.0
  plain at (a_disambiguator count)
meaning rules.DisambiguatedIdentifier at parts = do
  n ← number_part parts
  name ← name_part n.1
  count ← disambiguator_of at n.0
  plain at (an_identifier (record { disambiguator = count; name = name.0 }))
meaning rules.PunycodeName at parts = do
  name ← name_part parts
  plain at (a_name name.0)
meaning rules.PlainName at parts = do
  name ← name_part parts
  plain at (a_name name.0)
meaning rules.LifetimeArgument at parts = do
  lifetime ← lifetime_part parts
  rest ← arguments_part lifetime.1
  plain at (some_arguments (tree.lifetime_argument lifetime.0 rest.0))
meaning rules.ConstantArgument at parts = do
  constant ← constant_part parts
  rest ← arguments_part constant.1
  plain at (some_arguments (tree.constant_argument constant.0 rest.0))
meaning rules.TypeArgument at parts = do
  type ← type_part parts
  rest ← arguments_part type.1
  plain at (some_arguments (tree.type_argument type.0 rest.0))
meaning rules.BasicType at parts = ends_type at (tree.basic (byte_at at))
meaning rules.TypeReference at parts = do
  n ← number_part parts
  refers_to_type at (as_type (referred at n.0))
meaning rules.Array at parts = do
  type ← type_part parts
  size ← constant_part type.1
  ends_type at (tree.array type.0 size.0)
meaning rules.Slice at parts = do
  type ← type_part parts
  ends_type at (tree.slice type.0)
meaning rules.Tuple at parts = do
  types ← types_part parts
  ends_type at (tree.tuple types.0)
meaning rules.SharedReference at parts = do
  lifetime ← some_lifetime_part parts
  type ← type_part lifetime.1
  ends_type at (tree.shared_reference lifetime.0 type.0)
meaning rules.MutableReference at parts = do
  lifetime ← some_lifetime_part parts
  type ← type_part lifetime.1
  ends_type at (tree.mutable_reference lifetime.0 type.0)
meaning rules.ConstPointer at parts = do
  type ← type_part parts
  ends_type at (tree.const_pointer type.0)
meaning rules.MutPointer at parts = do
  type ← type_part parts
  ends_type at (tree.mut_pointer type.0)
meaning rules.Function at parts = do
  binder ← binder_part parts
  unsafe ← unsafe_part binder.1
  abi ← abi_part unsafe.1
  types ← types_part abi.1
  returned ← type_part types.1
  ends_type at (tree.function binder.0 unsafe.0 abi.0 types.0 returned.0)
meaning rules.Dyn at parts = do
  binder ← binder_part parts
  bounds ← bounds_part binder.1
  lifetime ← lifetime_part bounds.1
  ends_type at (tree.dyn binder.0 bounds.0 lifetime.0)
meaning rules.TypesEnd at parts = plain at (some_types tree.no_types)
meaning rules.TypesMore at parts = do
  type ← type_part parts
  rest ← types_part type.1
  plain at (some_types (tree.more_types type.0 rest.0))
meaning rules.Lifetime at parts = do
  n ← number_part parts
  lifetime_of at n.0
meaning rules.Binder at parts = do
  n ← number_part parts
  lifetimes ← bounded at most_bound (n.0 + 1)
  plain at (a_binder lifetimes)
meaning rules.Unsafe at parts = plain at unsafe_mark
meaning rules.Abi at parts = do
  abi ← abi_value_part parts
  plain at (an_abi abi.0)
meaning rules.AbiC at parts = plain at (an_abi tree.c_abi)
meaning rules.BoundsEnd at parts = plain at (some_bounds tree.no_bounds)
meaning rules.BoundsMore at parts = do
  path ← path_part parts
  bindings ← bindings_part path.1
  rest ← bounds_part bindings.1
  plain at (some_bounds (tree.more_bounds path.0 bindings.0 rest.0))
meaning rules.Binding at parts = do
  name ← name_part parts
  type ← type_part name.1
  rest ← bindings_part type.1
  plain at (some_bindings (tree.more_bindings name.0 type.0 rest.0))
meaning rules.SignedConstant at parts = do
  minus ← minus_part parts
  integer ← integer_part minus.1
  integer_of at integer.0
meaning rules.UnsignedConstant at parts = do
  integer ← integer_part parts
  integer_of at integer.0
meaning rules.BoolConstant at parts = do
  truth ← truth_part parts
  ends_constant at (tree.boolean truth.0)
meaning rules.False at parts = plain at (a_truth false)
meaning rules.True at parts = plain at (a_truth true)
meaning rules.CharConstant at parts = do
  n ← number_part parts
  character_of at (n.0)
meaning rules.Placeholder at parts = ends_constant at tree.placeholder
meaning rules.ConstantReference at parts = do
  n ← number_part parts
  refers_to_constant at (as_constant (referred at n.0))
meaning rules.Minus at parts = plain at minus_mark

abbrev pub meaning_of : Option Production → At → List Value → Meaning
meaning_of None at parts = Err no_such_parts
meaning_of (Some production) at parts = meaning production at parts

-- How many lifetimes are bound around the next part of a rule: a binder of `F` holds for all parts after it, a binder of `D`
-- only for its bounds.
abbrev pub bound_behind : Option Production → ℕ → List Value → ℕ
bound_behind (Some rules.Function) outer (a_binder lifetimes ∷ _) = outer + lifetimes
bound_behind (Some rules.Dyn) outer (a_binder lifetimes ∷ []) = outer + lifetimes
bound_behind _ outer parts = outer

abbrev pub an_integer_of : Bool → ℕ → Value
an_integer_of minus n = an_integer (record { minus = minus && nat_lt 0 n; magnitude = n })

-- The value of a token, by its own bytes, by the production that it is a part of, and by the minus before it.
abbrev pub token_of : Option Production → (minus : Bool) → List ℕ → Value
token_of (Some rules.PlainName) minus own = a_name (record { punycode = false; bytes = own })
token_of (Some rules.PunycodeName) minus own = a_name (record { punycode = true; bytes = own })
token_of (Some rules.SignedConstant) minus own = an_integer_of minus (value16 own)
token_of (Some rules.UnsignedConstant) minus own = an_integer_of false (value16 own)
token_of (Some rules.CharConstant) minus own = number (value16 own)
token_of _ minus own = number (value62 own)

-- the only part so far is a minus
abbrev pub is_minus : List Value → Bool
is_minus (minus_mark ∷ []) = true
is_minus _ = false

abbrev pub at_rule : List ℕ → Open State ℕ → State → At
at_rule s rule state = record { symbol = s; place = rule.place; bound = rule.context; ended = state.ended }

-- the language of a Rust v0 symbol; its context is the number of lifetimes bound
abbrev pub v0 : List ℕ → Reading Value State ℕ
v0 s = record {
  rowless = [];
  token = λ place t state. Ok (found (token_of state.inside state.minus t.own) state);
  begin = λ rule parts. Ok rule.before;
  between = λ rule known state. Ok (record {
    context = bound_behind (production_of rule.rule.number) rule.context known;
    values = known;
    state = record { ended = state.ended; inside = production_of rule.rule.number; minus = is_minus known };
  });
  close = λ rule known state. meaning_of (production_of rule.rule.number) (at_rule s rule state) known;
}

-- nothing has ended
abbrev pub at_first : State
at_first = record { ended = []; inside = None; minus = false }

-- what the whole symbol denotes
abbrev pub symbol_of : List Value → Result tree.Symbol Refusal
symbol_of (a_symbol symbol ∷ []) = Ok symbol
symbol_of _ = Err no_such_parts

abbrev pub unfolded : Tree → Result tree.Symbol Refusal
unfolded shape = unfold_tree (v0 (spell shape)) 0 0 shape at_first >>= λ whole. symbol_of whole.value
