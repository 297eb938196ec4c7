-- How the parts in code correspond to the values of the reading.
use Rattle.std.specs.Prelude.{◌≡◌, ℕ, ◌≤◌, ◌<◌, ◌^◌, List, [], Option, Some, None, Result, Ok, Err}
use Rattle.sym_core.specs.declared.Span.{Span}
use Rattle.sym_core.specs.declared.refusal.Refusal.{Refusal}
use Rattle.sym_core.specs.Number.{AreDigits}
use Rattle.sym_core.specs.declared.NumberKind.TheVariants.{Hex}
use Rattle.sym_core.specs.Printed.{signed_text}
use Rattle.sym_link.specs.Driving.{AreAll}
use Rattle.rust_tree.specs.Symbol as tree
use Rattle.rust_tree.specs.Tree.{Tree}
use Rattle.rust_tree.specs.Nodes.{most_bound, IsName, IsAbi, IsPath, IsType, IsConstant, IsArguments, IsTypes, IsBounds, IsBindings, IsSymbol, IsWithin, bytes_at, HasNoZero}
use Rattle.rust_tree.specs.declared.node.Name.{Name}
use Rattle.rust_grammar.specs.Value as value
use Rattle.rust_grammar.specs.Value.{Value}
use Rattle.rust_grammar.specs.Unfold.{value16, Part as Next}
use Rattle.rust_v0.specs.declared.part.Part.{Part}
use Rattle.rust_v0.specs.declared.part.Integer.{Integer}

-- what parts refer to: the symbol, the text list and the trees of the nodes
pub record Ground : Type 0 where
  pub symbol : List ℕ
  pub text : List ℕ
  pub all : List Tree

-- a number, which is absent beyond 64 bits
abbrev pub IsNumber : Option ℕ → ℕ → Type 0
IsNumber None n = 2 ^ 64 ≤ n
IsNumber (Some m) n = (m ≡ n) × (n < 2 ^ 64)

-- an integer's digits and decimal are where they should be
pub record IsInteger (ground : Ground) (found : Integer) (integer : value.Integer) : Type 0 where
  pub minus : found.minus ≡ integer.minus
  pub few : integer.magnitude < 2 ^ 128
  pub digits : IsWithin found.digits ground.symbol
  pub no_zero : HasNoZero (bytes_at ground.symbol found.digits)
  pub hex : AreDigits Hex (bytes_at ground.symbol found.digits)
  pub magnitude : value16 (bytes_at ground.symbol found.digits) ≡ integer.magnitude
  pub printed : IsWithin found.printed ground.text
  pub decimal : bytes_at ground.text found.printed ≡ signed_text integer.minus integer.magnitude

abbrev pub IsSomeInteger : Ground → Option Integer → value.Integer → Type 0
IsSomeInteger ground None integer = 2 ^ 128 ≤ integer.magnitude
IsSomeInteger ground (Some found) integer = IsInteger ground found integer

abbrev pub IsNameOf : Ground → Name → tree.Name → Type 0
IsNameOf ground name spelled = IsName ground.symbol ground.text name spelled

-- an identifier by its name and its disambiguator, which 64 bits hold
abbrev pub IsIdentifier : Ground → Name → ℕ → tree.Identifier → Type 0
IsIdentifier ground name disambiguator identifier = IsNameOf ground name identifier.name × (disambiguator ≡ identifier.disambiguator)

-- a part denotes a value
abbrev pub IsPart : Ground → Part → Value → Type 0
IsPart ground (Part.Number m) (value.number n) = IsNumber m n
IsPart ground (Part.Integer found) (value.an_integer integer) = IsSomeInteger ground found integer
IsPart ground (Part.Letter c) (value.letter d) = c ≡ d
IsPart ground (Part.Name name) (value.a_name spelled) = IsNameOf ground name spelled
IsPart ground (Part.Identifier name disambiguator) (value.an_identifier identifier) = IsIdentifier ground name disambiguator identifier
IsPart ground (Part.Disambiguator m) (value.a_disambiguator n) = m ≡ n
IsPart ground (Part.Binder m) (value.a_binder n) = (m ≡ n) × (n ≤ most_bound)
IsPart ground (Part.Lifetime m) (value.a_lifetime n) = m ≡ n
IsPart ground Part.Unsafe value.unsafe_mark = Unit {0}
IsPart ground (Part.Abi abi) (value.an_abi spelled) = IsAbi ground.symbol ground.text abi spelled
IsPart ground (Part.Truth a) (value.a_truth b) = a ≡ b
IsPart ground Part.Minus value.minus_mark = Unit {0}
IsPart ground (Part.Path node) (value.a_path path) = IsPath ground.all node path
IsPart ground (Part.Type node) (value.a_type type) = IsType ground.all node type
IsPart ground (Part.Constant node) (value.a_constant constant) = IsConstant ground.all node constant
IsPart ground (Part.Arguments node) (value.some_arguments arguments) = IsArguments ground.all node arguments
IsPart ground (Part.Types node) (value.some_types types) = IsTypes ground.all node types
IsPart ground (Part.Bounds node) (value.some_bounds bounds) = IsBounds ground.all node bounds
IsPart ground (Part.Bindings node) (value.some_bindings bindings) = IsBindings ground.all node bindings
IsPart ground (Part.Suffix span) (value.a_suffix bytes) = IsWithin span ground.symbol × (bytes_at ground.symbol span ≡ bytes)
IsPart ground Part.SuffixRest value.suffix_rest = Unit {0}
IsPart ground (Part.Symbol node) (value.a_symbol symbol) = IsSymbol ground.all node symbol
IsPart ground _ _ = ⊥

-- A reading of the first parts agrees with the reading of their values. R relates the part that is read to its value.
abbrev pub Agree : {X A : Type 0} → Ground → (X → A → Type 0) → Result (X × List Part) Refusal → Next A → Type 0
Agree {A = A} ground R (Ok found) read = (a : A) × (values : List Value) × (read ≡ Ok (a, values)) × R found.0 a × AreAll (IsPart ground) found.1 values
Agree ground R (Err e) read = read ≡ Err e

-- a suffix, or none
abbrev pub IsSuffix : Ground → Option Span → List ℕ → Type 0
IsSuffix ground None bytes = bytes ≡ []
IsSuffix ground (Some span) bytes = IsWithin span ground.symbol × (bytes_at ground.symbol span ≡ bytes)

-- a second path, or none
abbrev pub IsOther : List Tree → Option ℕ → Option tree.Path → Type 0
IsOther all None found = found ≡ None
IsOther all (Some node) found = (path : tree.Path) × (found ≡ Some path) × IsPath all node path
