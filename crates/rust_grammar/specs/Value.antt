-- What the parts of a symbol denote.
use Rattle.std.specs.Prelude.{ℕ, List, Bool, Option}
use Rattle.rust_grammar.specs.declared.production.Production.{Production}
use Rattle.rust_tree.specs.Symbol as tree

-- an integer by its sign and its magnitude; zero has no minus
pub record Integer : Type 0 where
  pub minus : Bool
  pub magnitude : ℕ

pub data Value : Type 0 where
  -- the value of a number in base 62, or that of a character in base 16
  number : ℕ → Value
  an_integer : Integer → Value
  letter : ℕ → Value
  a_name : tree.Name → Value
  an_identifier : tree.Identifier → Value
  a_disambiguator : ℕ → Value
  a_binder : ℕ → Value
  a_lifetime : ℕ → Value
  unsafe_mark : Value
  an_abi : tree.Abi → Value
  a_truth : Bool → Value
  minus_mark : Value
  a_path : tree.Path → Value
  a_type : tree.Ty → Value
  a_constant : tree.Constant → Value
  some_arguments : tree.Arguments → Value
  some_types : tree.Tys → Value
  some_bounds : tree.Bounds → Value
  some_bindings : tree.Bindings → Value
  a_suffix : List ℕ → Value
  suffix_rest : Value
  a_symbol : tree.Symbol → Value

-- a path, type or constant that has ended, and the place where it began
pub record Ended : Type 0 where
  pub place : ℕ
  pub value : Value

-- What has ended so far, the last first; the production of the rule whose part comes next; and whether a minus precedes that
-- part.
pub record State : Type 0 where
  pub ended : List Ended
  pub inside : Option Production
  pub minus : Bool
