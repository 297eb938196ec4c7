-- What the shape of a symbol is read as.
use Rattle.std.specs.Prelude.{◌≡◌, ℕ, List, [], ◌∷◌, true, Result, Ok}
use Rattle.sym_core.specs.declared.refusal.Refusal.{Refusal}
use Rattle.cpp_grammar.specs.Term as plain_
use Rattle.cpp_term.specs.Term.{Term, symbol}
use Rattle.cpp_term.specs.Values.{Value, tree}
use Rattle.cpp_term.specs.Erased.{erase, CarriesArguments}

-- The values are one tree, that of an encoding with what follows it. Each of the tree's free parameters carries its
-- argument. Without the arguments, the tree is the one that the symbol denotes.
pub record IsReadAs (stands_for : Result plain_.Term Refusal) (values : List Value) : Type 0 where
  pub encoding : Term
  pub suffix : List ℕ
  pub one : values ≡ tree (symbol encoding suffix) true ∷ []
  pub plain : stands_for ≡ Ok (erase (symbol encoding suffix))
  pub carries : CarriesArguments (symbol encoding suffix)
