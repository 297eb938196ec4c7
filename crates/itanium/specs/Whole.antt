-- A linked symbol has one part, which is the node of what its shape denotes.
use Rattle.std.specs.Prelude.{◌≡◌, ℕ, ◌*◌, ◌+◌, ◌<◌, ◌≤◌, List, [], ◌∷◌, length, Bool, Result, Ok}
use Rattle.sym_core.specs.declared.refusal.Refusal.{Refusal}
use Rattle.cpp_grammar.specs.Term as plain_
use Rattle.cpp_term.specs.Term.{Term, symbol}
use Rattle.cpp_term.specs.Erased.{erase, CarriesArguments}
use Rattle.cpp_tree.specs.Nodes.{tree_at, over, IsTable}
use Rattle.cpp_link.specs.declared.part.Part.{Part}
use Rattle.cpp_link.specs.declared.linked.Linked.{Linked}
use Rattle.cpp_link.specs.Parts.{trees_in}

pub record HasWhole (s : List ℕ) (stands_for : Result plain_.Term Refusal) (linked : Linked) (parts : List Part) : Type 0 where
  pub node : ℕ
  pub listed : Bool
  pub encoding : Term
  pub suffix : List ℕ
  pub parts_are : parts ≡ Part.Tree node listed ∷ []
  pub below : node < length linked.nodes.nodes
  pub whole : tree_at (trees_in s linked.nodes) node ≡ symbol encoding suffix
  pub carries : CarriesArguments (symbol encoding suffix)
  pub stands : stands_for ≡ Ok (erase (symbol encoding suffix))
  pub table : IsTable (over s linked.nodes)
  pub nodes : length linked.nodes.nodes ≤ 2 * length s + 8
  pub thunks : length linked.nodes.thunks ≤ length linked.nodes.nodes
