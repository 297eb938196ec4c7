use Rattle.cpp_grammar.proofs.Basics.{Kind, abi}
use Rattle.cpp_grammar.proofs.Growing.{abi_wide}
use Rattle.cpp_grammar.proofs.laws.abi_trees_stay.Goals as goal

pub returns-clause-trees : goal.returns-clause-trees
returns-clause-trees c = abi_wide (Kind 0)

pub returns-clause-rows : goal.returns-clause-rows
returns-clause-rows c = λ s before now h k. c.grown_keeps.ensures.same abi s before now (abi_wide (Kind 0)) h k

pub returns-clause-places : goal.returns-clause-places
returns-clause-places c = λ s before now h k. c.grown_keeps.ensures.places abi s before now (abi_wide (Kind 0)) h k
