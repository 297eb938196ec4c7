use Rattle.cpp_grammar.proofs.Basics.{Kind, abi_before}
use Rattle.cpp_grammar.proofs.Growing.{earlier_tree}
use Rattle.cpp_grammar.proofs.laws.earlier_trees_stay.Goals as goal

pub returns-clause-trees : goal.returns-clause-trees
returns-clause-trees c = earlier_tree (Kind 0)

pub returns-clause-rows : goal.returns-clause-rows
returns-clause-rows c = λ s before now h k. c.grown_keeps.ensures.same abi_before s before now (earlier_tree (Kind 0)) h k

pub returns-clause-places : goal.returns-clause-places
returns-clause-places c = λ s before now h k. c.grown_keeps.ensures.places abi_before s before now (earlier_tree (Kind 0)) h k
