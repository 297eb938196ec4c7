use Rattle.sym_shape.specs.declared.rule.Sym.TheVariants.{Kind}
use Rattle.cpp_grammar.proofs.ClosedTrees as closed
use Rattle.cpp_grammar.proofs.Growing.{abi_wide}
use Rattle.cpp_grammar.proofs.laws.scopes_are_closed.Goals as goal

pub returns-clause-wide : goal.returns-clause-wide
returns-clause-wide c = closed.wide_scopes_are_closed

pub returns-clause-abi : goal.returns-clause-abi
returns-clause-abi c = λ shape t is. closed.scopes_are_closed shape t (abi_wide (Kind 0) shape is)
