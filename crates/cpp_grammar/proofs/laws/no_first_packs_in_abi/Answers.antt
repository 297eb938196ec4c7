use Rattle.cpp_grammar.proofs.Alone.{list_first, list_any}
use Rattle.cpp_grammar.proofs.laws.no_first_packs_in_abi.Goals as goal

pub returns-clause-first : goal.returns-clause-first
returns-clause-first c = list_first

pub returns-clause-others : goal.returns-clause-others
returns-clause-others c = list_any
