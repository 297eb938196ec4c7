use Rattle.cpp_term.proofs.Wholes.{read_as, wide_read_as}
use Rattle.cpp_term.proofs.symbols_are_read_as_trees.Goals as goal

pub returns-clause-abi : goal.returns-clause-abi
returns-clause-abi c = read_as

pub returns-clause-wide : goal.returns-clause-wide
returns-clause-wide c = wide_read_as
