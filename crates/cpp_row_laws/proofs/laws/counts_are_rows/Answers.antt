use Rattle.cpp_link.proofs.RowNodes.{same_quiet, same_before_nodes, same_end_nodes}
use Rattle.cpp_row_laws.proofs.Same.{same_end}
use Rattle.cpp_row_laws.proofs.laws.counts_are_rows.Goals as goal

pub returns-clause-quiet : goal.returns-clause-quiet
returns-clause-quiet c = same_quiet

pub returns-clause-most : goal.returns-clause-most
returns-clause-most c = same_end

pub returns-clause-before : goal.returns-clause-before
returns-clause-before c = same_before_nodes

pub returns-clause-at_end : goal.returns-clause-at_end
returns-clause-at_end c = same_end_nodes
