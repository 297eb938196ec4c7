use Rattle.cpp_link.proofs.Basics.{ap, sym, split_of, cell_under}
use Rattle.cpp_link.proofs.Reading.{no_cell}
use Rattle.cpp_link.proofs.signatures.split_of.Goals as goal

pub returns-in-Cell : goal.returns-in-Cell
unfolding split_of cell_under
returns-in-Cell c = ap (λ n. cell_under n c.args.list.under) (sym c.in-Cell.is)

pub returns-in_default : goal.returns-in_default
unfolding split_of
returns-in_default c = no_cell c.args.list.node c.args.list.under c.in_default.not-Cell
