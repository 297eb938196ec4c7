use Rattle.std.specs.List.{All}
use Rattle.sym_print.specs.Printing.{entries}
use Rattle.check_rows.proofs.printing.printed_in_steps.Given as goal

abbrev pub invariant-steps : goal.invariant-steps
invariant-steps g l = All (g.Y.Layout.may_come l.y) (entries l.printer)
