use Rattle.std.proofs.Common.{arith}
use Rattle.sym_print.proofs.Stack.{printed-within}
use Rattle.sym_print.proofs.printer.print.Goals as goal

pub returns-clause-within : goal.returns-clause-within
returns-clause-within g c =
    printed-within (g.Y.Layout.unshared c.args.y.now) (g.Y.Layout.bytes_of c.args.y.now) c.run.new.self
    c.in_ok-printer.ensures.ok c.in_ok-run.ensures.done.0 c.run.ensures.cost c.run.ensures.limit (omega arith)
