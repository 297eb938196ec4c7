use Rattle.std.proofs.Common.{arith}
use Rattle.sym_print.proofs.Peak.{stack_within}
use Rattle.sym_print.proofs.printer.Printer.take.Goals as goal

pub returns-in-Sub-clause-bounded : goal.returns-in-Sub-clause-bounded
returns-in-Sub-clause-bounded g c =
    omega (arith, c.open_item.ensures.grown.1, stack_within (g.Y.Layout.unshared c.args.y.now) (g.Y.Layout.bytes_of c.args.y.now) c.args.self.now.stack.items, c.args.self.now.stack.ok.0)
