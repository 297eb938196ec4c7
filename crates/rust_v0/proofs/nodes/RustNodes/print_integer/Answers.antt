use Rattle.rust_v0.proofs.Printing.{prints-none}
use Rattle.rust_v0.proofs.nodes.RustNodes.print_integer.Goals as goal

pub returns-then-magnitude-eq0-clause-prints : goal.returns-then-magnitude-eq0-clause-prints
returns-then-magnitude-eq0-clause-prints c = prints-none c.args.self.now
