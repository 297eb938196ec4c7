use Rattle.std.proofs.Common.{rules}
use Rattle.rust_v0.proofs.Printing.{adds-none}
use Rattle.rust_v0.proofs.nodes.RustNodes.add_made.Goals as goal

pub returns-in-Err-clause-adds : goal.returns-in-Err-clause-adds
returns-in-Err-clause-adds c = adds-none c.args.self.now _ (search rules)
