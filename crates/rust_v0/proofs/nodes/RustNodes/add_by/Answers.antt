use Rattle.std.proofs.Common.{rules}
use Rattle.rust_v0.proofs.Printing.{adds-none}
use Rattle.rust_v0.proofs.nodes.RustNodes.add_by.Goals as goal

pub returns-in_default-clause-adds : goal.returns-in_default-clause-adds
returns-in_default-clause-adds c = adds-none c.args.self.now _ (search rules)
