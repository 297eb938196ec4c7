use Rattle.std.proofs.Common.{ap}
use Rattle.rust_tree.proofs.symbol.Symbol.counts.Goals as goal

pub returns-clause-rows : goal.returns-clause-rows
returns-clause-rows c = ap (λ v. v.rows) c.self.view_is
