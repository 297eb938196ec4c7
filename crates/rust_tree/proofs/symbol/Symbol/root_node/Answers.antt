use Rattle.rust_tree.proofs.Reading.{root_within}
use Rattle.rust_tree.proofs.symbol.Symbol.root_node.Goals as goal

pub returns-clause-within : goal.returns-clause-within
returns-clause-within c = root_within _ c.args.self.now c.self.view_is c.self.invariant
