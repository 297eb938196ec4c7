use Rattle.rust_tree.proofs.Viewing.{rebuilt}
use Rattle.rust_tree.proofs.symbol.Symbol.node.Goals as goal

pub returns-clause-tree : goal.returns-clause-tree
returns-clause-tree c = rebuilt _ c.view_at.ensures.made.0 c.view_at.ensures.made.1
