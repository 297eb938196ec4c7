use Rattle.rust_tree.proofs.Viewing.{seen-at}
use Rattle.rust_tree.proofs.symbol.Symbol.view_at.Goals as goal

pub returns-clause-seen : goal.returns-clause-seen
returns-clause-seen c = seen-at c.args.self.now c.args.node c.stored.result c.view_of_node.result c.stored.ensures.bare c.stored.ensures.tree c.stored.ensures.parts c.view_of_node.ensures.seen
