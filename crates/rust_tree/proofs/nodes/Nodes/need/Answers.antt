use Rattle.rust_tree.proofs.Trees.{need-gives}
use Rattle.rust_tree.proofs.nodes.Nodes.need.Goals as goal

pub returns : goal.returns
returns c s t is h = need-gives s c.args.self.now c.args.node t c.stored_need.result c.stored_need.ensures is h
