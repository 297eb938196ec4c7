use Rattle.cpp_tree.specs.Nodes.{entry_at}
use Rattle.cpp_tree.proofs.Compacting.{pack-is}
use Rattle.cpp_tree.proofs.nodes.Nodes.noted_pack.Goals as goal

pub returns : goal.returns
returns c = pack-is c.args.node c.at-held.result (entry_at c.args.self.now.nodes c.args.elements) c.at-held.ensures
