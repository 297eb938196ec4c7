use Rattle.cpp_tree.proofs.Basics.{entry_at, passed}
use Rattle.cpp_tree.proofs.Compacting.{over-is}
use Rattle.cpp_tree.proofs.nodes.Nodes.noted_type.Goals as goal

pub returns : goal.returns
returns c = over-is c.args.node passed c.passed.result c.args.words 0 0 c.noted_over.result c.at-held.result (entry_at c.args.self.now.nodes c.args.ty) c.at-held.ensures c.passed.ensures c.noted_over.ensures
