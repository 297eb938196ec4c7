use Rattle.cpp_tree.proofs.Basics.{entry_at, packs_kept}
use Rattle.cpp_tree.proofs.Compacting.{expansion-is}
use Rattle.cpp_tree.proofs.nodes.Nodes.noted_expansion.Goals as goal

pub returns : goal.returns
unfolding packs_kept
returns c = expansion-is c.args.node c.has_no_elements.result c.at-held.result (entry_at c.args.self.now.nodes c.args.pattern) c.at-held.ensures c.has_no_elements.ensures
