use Rattle.cpp_tree.proofs.Basics.{false, entry_at, joined}
use Rattle.cpp_tree.proofs.Compacting.{over-two-is}
use Rattle.cpp_tree.proofs.nodes.Nodes.noted_types.Goals as goal

pub returns : goal.returns
returns c =
    over-two-is c.args.node false joined c.joined.result c.args.words 0 0 c.noted_over_two.result c.at-first.result c.at-second.result (entry_at c.args.self.now.nodes c.args.one) (entry_at c.args.self.now.nodes c.args.other)
    c.at-first.ensures c.at-second.ensures c.joined.ensures c.noted_over_two.ensures
