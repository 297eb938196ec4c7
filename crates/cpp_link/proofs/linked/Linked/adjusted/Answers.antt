use Rattle.std.proofs.Common.{length}
use Rattle.cpp_link.proofs.linked.Linked.adjusted.Goals as goal

pub returns-clause-there : goal.returns-clause-there
returns-clause-there c there = c.adjustment_of.ensures.there _ _ (c.part.ensures.there c.args.symbol.now (length c.args.self.now.nodes.nodes) there)
