use Rattle.std.proofs.Common.{length}
use Rattle.cpp_link.proofs.linked.Linked.discriminator.Goals as goal

pub returns-clause-there : goal.returns-clause-there
returns-clause-there c there = c.discriminator_of.ensures.there _ (length c.args.self.now.nodes.nodes) (c.part.ensures.there c.args.symbol.now (length c.args.self.now.nodes.nodes) there)
