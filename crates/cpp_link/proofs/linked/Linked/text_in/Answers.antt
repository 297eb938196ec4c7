use Rattle.std.proofs.Common.{length}
use Rattle.cpp_link.proofs.linked.Linked.text_in.Goals as goal

pub returns-clause-there : goal.returns-clause-there
returns-clause-there c = c.text_of.ensures.there _ (length c.args.self.now.nodes.nodes) c.requires.there
