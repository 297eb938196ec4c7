use Rattle.std.proofs.Common.{length}
use Rattle.cpp_link.proofs.linked.Linked.push_candidate.Goals as goal

pub returns-clause-there : goal.returns-clause-there
returns-clause-there c = (c.in_ok-push.ensures.there (length c.args.self.now.nodes.nodes) c.requires.there.0 c.requires.below, c.in_ok-push.ensures.counted)
