use Rattle.std.proofs.Common.{arith}
use Rattle.cpp_link.proofs.linked.Linked.node.Goals as goal

pub returns-clause-there : goal.returns-clause-there
returns-clause-there c = c.node_of.ensures.there c.args.symbol.now _ (omega (arith, c.requires.table.fixed)) c.requires.there
