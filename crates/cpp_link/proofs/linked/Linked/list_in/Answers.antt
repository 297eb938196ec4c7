use Rattle.std.proofs.Common.{arith}
use Rattle.cpp_link.proofs.linked.Linked.list_in.Goals as goal

pub returns-clause-there : goal.returns-clause-there
returns-clause-there c = c.list_of.ensures.there c.args.symbol.now _ (omega (arith, c.requires.table.fixed)) c.requires.there
