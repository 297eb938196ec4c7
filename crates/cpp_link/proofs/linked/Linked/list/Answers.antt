use Rattle.std.proofs.Common.{arith}
use Rattle.cpp_link.proofs.linked.Linked.list.Goals as goal

pub returns-clause-there : goal.returns-clause-there
returns-clause-there c there = c.list_of.ensures.there c.args.symbol.now _ (omega (arith, c.requires.table.fixed)) (c.part.ensures.there _ _ there)
