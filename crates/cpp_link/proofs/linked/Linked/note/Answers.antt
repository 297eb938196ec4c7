use Rattle.cpp_link.proofs.Basics.{counted_of, state_of}
use Rattle.cpp_link.proofs.linked.Linked.note.Goals as goal

pub returns-clause-is : goal.returns-clause-is
unfolding counted_of
returns-clause-is c = rw (c.append.ensures.nodes, c.append.ensures.counting) (c.in_ok-append.ensures.is (record (state_of c.args.symbol.now c.args.self.now) { packs = c.args.packs }))
