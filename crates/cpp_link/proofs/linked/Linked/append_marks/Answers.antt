use Rattle.cpp_link.proofs.Appending.{noted_marks}
use Rattle.cpp_link.proofs.linked.Linked.append_marks.Goals as goal

pub returns-clause-is : goal.returns-clause-is
returns-clause-is c state =
    noted_marks c.args.marks c.args.symbol.now c.args.self.now.nodes c.append.new.self.nodes c.args.kept
    c.args.self.now.candidates.list.items c.append.new.self.candidates.list.items c.append-2.new.self.candidates.list.items state c.append.ensures.nodes
    (c.in_ok-append.ensures.is state) (c.in_ok-append-2.ensures.is state)
