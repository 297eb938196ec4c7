use Rattle.sym_command.proofs.lines.reason.Goals as goal

pub returns-in-BadReference-clause-said : goal.returns-in-BadReference-clause-said
returns-in-BadReference-clause-said c = rw c.in-BadReference.is c.format-in-BadReference.ensures.ok
