use Rattle.rust_v0.proofs.mangling.V0Mangling.write.Goals as goal

pub returns-in-Full : goal.returns-in-Full
returns-in-Full c = rw c.in-Full.is c.write.ensures.answer

pub returns-in-Brief : goal.returns-in-Brief
returns-in-Brief c = rw c.in-Brief.is c.write_brief.ensures.answer
