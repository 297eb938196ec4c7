use Rattle.symfilt_command.proofs.command.answer_in.Goals as goal

pub returns-then-legacy-clause-ok : goal.returns-then-legacy-clause-ok
returns-then-legacy-clause-ok g c = rw (c.if-legacy.true) (rw (c.if-legacy.true) at c.answer_as.ensures.ok)

pub returns-then-legacy-clause-err : goal.returns-then-legacy-clause-err
returns-then-legacy-clause-err g c = rw (c.if-legacy.true) (rw (c.if-legacy.true) at c.answer_as.ensures.err)

pub returns-clause-ok : goal.returns-clause-ok
returns-clause-ok g c = rw (c.if-legacy.false) (rw (c.if-legacy.false) at c.answer_as-2.ensures.ok)

pub returns-clause-err : goal.returns-clause-err
returns-clause-err g c = rw (c.if-legacy.false) (rw (c.if-legacy.false) at c.answer_as-2.ensures.err)
