use Rattle.symfilt_command.proofs.command.answer_as.Goals as goal

pub returns-in-Whole-clause-ok : goal.returns-in-Whole-clause-ok
returns-in-Whole-clause-ok g c = rw (c.in-Whole.is) c.answer_words.ensures.ok

pub returns-in-Whole-clause-err : goal.returns-in-Whole-clause-err
returns-in-Whole-clause-err g c = rw (c.in-Whole.is) c.answer_words.ensures.err

pub returns-in-Short-clause-ok : goal.returns-in-Short-clause-ok
returns-in-Short-clause-ok g c = rw (c.in-Short.is) c.answer_words-in-Short.ensures.ok

pub returns-in-Short-clause-err : goal.returns-in-Short-clause-err
returns-in-Short-clause-err g c = rw (c.in-Short.is) c.answer_words-in-Short.ensures.err
