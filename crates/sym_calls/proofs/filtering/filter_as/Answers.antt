use Rattle.sym_calls.proofs.filtering.filter_as.Goals as goal

pub returns-in-Whole-clause-ending : goal.returns-in-Whole-clause-ending
returns-in-Whole-clause-ending g c = rw (c.in-Whole.is) c.filter_by.ensures.ending

pub returns-in-Whole-clause-tally : goal.returns-in-Whole-clause-tally
returns-in-Whole-clause-tally g c = rw (c.in-Whole.is) c.filter_by.ensures.tally

pub returns-in-Short-clause-ending : goal.returns-in-Short-clause-ending
returns-in-Short-clause-ending g c = rw (c.in-Short.is) c.filter_by-in-Short.ensures.ending

pub returns-in-Short-clause-tally : goal.returns-in-Short-clause-tally
returns-in-Short-clause-tally g c = rw (c.in-Short.is) c.filter_by-in-Short.ensures.tally
