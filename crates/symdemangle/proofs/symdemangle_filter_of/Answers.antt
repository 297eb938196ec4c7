use Rattle.symdemangle.proofs.symdemangle_filter_of.Goals as goal

pub returns-clause-ending : goal.returns-clause-ending
returns-clause-ending c = c.filter_of.ensures.ending

pub returns-clause-tally : goal.returns-clause-tally
returns-clause-tally c = c.filter_of.ensures.tally
