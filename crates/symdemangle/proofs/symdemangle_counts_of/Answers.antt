use Rattle.symdemangle.proofs.symdemangle_counts_of.Goals as goal

pub returns : goal.returns
returns c = c.counts_of.ensures
