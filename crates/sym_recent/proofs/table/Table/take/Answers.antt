use Rattle.sym_recent.proofs.table.Table.take.Goals as goal

pub returns-then-place-len-clause-keeps : goal.returns-then-place-len-clause-keeps
returns-then-place-len-clause-keeps c answer kept is = c.begin.ensures.keeps answer kept
