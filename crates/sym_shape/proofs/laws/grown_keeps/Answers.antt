use Rattle.sym_shape.proofs.Growth.{grown_rows, grown_same, grown_places}
use Rattle.sym_shape.proofs.laws.grown_keeps.Goals as goal

pub returns-clause-rows : goal.returns-clause-rows
returns-clause-rows g c = λ old s rows grows h. grown_rows old g.G.Grammar.table s rows grows h

pub returns-clause-same : goal.returns-clause-same
returns-clause-same g c = λ old s rows others grows h k. grown_same old g.G.Grammar.table g.met.G.Grammar.lawful s rows others grows h k

pub returns-clause-places : goal.returns-clause-places
returns-clause-places g c = λ old s before after grows h k. grown_places old g.G.Grammar.table s before after grows h k
