use Rattle.sym_shape.proofs.Deciding.{one_bad}
use Rattle.sym_shape.proofs.laws.one_bad_byte.Goals as goal

pub returns-clause-same : goal.returns-clause-same
returns-clause-same g c = λ s a b p q. one_bad g.G.Grammar.table s a b p.first q.first

pub returns-clause-apart : goal.returns-clause-apart
returns-clause-apart g c = λ s at whole bad. bad.refused whole
