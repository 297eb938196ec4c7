use Rattle.sym_shape.proofs.Fronts.{front_first, front_only}
use Rattle.sym_shape.proofs.laws.front_is_cut_off.Goals as goal

pub returns-clause-first : goal.returns-clause-first
returns-clause-first g c = λ s n whole. front_first g.G.Grammar.table s n whole

pub returns-clause-only : goal.returns-clause-only
returns-clause-only g c = λ s n at whole bad. front_only g.G.Grammar.table s n at whole bad
