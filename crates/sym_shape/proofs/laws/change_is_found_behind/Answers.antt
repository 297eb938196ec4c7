use Rattle.sym_shape.proofs.Fronts.{change_behind}
use Rattle.sym_shape.proofs.laws.change_is_found_behind.Goals as goal

pub returns : goal.returns
returns g c = λ s p byte at lt whole bad. change_behind g.G.Grammar.table s p byte at lt whole bad
