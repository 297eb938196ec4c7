use Rattle.sym_shape.proofs.Deciding.{decided}
use Rattle.sym_shape.proofs.laws.each_is_decided.Goals as goal

pub returns : goal.returns
returns g c = λ s bytes. decided g.G.Grammar.table g.met.G.Grammar.lawful s bytes
