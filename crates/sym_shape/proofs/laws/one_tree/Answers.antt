use Rattle.sym_shape.proofs.Uniqueness.{one_tree}
use Rattle.sym_shape.proofs.laws.one_tree.Goals as goal

pub returns : goal.returns
returns g c = λ a b p q e. one_tree g.G.Grammar.table g.met.G.Grammar.lawful a b p q e
