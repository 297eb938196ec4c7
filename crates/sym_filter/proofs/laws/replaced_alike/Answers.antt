use Rattle.sym_filter.proofs.EverydayLemmas.{replaced_alike}
use Rattle.sym_filter.proofs.laws.replaced_alike.Goals as goal

pub returns : goal.returns
returns c = replaced_alike
