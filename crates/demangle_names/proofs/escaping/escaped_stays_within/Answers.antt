use Rattle.demangle_names.proofs.StringLemmas.{stays_within}
use Rattle.demangle_names.proofs.escaping.escaped_stays_within.Goals as goal

pub returns : goal.returns
returns c = stays_within
