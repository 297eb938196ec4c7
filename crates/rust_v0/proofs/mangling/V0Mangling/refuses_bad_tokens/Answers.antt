use Rattle.rust_v0.proofs.SortedTrees.{well_shaped_refused}
use Rattle.rust_v0.proofs.mangling.V0Mangling.refuses_bad_tokens.Goals as goal

pub returns : goal.returns
returns c = well_shaped_refused
