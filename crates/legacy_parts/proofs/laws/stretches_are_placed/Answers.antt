use Rattle.legacy_parts.proofs.Basics.{ap, length, subst, stretches_of, path_marked}
use Rattle.sym_parts.specs.Placed.{AreStretchesPlaced}
use Rattle.sym_parts.proofs.Placing.{placed}
use Rattle.legacy_parts.proofs.Texts.{text-path}
use Rattle.legacy_parts.proofs.laws.stretches_are_placed.Goals as goal

pub returns : goal.returns
returns c path = subst (λ n. AreStretchesPlaced n (stretches_of (path_marked path))) (ap length (text-path path)) (placed (path_marked path))
