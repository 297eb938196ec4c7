use Rattle.rust_parts.proofs.Basics.{ap, length, subst, stretches_of, symbol_marked}
use Rattle.sym_parts.specs.Placed.{AreStretchesPlaced}
use Rattle.sym_parts.proofs.Placing.{placed}
use Rattle.rust_parts.proofs.Texts.{text-symbol}
use Rattle.rust_parts.proofs.laws.stretches_are_placed.Goals as goal

pub returns : goal.returns
returns c s printed = subst (λ n. AreStretchesPlaced n (stretches_of (symbol_marked s printed))) (ap length (text-symbol s printed)) (placed (symbol_marked s printed))
