-- The value of a constant that clauses name.
use Rattle.sym_core.proofs.Basics.{◌≡◌, refl}
use Rattle.sym_core.specs.declared.TheConstants.{MOST_BYTES}

pub most_bytes : MOST_BYTES ≡ 16777216
most_bytes = refl
