-- The number of a constant that clauses name.
use Rattle.sym_shape.proofs.Basics.{◌≡◌, refl}
use Rattle.sym_shape.specs.declared.rule.TheConstants.{TOKEN}

pub token_rule : TOKEN ≡ 65535
token_rule = refl
