use Rattle.std.proofs.Common.{refl, ap}
use Rattle.rust_grammar.specs.Unfold.{as_constant}
use Rattle.rust_references.proofs.named.constant_named.Goals as goal

pub returns-in-Constant-clause-names : goal.returns-in-Constant-clause-names
returns-in-Constant-clause-names c all at known place is =
    let noted = rw c.in-Constant.is at is in
    rw (c.in-Constant.is, ap as_constant noted.2) (noted.0, noted.1, (noted.0, noted.1, refl), refl)
