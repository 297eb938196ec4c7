use Rattle.legacy_parts.proofs.Marking.{few-path}
use Rattle.legacy_parts.proofs.laws.stretches_are_few.Goals as goal

pub returns : goal.returns
returns c path = few-path path
