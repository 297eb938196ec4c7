use Rattle.sym_parts.proofs.Basics.{refl, part_of}
use Rattle.sym_parts.proofs.laws.parts_are_stretches.Goals as goal

pub returns : goal.returns
unfolding part_of
returns c = λ s stretch. record { role = refl; start = refl; length = refl }
