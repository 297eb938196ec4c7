use Rattle.cpp_direct.proofs.ForAnswers.{false, known-passes}
use Rattle.cpp_direct.proofs.direct.Direct.argument_ended.Goals as goal

pub returns : goal.returns
returns g c = known-passes _ c.literals.self false c.literals.last c.literals.more c.literals.invariant
