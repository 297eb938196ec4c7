use Rattle.cpp_direct.proofs.ForAnswers.{argument-type}
use Rattle.cpp_direct.proofs.direct.Direct.argument_at.Goals as goal

pub returns : goal.returns
returns g c = argument-type _ c.args.self.now c.requires.awaits
