use Rattle.cpp_direct.proofs.ForAnswers.{begun-in-function}
use Rattle.cpp_direct.proofs.direct.Direct.begin_lambda.Goals as goal

pub returns : goal.returns
returns g c = begun-in-function _ c.args.self.now c.open_lambda.new.self c.args.from c.requires.awaits c.in_ok-open_lambda.ensures
