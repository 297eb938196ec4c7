use Rattle.cpp_direct.proofs.ForAnswers.{begun-in-name}
use Rattle.cpp_direct.proofs.direct.Direct.begin_component.Goals as goal

pub returns : goal.returns
returns g c = begun-in-name _ c.args.self.now c.open_lambda.new.self c.requires.writing c.if-self.false c.in_ok-open_lambda.ensures
