use Rattle.cpp_direct.proofs.ForAnswers.{parameter-expected}
use Rattle.cpp_direct.proofs.direct.Direct.next_parameter.Goals as goal

pub returns : goal.returns
returns g c = parameter-expected _ c.args.self.now c.separate.new.self c.args.is_first c.args.mark c.args.start c.args.argument c.requires.awaits c.in_ok-separate.ensures
