use Rattle.cpp_direct.proofs.ForAnswers.{marks-shown}
use Rattle.cpp_direct.proofs.direct.Direct.enclosing_ended.Goals as goal

pub enclosed-requires-clause-read : goal.enclosed-requires-clause-read
enclosed-requires-clause-read g c = marks-shown c.args.self.now c.push_mark.new.self c.args.mark c.requires.read c.in_ok-push_mark.ensures
