use Rattle.cpp_direct.proofs.ForAnswers.{marks-written}
use Rattle.cpp_direct.proofs.direct.Direct.end.Goals as goal

pub encoded-requires-clause-ended : goal.encoded-requires-clause-ended
encoded-requires-clause-ended g c = marks-written _ c.args.self.now c.push_mark.new.self c.args.mark c.requires.ended c.in_ok-push_mark.ensures
