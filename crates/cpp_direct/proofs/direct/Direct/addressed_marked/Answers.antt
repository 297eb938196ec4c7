use Rattle.cpp_direct.proofs.ForAnswers.{marks-shown}
use Rattle.cpp_direct.proofs.direct.Direct.addressed_marked.Goals as goal

pub addressed-requires : goal.addressed-requires
addressed-requires g c = record { read = marks-shown c.args.self.now c.push_mark.new.self c.args.mark c.requires.read c.in_ok-push_mark.ensures }
