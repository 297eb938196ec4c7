use Rattle.cpp_direct.proofs.ForAnswers.{class-named}
use Rattle.cpp_direct.proofs.direct.Direct.class_again.Goals as goal

pub nest_named-requires-clause-named : goal.nest_named-requires-clause-named
nest_named-requires-clause-named g c = class-named _ c.args.self.now c.repeat.new.self c.requires.awaits c.in_ok-repeat.ensures
