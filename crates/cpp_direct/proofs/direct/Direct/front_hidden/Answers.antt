use Rattle.cpp_direct.proofs.ForAnswers.{front-hidden}
use Rattle.cpp_direct.proofs.direct.Direct.front_hidden.Goals as goal

pub begin_parameters-requires-clause-awaits : goal.begin_parameters-requires-clause-awaits
begin_parameters-requires-clause-awaits g c =
    front-hidden _ c.args.self.now c.repeat.new.self c.args.mark c.args.start c.end-begins.result c.args.argument c.requires.ended
    c.requires.whole c.requires.local c.end-begins.ensures c.in_ok-repeat.ensures
