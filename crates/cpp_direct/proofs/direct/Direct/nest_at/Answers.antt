use Rattle.cpp_direct.proofs.ForAnswers.{source-begins}
use Rattle.cpp_direct.proofs.direct.Direct.nest_at.Goals as goal

pub rest_at-requires-clause-writing : goal.rest_at-requires-clause-writing
rest_at-requires-clause-writing g c =
    let read = c.in_ok-name.ensures in
    source-begins _ c.args.self.now c.name.new.self c.args.purpose read.0 c.requires.awaits read.1 read.2 read.3 c.end-from.result c.end.result
    c.end-from.ensures c.end.ensures
