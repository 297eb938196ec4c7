use Rattle.cpp_direct.proofs.ForAnswers.{derived-inside, table-ended}
use Rattle.cpp_direct.proofs.direct.Direct.base_ended.Goals as goal

pub repeat-requires-clause-to : goal.repeat-requires-clause-to
repeat-requires-clause-to g c = derived-inside _ c.args.self.now c.push.new.self c.args.to c.requires.read c.in_ok-push.ensures

pub finish-requires : goal.finish-requires
finish-requires g c =
    table-ended _ c.args.self.now c.push.new.self c.repeat.new.self c.cut.new.self c.args.to c.requires.read
    c.in_ok-push.ensures c.in_ok-repeat.ensures c.in_ok-cut.ensures
