use Rattle.cpp_direct.proofs.ForAnswers.{operator-unscoped}
use Rattle.cpp_direct.proofs.direct.Direct.begin_operator.Goals as goal

pub unscoped_named-requires-clause-named : goal.unscoped_named-requires-clause-named
unscoped_named-requires-clause-named g c =
    let read = c.in_ok-takes.ensures in
    operator-unscoped _ c.args.self.now c.operator_name.new.self read.0 read.1 _ c.requires.awaits read.2 read.3 read.4 c.end-from.result c.end-from.ensures
