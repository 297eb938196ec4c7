use Rattle.cpp_direct.proofs.ForAnswers.{source-unscoped}
use Rattle.cpp_direct.proofs.direct.Direct.begin_name.Goals as goal

pub unscoped_named-requires-clause-named : goal.unscoped_named-requires-clause-named
unscoped_named-requires-clause-named g c =
    let read = c.in_ok-name.ensures in
    source-unscoped _ c.args.is_internal c.args.self.now c.name.new.self read.0 c.requires.awaits read.1 read.2 read.3 c.end-from.result c.end-from.ensures
