use Rattle.cpp_direct.proofs.ForAnswers.{arith, local-begins, there}
use Rattle.cpp_direct.proofs.direct.Direct.begin_local.Goals as goal

pub begin_encoding-requires-clause-awaits : goal.begin_encoding-requires-clause-awaits
begin_encoding-requires-clause-awaits g c =
    local-begins _ c.args.self.now c.requires.fresh c.requires.local c.requires.starts
    (there c.args.s.now 2 c.byte_at.result 90 c.if-byte_at-ne90.false (omega arith) c.byte_at.ensures)
