use Rattle.cpp_direct.proofs.ForAnswers.{◌∷◌, [], arith, refl, guard-begins, then-there, there}
use Rattle.cpp_direct.proofs.direct.Direct.begin_guard.Goals as goal

pub begin_encoding-requires-clause-awaits : goal.begin_encoding-requires-clause-awaits
begin_encoding-requires-clause-awaits g c =
    let s = c.args.s.now in
    let second = c.byte_at-else-byte_at-ne71 in
    let third = c.byte_at-else-byte_at-ne86 in
    guard-begins _ c.args.self.now c.push.new.self c.requires.fresh c.requires.local c.requires.starts
    (then-there s (71 ∷ []) 2 3 second.result 86 (there s 2 c.byte_at.result 71 c.if-byte_at-ne71.false (omega arith) c.byte_at.ensures)
    refl c.if-byte_at-ne86.false (omega arith) second.ensures)
    (there s 4 third.result 90 c.if-byte_at-ne90.false (omega arith) third.ensures) c.in_ok-push.ensures
