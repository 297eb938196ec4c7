use Rattle.cpp_direct.proofs.ForAnswers.{◌∷◌, [], arith, refl, object-begins, then-there, there}
use Rattle.cpp_direct.proofs.direct.Direct.begin_object.Goals as goal

pub begin_nested-requires-clause-awaits : goal.begin_nested-requires-clause-awaits
begin_nested-requires-clause-awaits g c =
    let s = c.args.s.now in
    let second = c.byte_at-else-byte_at-ne71 in
    object-begins _ c.args.self.now c.push.new.self c.requires.fresh c.requires.apart c.requires.guard c.requires.starts
    (then-there s (71 ∷ []) 2 3 second.result 86 (there s 2 c.byte_at.result 71 c.if-byte_at-ne71.false (omega arith) c.byte_at.ensures)
    refl c.if-byte_at-ne86.false (omega arith) second.ensures) c.in_ok-push.ensures

pub begin_nested-requires-clause-letter : goal.begin_nested-requires-clause-letter
begin_nested-requires-clause-letter g c = there c.args.s.now 4 c.byte_at-else-byte_at-ne86.result 78 c.if-byte_at-ne78.false (omega arith) c.byte_at-else-byte_at-ne86.ensures
