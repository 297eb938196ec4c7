use Rattle.cpp_direct.proofs.ForAnswers.{arith, member-begins, there}
use Rattle.cpp_direct.proofs.direct.Direct.begin_member.Goals as goal

pub member_entity-requires-clause-awaits : goal.member_entity-requires-clause-awaits
member_entity-requires-clause-awaits g c =
    let shut = c.end_scope.ensures in
    member-begins _ c.args.self.now c.end_scope.new.self c.in_ok-checked_add.field-0 c.in_ok-place.place c.requires.awaits c.requires.letter
    (there c.args.s.now 2 c.byte_at.result 90 c.if-byte_at-ne90.false (omega arith) c.byte_at.ensures)
    c.in_ok-checked_add.ensures.1 c.in_ok-place.ensures shut.text shut.candidates
