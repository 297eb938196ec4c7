use Rattle.cpp_direct.proofs.ForAnswers.{arith, there, std-operator-unscoped, std-source-unscoped}
use Rattle.cpp_direct.proofs.direct.Direct.begin_in_std.Goals as goal

pub unscoped_named-requires-clause-named : goal.unscoped_named-requires-clause-named
unscoped_named-requires-clause-named g c =
    let read = c.in_ok-takes.ensures in
    std-operator-unscoped _ c.args.self.now c.push.new.self c.operator_name.new.self c.in_ok-self.field-0 c.in_ok-self-2.field-0 read.0 read.1
    c.in_ok-takes.takes c.requires.awaits c.requires.letter c.in_ok-self.ensures.1
    (there c.args.s.now c.in_ok-self.field-0 c.byte_at.result 116 c.if-byte_at-ne116.false (omega arith) c.byte_at.ensures) c.in_ok-self-2.ensures.1
    c.in_ok-push.ensures read.2 read.3 read.4 c.end-from.result c.end-from.ensures

pub unscoped_named-requires-2-clause-named : goal.unscoped_named-requires-2-clause-named
unscoped_named-requires-2-clause-named g c =
    let read = c.in_ok-name.ensures in
    std-source-unscoped _ c.args.self.now c.push.new.self c.name.new.self c.in_ok-self.field-0 c.in_ok-self-2.field-0 read.0
    c.requires.awaits c.requires.letter c.in_ok-self.ensures.1
    (there c.args.s.now c.in_ok-self.field-0 c.byte_at.result 116 c.if-byte_at-ne116.false (omega arith) c.byte_at.ensures) c.in_ok-self-2.ensures.1
    c.in_ok-push.ensures read.1 read.2 read.3 c.end-from.result c.end-from.ensures
