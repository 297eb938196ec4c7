use Rattle.cpp_direct.proofs.ForAnswers.{true, arith, IsWriting, opened-so, level-begins, there, Step}
use Rattle.cpp_direct.proofs.direct.Direct.begin_level.Goals as goal

pub returns : goal.returns
returns g c =
    let named = c.name.new.self in
    let first = c.in_ok-self.field-0 in
    let second = c.in_ok-self-2.field-0 in
    opened-so c.open_arguments.result (Step.List true) _ (IsWriting _ c.open_arguments.new.self) c.open_arguments.ensures
    (level-begins _ c.args.self.now named c.open_arguments.new.self first second c.in_ok-self-3.field-0 c.requires.awaits c.requires.wide c.requires.letter
    c.in_ok-self.ensures.1 (there c.args.s.now first c.byte_at.result 115 c.if-byte_at-ne115.false (omega arith) c.byte_at.ensures)
    c.in_ok-self-2.ensures.1 (there c.args.s.now second c.byte_at-2.result 114 c.if-byte_at-ne114.false (omega arith) c.byte_at-2.ensures)
    c.in_ok-self-3.ensures.1 c.in_ok-name.ensures (there c.args.s.now named.at c.byte_at-3.result 73 c.if-byte_at-ne73.false (omega arith) c.byte_at-3.ensures))
