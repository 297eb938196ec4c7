use Rattle.cpp_direct.proofs.ForAnswers.{arith, member-read, there}
use Rattle.cpp_direct.proofs.direct.Direct.level_ended.Goals as goal

pub returns : goal.returns
returns g c =
    let old = c.args.self.now in
    let named = c.name.new.self in
    member-read _ old c.push_pair.new.self named c.args.is_dependent c.in_ok-self.field-0 c.in_ok-self-2.field-0 c.requires.awaits
    (there c.args.s.now old.at c.byte_at.result 69 c.if-byte_at-ne69.false (omega arith) c.byte_at.ensures) c.in_ok-self.ensures.1 c.in_ok-push_pair.ensures
    c.in_ok-name.ensures (there c.args.s.now named.at c.byte_at-2.result 69 c.if-byte_at-ne69-2.false (omega arith) c.byte_at-2.ensures) c.in_ok-self-2.ensures.1
