use Rattle.cpp_direct.proofs.ForAnswers.{arith, letters-stand, there}
use Rattle.cpp_direct.proofs.parameters.expansion_at.Goals as goal

pub returns-clause-stands : goal.returns-clause-stands
returns-clause-stands c =
    let s = c.args.s.now in
    letters-stand s c.in_ok-read.read.pattern c.in_ok-named.named.number c.args.at c.in_ok-second.second c.in_ok-checked_add.field-0 c.in_ok-read.read.end c.in_ok-checked_add-2.field-0
    (there s c.args.at c.byte_at.result 68 c.if-byte_at-ne68.false (omega arith) c.byte_at.ensures) c.in_ok-second.ensures.1
    (there s c.in_ok-second.second c.byte_at-else-byte_at-ne68.result 112 c.if-byte_at-ne112.false (omega arith) c.byte_at-else-byte_at-ne68.ensures) c.in_ok-checked_add.ensures.1
    c.in_ok-read.ensures.stands c.in_ok-read.ensures.end
    (there s c.in_ok-read.read.end c.byte_at-2.result 84 c.if-byte_at-ne84.false (omega arith) c.byte_at-2.ensures) c.in_ok-checked_add-2.ensures.1
    c.in_ok-named.ensures.stands
