use Rattle.cpp_direct.proofs.ForAnswers.{arith, ◌-◌, digit-stands, there}
use Rattle.cpp_direct.proofs.parameters.parameter_number.Goals as goal

pub returns-clause-stands : goal.returns-clause-stands
returns-clause-stands c =
    let s = c.args.s.now in
    let digit = c.byte_at-byte.result in
    let line = rw c.in_ok-behind.ensures.1 at (there s c.in_ok-behind.behind c.byte_at.result 95 c.if-byte_at-ne95.false (omega arith) c.byte_at.ensures) in
    digit-stands s c.args.at (digit - 48) digit (omega (arith, c.if-byte-lt48.false)) (there s c.args.at digit digit (omega arith) (omega (arith, c.if-byte-lt48.false)) c.byte_at-byte.ensures) line
