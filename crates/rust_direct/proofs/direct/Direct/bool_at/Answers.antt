use Rattle.std.proofs.Common.{arith}
use Rattle.rust_direct.proofs.FoundTokens.{there}
use Rattle.rust_direct.proofs.ConstantsRead.{false-written, true-written}
use Rattle.rust_direct.proofs.direct.Direct.bool_at.Goals as goal

pub returns-then-byte_at-eq48 : goal.returns-then-byte_at-eq48
returns-then-byte_at-eq48 c =
    let s = c.args.s.now in
    false-written s c.args.self.now c.push.new.self c.args.at c.in_ok-digit.digit c.in_ok-mark.mark c.in_ok-end.end c.requires.letter
    (there s c.in_ok-digit.digit c.byte_at-2.result 48 c.if-byte_at-eq48.true (omega arith) c.byte_at-2.ensures)
    (there s c.in_ok-mark.mark c.byte_at.result 95 c.if-byte_at-ne95.false (omega arith) c.byte_at.ensures) c.in_ok-digit.ensures.1
    c.in_ok-mark.ensures.1 c.in_ok-end.ensures.1 c.in_ok-push.ensures

pub returns : goal.returns
returns c =
    let s = c.args.s.now in
    true-written s c.args.self.now c.push-2.new.self c.args.at c.in_ok-digit.digit c.in_ok-mark.mark c.in_ok-end.end c.requires.letter
    (there s c.in_ok-digit.digit c.byte_at-3.result 49 c.if-byte_at-ne49.false (omega arith) c.byte_at-3.ensures)
    (there s c.in_ok-mark.mark c.byte_at.result 95 c.if-byte_at-ne95.false (omega arith) c.byte_at.ensures) c.in_ok-digit.ensures.1
    c.in_ok-mark.ensures.1 c.in_ok-end.ensures.1 c.in_ok-push-2.ensures
