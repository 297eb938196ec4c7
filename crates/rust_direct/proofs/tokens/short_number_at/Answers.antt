use Rattle.std.proofs.Common.{arith, refl, ◌+◌}
use Rattle.rust_direct.proofs.FoundTokens.{letter-there}
use Rattle.rust_direct.proofs.HashPlaces.{digits-found}
use Rattle.rust_direct.proofs.tokens.short_number_at.Goals as goal

pub returns : goal.returns
returns c =
    let s = c.args.s.now in
    let mark = c.args.at + c.args.count in
    digits-found s c.args.at mark c.in_ok-value.value _ (omega arith) (omega (arith, c.if-at-s.false, c.if-count-s.false)) (omega (arith, c.requires.few)) refl
    c.in_ok-value.ensures.digits (c.in_ok-value.ensures.value c.in_ok-value.ensures.digits)
    (letter-there s mark 95 (omega (arith, c.if-at-s.false, c.if-count-s.false)) c.if-s-mark-ne95.false)
