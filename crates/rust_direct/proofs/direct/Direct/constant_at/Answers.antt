use Rattle.rust_direct.proofs.Basics.{sym, subst, false, BeginsInteger}
use Rattle.rust_direct.proofs.FoundTokens.{tested}
use Rattle.rust_direct.proofs.MovesOfConstants.{unsigned-there, signed-there, unsigned-begins}
use Rattle.rust_direct.proofs.direct.Direct.constant_at.Goals as goal

pub integer_at-requires-clause-begins : goal.integer_at-requires-clause-begins
integer_at-requires-clause-begins c =
    let s = c.args.s.now in
    let at = c.args.at in
    let b = c.byte_at-letter.result in
    let is = tested c.is_unsigned.result _ c.is_unsigned.ensures c.if-is_unsigned.true in
    subst (λ k. BeginsInteger s at k false) (sym c.in_ok-digits.ensures.1) (unsigned-begins s at b is (c.byte_at-letter.ensures (unsigned-there b is)))

pub signed_at-requires-clause-letter : goal.signed_at-requires-clause-letter
signed_at-requires-clause-letter c =
    let is = tested c.is_signed.result _ c.is_signed.ensures c.if-is_signed.true in
    c.byte_at-letter.ensures (signed-there c.byte_at-letter.result is)
