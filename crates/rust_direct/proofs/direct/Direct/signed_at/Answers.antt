use Rattle.rust_direct.proofs.Basics.{arith, ◌+◌, ◌∷◌, [], ap, sym, subst, ◌∙◌, true, false, StandsAt, BeginsInteger}
use Rattle.rust_direct.proofs.FoundTokens.{there}
use Rattle.rust_direct.proofs.MovesOfConstants.{signed-begins, negative-begins}
use Rattle.rust_direct.proofs.direct.Direct.signed_at.Goals as goal

pub integer_at-requires-clause-begins : goal.integer_at-requires-clause-begins
integer_at-requires-clause-begins c =
    let s = c.args.s.now in
    let at = c.args.at in
    subst (λ k. BeginsInteger s at k true) (sym (c.in_ok-digits.ensures.1 ∙ ap (λ k. k + 1) c.in_ok-behind.ensures.1))
    (negative-begins s at c.args._letter c.requires.signed c.requires.letter
    (subst (λ k. StandsAt s k (110 ∷ [])) c.in_ok-behind.ensures.1
    (there s c.in_ok-behind.behind c.byte_at.result 110 c.if-byte_at-eq110.true (omega arith) c.byte_at.ensures)))

pub integer_at-requires-2-clause-begins : goal.integer_at-requires-2-clause-begins
integer_at-requires-2-clause-begins c =
    let s = c.args.s.now in
    let at = c.args.at in
    subst (λ k. BeginsInteger s at k false) (sym c.in_ok-behind.ensures.1)
    (signed-begins s at c.args._letter c.requires.signed c.requires.letter)
