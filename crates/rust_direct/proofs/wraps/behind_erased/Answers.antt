use Rattle.rust_direct.proofs.Basics.{arith, subst, ◌∷◌, [], StandsAt}
use Rattle.rust_direct.proofs.FoundTokens.{erased-found}
use Rattle.rust_direct.proofs.wraps.behind_erased.Goals as goal

pub returns : goal.returns
returns c =
    let s = c.args.s.now in
    erased-found s c.args.at c.in_ok-digits.digits c.in_ok-end.end
    (subst (λ b. StandsAt s c.args.at (b ∷ [])) c.if-byte_at-ne76.false (c.byte_at.ensures (λ e. omega (arith, e, c.if-byte_at-ne76.false))))
    (subst (λ b. StandsAt s c.in_ok-digits.digits (b ∷ [])) c.if-byte_at-ne95.false
    (c.byte_at-2.ensures (λ e. omega (arith, e, c.if-byte_at-ne95.false))))
    c.in_ok-digits.ensures.1 c.in_ok-end.ensures.1
