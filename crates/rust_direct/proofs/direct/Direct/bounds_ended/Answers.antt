use Rattle.rust_direct.proofs.Basics.{arith, ◌+◌, ◌∷◌, [], ap, subst, ◌∙◌, StandsAt}
use Rattle.rust_direct.proofs.BoundsRead.{dyn-read}
use Rattle.rust_direct.proofs.direct.Direct.bounds_ended.Goals as goal

pub ended-requires : goal.ended-requires
ended-requires g c =
    let s = c.args.s.now in
    let digits_is = c.in_ok-digits.ensures.1 ∙ ap (λ k. k + 1) c.in_ok-lifetime.ensures.1 in
    dyn-read g.S.Showing.IS_BRIEF s c.args.self.now c.args.place c.args.from c.args._here c.in_ok-self.field-0 c.args._forms c.requires.arrives c.requires.letter
    (subst (λ k. StandsAt s k (76 ∷ [])) c.in_ok-lifetime.ensures.1
    (subst (λ b. StandsAt s c.in_ok-lifetime.lifetime (b ∷ [])) c.if-byte_at-ne76.false
    (c.byte_at.ensures (λ e. omega (arith, e, c.if-byte_at-ne76.false)))))
    (subst (λ k. StandsAt s k (95 ∷ [])) digits_is
    (subst (λ b. StandsAt s c.in_ok-digits.digits (b ∷ [])) c.if-byte_at-ne95.false
    (c.byte_at-2.ensures (λ e. omega (arith, e, c.if-byte_at-ne95.false)))))
    c.requires.form (c.in_ok-self.ensures.1 ∙ ap (λ k. k + 1) digits_is)
