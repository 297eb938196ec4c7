use Rattle.rust_direct.proofs.Basics.{subst, arith, ap, ◌∙◌, ◌+◌, ◌∷◌, [], StandsAt}
use Rattle.rust_direct.proofs.ArgumentsRead.{lifetime-read}
use Rattle.rust_direct.proofs.direct.Direct.lifetime_argument.Goals as goal

pub returns : goal.returns
returns g c =
    let s = c.args.s.now in
    lifetime-read g.S.Showing.IS_BRIEF s c.args.self.now c.push_pair.new.self c.args._is_first c.in_ok-self.field-0 c.requires.awaits c.requires.letter
    (subst (λ k. StandsAt s k (95 ∷ [])) c.in_ok-digits.ensures.1
    (subst (λ b. StandsAt s c.in_ok-digits.digits (b ∷ [])) c.if-byte_at-ne95.false (c.byte_at.ensures (λ e. omega (arith, e, c.if-byte_at-ne95.false)))))
    (c.in_ok-self.ensures.1 ∙ ap (λ k. k + 1) c.in_ok-digits.ensures.1) c.in_ok-push_pair.ensures
