use Rattle.rust_direct.proofs.Basics.{sym, subst, ◌∷◌, [], StandsAt, IsWriting}
use Rattle.rust_direct.specs.declared.open.Step.TheVariants as steps
use Rattle.rust_direct.proofs.ArgumentsRead.{argument-first, argument-separated}
use Rattle.rust_direct.proofs.direct.Direct.argument_at.Goals as goal

pub next_argument-requires-clause-awaits : goal.next_argument-requires-clause-awaits
next_argument-requires-clause-awaits g c =
    argument-first g.S.Showing.IS_BRIEF c.args.s.now c.args.self.now
    (subst (λ b. IsWriting g.S.Showing.IS_BRIEF c.args.s.now c.args.self.now (steps.Arguments b)) c.if-is_first.true c.requires.writing)

pub next_argument-requires-2-clause-awaits : goal.next_argument-requires-2-clause-awaits
next_argument-requires-2-clause-awaits g c =
    argument-separated g.S.Showing.IS_BRIEF c.args.s.now c.args.self.now c.push_pair.new.self
    (subst (λ b. IsWriting g.S.Showing.IS_BRIEF c.args.s.now c.args.self.now (steps.Arguments b)) c.if-is_first.false c.requires.writing) c.in_ok-push_pair.ensures

pub next_argument-requires-2-clause-letter : goal.next_argument-requires-2-clause-letter
next_argument-requires-2-clause-letter g c =
    λ some. subst (λ k. StandsAt c.args.s.now k (c.byte_at-byte.result ∷ [])) (sym c.in_ok-push_pair.ensures.at) (c.byte_at-byte.ensures some)
