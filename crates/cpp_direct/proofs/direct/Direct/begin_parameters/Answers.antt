use Rattle.cpp_direct.proofs.ForAnswers.{subst, refl, arith, [], ◌∷◌, symbol_by, StandsAt, void-ended, first-parameter-expected}
use Rattle.cpp_direct.proofs.direct.Direct.begin_parameters.Goals as goal

pub close-requires-clause-ended : goal.close-requires-clause-ended
close-requires-clause-ended g c =
    let s = symbol_by g.G.Grammar.IS_WIDE g.G.Grammar.IS_BARE g.G.Grammar.IS_BRIEF c.args.s.now in
    let w = c.args.self.now in
    void-ended s w c.push_byte.new.self _ c.args.mark c.args.start c.args.argument c.requires.awaits
    (subst (λ b. StandsAt s.bytes w.at (b ∷ [])) c.if-byte-eq118.true (c.byte_at-byte.ensures (λ e. omega (arith, e, c.if-byte-eq118.true))))
    c.in_ok-push_byte.ensures refl refl refl (omega (arith, c.in_ok-self.ensures))

pub next_parameter-requires-clause-awaits : goal.next_parameter-requires-clause-awaits
next_parameter-requires-clause-awaits g c =
    first-parameter-expected _ c.args.self.now c.push_byte.new.self _ c.args.mark c.args.start c.args.argument c.requires.awaits
    c.in_ok-push_byte.ensures refl refl refl refl c.in_ok-push.ensures.items
