use Rattle.rust_direct.proofs.Basics.{subst, ap, ◌+◌, ◌∷◌, [], refl, get_or, arith, StandsAt}
use Rattle.rust_direct.proofs.FoundTokens.{tested, read-there}
use Rattle.rust_direct.proofs.PathsRead.{nest-begun}
use Rattle.rust_direct.proofs.direct.Direct.begin_nest.Goals as goal

pub returns-clause-awaits : goal.returns-clause-awaits
returns-clause-awaits g c =
    let s = c.args.s.now in
    let behind = c.in_ok-behind.behind in
    let b = get_or s behind 0 in
    let is = tested c.is_namespace.result _ c.is_namespace.ensures c.if-not-is_namespace.false in
    nest-begun g.S.Showing.IS_BRIEF s c.args.self.now _ b c.requires.awaits c.requires.letter
    (subst (λ k. StandsAt s k (b ∷ [])) c.in_ok-behind.ensures.1 (read-there s behind (omega (arith, c.if-behind-s.false)))) is c.in_ok-push.ensures.items c.push.ensures.room
    (ap (λ k. k + 1) c.in_ok-behind.ensures.1) refl refl refl refl refl
