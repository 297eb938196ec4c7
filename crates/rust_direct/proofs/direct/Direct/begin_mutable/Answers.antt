use Rattle.rust_direct.proofs.Basics.{subst, IsErasedAt}
use Rattle.rust_direct.proofs.WrapsRead.{mutable-begun}
use Rattle.rust_direct.proofs.direct.Direct.begin_mutable.Goals as goal

pub returns : goal.returns
returns g c =
    mutable-begun g.S.Showing.IS_BRIEF c.args.s.now c.args.self.now c.push_open.new.self c.in_ok-behind.behind c.wrap-entry.result c.requires.awaits c.requires.letter
    (subst (λ k. IsErasedAt c.args.s.now k c.in_ok-behind.behind) c.in_ok-checked_add.ensures.1 c.in_ok-behind.ensures) c.wrap-entry.ensures
    c.in_ok-push_open.ensures
