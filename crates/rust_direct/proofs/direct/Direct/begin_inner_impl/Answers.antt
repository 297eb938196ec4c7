use Rattle.rust_direct.proofs.InnerImpls.{inner-impl-begun}
use Rattle.rust_direct.proofs.direct.Direct.begin_inner_impl.Goals as goal

pub returns : goal.returns
returns g c =
    inner-impl-begun g.S.Showing.IS_BRIEF c.args._s.now c.args.self.now c.push_open.new.self c.requires.behind.0 c.args.behind _ c.requires.awaits c.requires.letter
    c.requires.behind.1 (c.is_unbegun.ensures c.if-not-is_unbegun.false) c.in_ok-push_open.ensures
