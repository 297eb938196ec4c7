use Rattle.rust_direct.proofs.BoundsRead.{dyn-begun}
use Rattle.rust_direct.proofs.direct.Direct.begin_dyn.Goals as goal

pub returns : goal.returns
returns g c =
    dyn-begun g.S.Showing.IS_BRIEF c.args.s.now c.args.self.now c.push_open.new.self c.len-from.result c.in_ok-behind.behind c.requires.awaits c.requires.letter
    c.in_ok-behind.ensures.1 c.len-from.ensures c.in_ok-push_open.ensures
