use Rattle.rust_direct.proofs.WrapsRead.{mut-begun}
use Rattle.rust_direct.proofs.direct.Direct.begin_mut.Goals as goal

pub returns : goal.returns
returns g c =
    mut-begun g.S.Showing.IS_BRIEF c.args.s.now c.args.self.now c.push_open.new.self c.in_ok-behind.behind c.wrap-entry.result c.requires.awaits c.requires.letter
    c.in_ok-behind.ensures.1 c.wrap-entry.ensures c.in_ok-push_open.ensures
