use Rattle.rust_direct.proofs.ArgumentsRead.{argument-awaited}
use Rattle.rust_direct.proofs.direct.Direct.next_argument.Goals as goal

pub returns : goal.returns
returns g c = argument-awaited g.S.Showing.IS_BRIEF c.args.s.now c.args.self.now c.args.is_first c.requires.awaits
