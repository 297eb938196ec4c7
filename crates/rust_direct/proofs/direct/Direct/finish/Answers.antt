use Rattle.rust_direct.proofs.SymbolsRead.{ends-plain}
use Rattle.rust_direct.proofs.direct.Direct.finish.Goals as goal

pub returns-then-self-s : goal.returns-then-self-s
returns-then-self-s g c = ends-plain g.S.Showing.IS_BRIEF c.args.s.now c.args.self.now c.requires c.if-self-s.true
