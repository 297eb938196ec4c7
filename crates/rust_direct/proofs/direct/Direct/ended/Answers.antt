use Rattle.rust_direct.proofs.PathsRead.{ended-writing}
use Rattle.rust_direct.proofs.direct.Direct.ended.Goals as goal

pub returns : goal.returns
returns g c =
    ended-writing g.S.Showing.IS_BRIEF c.args._s.now c.args.self.now c.note.new.self c.args.place c.args.from c.args.noted c.args.forms c.requires c.in_ok-note.ensures
