use Rattle.rust_direct.proofs.PathsRead.{ended-writing}
use Rattle.rust_direct.proofs.direct.Direct.named_ended.Goals as goal

pub returns-clause-writing : goal.returns-clause-writing
returns-clause-writing g c =
    ended-writing g.S.Showing.IS_BRIEF c.args.s.now c.args.self.now c.note.new.self c.args.place c.args.from c.args.forms c.args.forms c.requires.ended.ended c.in_ok-note.ensures
