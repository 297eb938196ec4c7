use Rattle.std.proofs.Common.{length, drop}
use Rattle.short_names.proofs.ChangeLemmas.{no-list, no-name-change}
use Rattle.short_names.proofs.names.change_at.Goals as goal

pub returns-in-None : goal.returns-in-None
returns-in-None c =
    let rest = drop (length c.args.run.now) c.args.text.now in
    (no-list c.args.run.now rest c.in-None.ensures, no-name-change c.args.run.now rest c.in-None.ensures)
