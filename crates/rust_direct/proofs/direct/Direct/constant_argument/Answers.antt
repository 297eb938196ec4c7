use Rattle.rust_direct.proofs.ConstantsRead.{constant-read}
use Rattle.rust_direct.proofs.direct.Direct.constant_argument.Goals as goal

pub returns : goal.returns
returns g c =
    constant-read g.S.Showing.IS_BRIEF c.args.s.now c.args.self.now c.constant_at.new.self c.note.new.self c.args._is_first c.in_ok-place.place c.len-from.result
    c.in_ok-end.end c.requires.awaits c.requires.letter c.in_ok-place.ensures.1 c.len-from.ensures c.in_ok-end.ensures c.in_ok-note.ensures
