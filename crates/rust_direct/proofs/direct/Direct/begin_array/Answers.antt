use Rattle.std.proofs.Common.{refl}
use Rattle.rust_direct.proofs.ConstantsRead.{array-begun}
use Rattle.rust_direct.proofs.direct.Direct.begin_array.Goals as goal

pub returns : goal.returns
returns g c =
    array-begun g.S.Showing.IS_BRIEF c.args.s.now c.args.self.now c.push_byte.new.self _ c.len-from.result c.in_ok-self.field-0 c.requires.awaits c.requires.letter
    c.len-from.ensures c.in_ok-self.ensures.1 c.in_ok-push_byte.ensures
    (record { waiting = c.in_ok-push.ensures.items; room = c.push.ensures.room; text = refl; aside = refl; is_aside = refl; notes = refl; numbers = refl; at = refl })
