use Rattle.std.proofs.Common.{refl}
use Rattle.rust_direct.proofs.FoundTokens.{tested}
use Rattle.rust_direct.proofs.TuplesRead.{element-read}
use Rattle.rust_direct.proofs.direct.Direct.element_ended.Goals as goal

pub returns : goal.returns
returns g c =
    element-read g.S.Showing.IS_BRIEF c.args.s.now c.args.self.now c.push_pair.new.self _ c.args.place c.args.from c.args.here c.args.is_first c.args.forms c.requires
    (tested c.is_type.result _ c.is_type.ensures c.if-not-is_type.false) c.in_ok-push_pair.ensures
    (record { waiting = c.in_ok-push.ensures.items; room = c.push.ensures.room; text = refl; aside = refl; is_aside = refl; notes = refl; numbers = refl; at = refl })
