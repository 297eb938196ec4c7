use Rattle.std.proofs.Common.{refl}
use Rattle.rust_direct.proofs.FoundTokens.{tested}
use Rattle.rust_direct.proofs.BoundsRead.{bound-read}
use Rattle.rust_direct.proofs.direct.Direct.bound_ended.Goals as goal

pub returns : goal.returns
returns g c =
    bound-read g.S.Showing.IS_BRIEF c.args.s.now c.args.self.now c.push.new.self _ c.args.place c.args.from c.args.here c.args.forms c.requires
    (tested c.has_form.result _ c.has_form.ensures c.if-not-has_form.false) c.in_ok-push.ensures
    (record { waiting = c.in_ok-push-2.ensures.items; room = c.push-2.ensures.room; text = refl; aside = refl; is_aside = refl; notes = refl; numbers = refl; at = refl })
