use Rattle.std.proofs.Common.{refl}
use Rattle.rust_direct.proofs.FoundTokens.{tested}
use Rattle.rust_direct.proofs.TraitsRead.{implementing-read}
use Rattle.rust_direct.proofs.direct.Direct.implementing_ended.Goals as goal

pub returns : goal.returns
returns g c =
    implementing-read g.S.Showing.IS_BRIEF c.args._s.now c.args.self.now c.push.new.self _ c.args.place c.args.from c.args._here c.args.forms _ c.requires
    (tested c.is_type.result _ c.is_type.ensures c.if-not-is_type.false) c.in_ok-push.ensures
    (record { waiting = c.in_ok-push-2.ensures.items; room = c.push-2.ensures.room; text = refl; aside = refl; is_aside = refl; notes = refl; numbers = refl; at = refl })
