use Rattle.std.proofs.Common.{refl}
use Rattle.rust_direct.proofs.FoundTokens.{tested}
use Rattle.rust_direct.proofs.ArgumentsRead.{argument-read}
use Rattle.rust_direct.proofs.direct.Direct.argument_ended.Goals as goal

pub returns : goal.returns
returns g c =
    argument-read g.S.Showing.IS_BRIEF c.args._s.now c.args.self.now _ c.args.place c.args.from c.args._here c.args.is_value c.args.forms c.requires
    (tested c.is_type.result _ c.is_type.ensures c.if-not-is_type.false)
    (record { waiting = c.in_ok-push.ensures.items; room = c.push.ensures.room; text = refl; aside = refl; is_aside = refl; notes = refl; numbers = refl; at = refl })
