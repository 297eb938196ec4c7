use Rattle.std.proofs.Common.{refl}
use Rattle.rust_direct.proofs.FoundTokens.{tested}
use Rattle.rust_direct.proofs.ArgumentsRead.{generic-read}
use Rattle.rust_direct.proofs.direct.Direct.generic_ended.Goals as goal

pub returns : goal.returns
returns g c =
    generic-read g.S.Showing.IS_BRIEF c.args._s.now c.args.self.now c.push_opening.new.self _ c.args.is_value c.args.place c.args.from c.args.forms c.requires
    (tested c.has_form.result _ c.has_form.ensures c.if-not-has_form.false) c.in_ok-push_opening.ensures
    (record { waiting = c.in_ok-push.ensures.items; room = c.push.ensures.room; text = refl; aside = refl; is_aside = refl; notes = refl; numbers = refl; at = refl })
