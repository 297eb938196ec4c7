use Rattle.std.proofs.Common.{refl}
use Rattle.rust_direct.proofs.ImplsRead.{impl-typed}
use Rattle.rust_direct.proofs.direct.Direct.begin_impl_type.Goals as goal

pub returns : goal.returns
returns g c =
    impl-typed g.S.Showing.IS_BRIEF c.args._s.now c.args.self.now c.push_byte.new.self _ c.args.place c.len-from.result c.requires c.len-from.ensures
    c.in_ok-push_byte.ensures
    (record { waiting = c.in_ok-push.ensures.items; room = c.push.ensures.room; text = refl; aside = refl; is_aside = refl; notes = refl; numbers = refl; at = refl })
