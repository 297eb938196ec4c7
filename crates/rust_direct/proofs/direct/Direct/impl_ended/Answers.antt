use Rattle.rust_direct.proofs.FoundTokens.{tested}
use Rattle.rust_direct.proofs.ImplsRead.{impl-path-read}
use Rattle.rust_direct.proofs.direct.Direct.impl_ended.Goals as goal

pub begin_impl_type-requires : goal.begin_impl_type-requires
begin_impl_type-requires g c =
    impl-path-read g.S.Showing.IS_BRIEF c.args._s.now c.args.self.now c.turn.new.self c.args.place c.args._here c.args.forms c.requires
    (tested c.is_path.result _ c.is_path.ensures c.if-not-is_path.false) c.if-not-self.false c.turn.ensures.text c.turn.ensures.aside
    c.turn.ensures.is_aside c.turn.ensures.notes c.turn.ensures.numbers c.turn.ensures.waiting c.turn.ensures.at
