use Rattle.rust_direct.proofs.FoundTokens.{tested}
use Rattle.rust_direct.proofs.WrapsRead.{bare-read}
use Rattle.rust_direct.proofs.direct.Direct.bare_ended.Goals as goal

pub ended-requires : goal.ended-requires
ended-requires g c =
    bare-read g.S.Showing.IS_BRIEF c.args.s.now c.args.self.now c.args.place c.args.from c.args._here c.args.forms c.requires
    (tested c.is_type.result _ c.is_type.ensures c.if-not-is_type.false)
