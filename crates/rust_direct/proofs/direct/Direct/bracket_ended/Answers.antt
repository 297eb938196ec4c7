use Rattle.rust_direct.proofs.FoundTokens.{tested}
use Rattle.rust_direct.proofs.WrapsRead.{bracket-read}
use Rattle.rust_direct.proofs.direct.Direct.bracket_ended.Goals as goal

pub ended-requires : goal.ended-requires
ended-requires g c =
    bracket-read g.S.Showing.IS_BRIEF c.args.s.now c.args.self.now c.push_byte.new.self c.args.place c.args.from c.args._here c.args.forms c.requires
    (tested c.is_type.result _ c.is_type.ensures c.if-not-is_type.false) c.in_ok-push_byte.ensures
