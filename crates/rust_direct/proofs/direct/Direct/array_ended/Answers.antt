use Rattle.rust_direct.proofs.FoundTokens.{tested}
use Rattle.rust_direct.proofs.ConstantsRead.{array-read}
use Rattle.rust_direct.proofs.direct.Direct.array_ended.Goals as goal

pub ended-requires : goal.ended-requires
ended-requires g c =
    array-read g.S.Showing.IS_BRIEF c.args.s.now c.args.self.now c.push_pair.new.self c.constant_at.new.self c.note.new.self c.push_byte.new.self c.args.place c.args.from
    c.args._here c.len-begins.result c.in_ok-end.end c.args.forms c.requires.arrives (tested c.is_type.result _ c.is_type.ensures c.if-not-is_type.false)
    c.in_ok-push_pair.ensures c.len-begins.ensures c.in_ok-end.ensures c.in_ok-note.ensures c.in_ok-push_byte.ensures
