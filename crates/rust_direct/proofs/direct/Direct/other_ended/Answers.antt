use Rattle.rust_direct.proofs.FoundTokens.{tested}
use Rattle.rust_direct.proofs.SymbolsRead.{other-read}
use Rattle.rust_direct.proofs.direct.Direct.other_ended.Goals as goal

pub finish-requires : goal.finish-requires
finish-requires g c =
    other-read g.S.Showing.IS_BRIEF c.args.s.now c.args.self.now c.turn.new.self c.args._from c.args.forms c.requires.arrives
    (tested c.is_path.result _ c.is_path.ensures c.if-not-is_path.false) c.if-not-self.false c.turn.ensures.text c.turn.ensures.aside
    c.turn.ensures.is_aside c.turn.ensures.notes c.turn.ensures.numbers c.turn.ensures.waiting c.turn.ensures.at
