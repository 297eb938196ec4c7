use Rattle.rust_direct.proofs.Basics.{subst, Writes}
use Rattle.rust_direct.proofs.FoundTokens.{tested}
use Rattle.rust_direct.proofs.TuplesRead.{tuple-read}
use Rattle.rust_direct.proofs.direct.Direct.tuple_ended.Goals as goal

pub ended-requires : goal.ended-requires
ended-requires g c =
    tuple-read g.S.Showing.IS_BRIEF c.args.s.now c.args.self.now c.push.new.self c.args.place c.args.from c.args._here c.in_ok-self.field-0 c.args.is_first c.args.forms
    c.requires.arrives c.requires.letter (tested c.is_type.result _ c.is_type.ensures c.if-not-is_type.false) c.in_ok-self.ensures.1
    (subst (λ l. Writes (record c.args.self.now { at = c.in_ok-self.field-0 }) c.push.new.self l) c.tuple_end.ensures c.in_ok-push.ensures)
