use Rattle.rust_direct.proofs.FoundTokens.{tested}
use Rattle.rust_direct.proofs.TraitsRead.{implemented-read}
use Rattle.rust_direct.proofs.direct.Direct.implemented_ended.Goals as goal

pub ended-requires : goal.ended-requires
ended-requires g c =
    implemented-read g.S.Showing.IS_BRIEF c.args.s.now c.args.self.now c.push_byte.new.self c.args.place c.args.from c.args._here c.args.forms c.requires
    (tested c.has_form.result _ c.has_form.ensures c.if-not-has_form.false) c.in_ok-push_byte.ensures
