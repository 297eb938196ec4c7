use Rattle.std.proofs.Common.{ap, ◌∙◌}
use Rattle.rust_direct.proofs.FoundTokens.{tested}
use Rattle.rust_direct.proofs.SymbolsRead.{path-ended, other-begun}
use Rattle.rust_direct.proofs.direct.Direct.symbol_ended.Goals as goal

pub finish-requires : goal.finish-requires
finish-requires g c =
    path-ended g.S.Showing.IS_BRIEF c.args.s.now c.args.self.now c.args._from c.args.forms c.requires.arrives
    (tested c.has_form.result _ c.has_form.ensures c.if-not-has_form.false)

pub returns : goal.returns
returns g c =
    other-begun g.S.Showing.IS_BRIEF c.args.s.now c.args.self.now c.turn.new.self c.args._from c.args.forms _ c.requires.arrives
    (tested c.has_form.result _ c.has_form.ensures c.if-not-has_form.false) c.if-self.false
    (ap (λ v. v.list.items) c.turn.ensures.waiting ∙ c.in_ok-push.ensures.items)
    (ap (λ v. v.room) c.turn.ensures.waiting ∙ c.push.ensures.room) c.turn.ensures.text c.turn.ensures.aside c.turn.ensures.is_aside
    c.turn.ensures.notes c.turn.ensures.numbers c.turn.ensures.at
