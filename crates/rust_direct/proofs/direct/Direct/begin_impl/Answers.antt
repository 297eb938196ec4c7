use Rattle.rust_direct.proofs.Basics.{ap, subst, ◌∙◌, IsDisambiguatorAt}
use Rattle.rust_direct.proofs.ImplsRead.{impl-begun}
use Rattle.rust_direct.proofs.direct.Direct.begin_impl.Goals as goal

pub returns : goal.returns
returns g c =
    impl-begun g.S.Showing.IS_BRIEF c.args.s.now c.args.self.now c.turn.new.self c.in_ok-behind.ensures.0 c.in_ok-behind.behind _ c.requires.awaits c.requires.letter
    (subst (λ k. IsDisambiguatorAt c.args.s.now k c.in_ok-behind.ensures.0 c.in_ok-behind.behind) c.in_ok-checked_add.ensures.1 c.in_ok-behind.ensures.1)
    c.if-self.false (ap (λ v. v.list.items) c.turn.ensures.waiting ∙ c.in_ok-push.ensures.items)
    (ap (λ v. v.room) c.turn.ensures.waiting ∙ c.push.ensures.room) c.turn.ensures.text c.turn.ensures.aside
    c.turn.ensures.is_aside c.turn.ensures.notes c.turn.ensures.numbers c.turn.ensures.at
