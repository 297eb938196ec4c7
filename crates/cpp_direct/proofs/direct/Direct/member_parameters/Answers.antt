use Rattle.cpp_direct.proofs.ForAnswers.{◌∷◌, ap, arith, length, refl, reverse, sym, ◌∙◌, first-led, void-shown, void-unshown, none-scoped, there, Open}
use Rattle.cpp_direct.proofs.direct.Direct.member_parameters.Goals as goal

pub member_ended-requires : goal.member_ended-requires
member_ended-requires g c =
    void-unshown c.args.self.now _ c.requires.awaits c.requires.awaits.leads
    (there c.args.s.now c.args.self.now.at c.byte_at.result 118 c.if-byte_at-eq118.true (omega arith) c.byte_at.ensures) c.in_ok-self.ensures.1
    (sym c.IS_BARE.ensures ∙ c.if-IS_BARE.true)

pub member_ended-requires-then-may_end : goal.member_ended-requires-then-may_end
member_ended-requires-then-may_end g c =
    void-shown c.args.self.now c.push_pair.new.self _ c.requires.awaits c.requires.awaits.leads
    (there c.args.s.now c.args.self.now.at c.byte_at.result 118 c.if-byte_at-eq118.true (omega arith) c.byte_at.ensures) c.in_ok-self.ensures.1
    c.in_ok-push_pair.ensures (sym c.IS_BARE.ensures ∙ c.if-IS_BARE.false)

pub returns : goal.returns
returns g c =
    let p = c.requires.awaits in
    let entry = Open.Member c.args.mark c.end-to.result in
    first-led _ c.args.self.now c.push_byte.new.self _ entry p (p.leads.0, c.end-to.ensures ∙ ap length p.written, p.leads.1)
    c.in_ok-push_byte.ensures c.in_ok-push.ensures.items refl refl refl refl (λ os h. h)
    (λ around h. none-scoped p.scope around (entry ∷ reverse c.args.self.now.waiting.list.items) refl)
