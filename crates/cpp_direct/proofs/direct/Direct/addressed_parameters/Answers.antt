use Rattle.cpp_direct.proofs.ForAnswers.{arith, refl, reverse, sym, ◌∙◌, first-led, void-shown, void-unshown, entry-scoped, there, Open}
use Rattle.cpp_direct.proofs.direct.Direct.addressed_parameters.Goals as goal

pub addressed-requires : goal.addressed-requires
addressed-requires g c = record {
  read = void-unshown c.args.self.now _ c.requires.awaits c.requires.awaits.leads.typed
      (there c.args.s.now c.args.self.now.at c.byte_at.result 118 c.if-byte_at-eq118.true (omega arith) c.byte_at.ensures) c.in_ok-self.ensures.1
      (sym c.IS_BARE.ensures ∙ c.if-IS_BARE.true);
}

pub addressed_marked-requires : goal.addressed_marked-requires
addressed_marked-requires g c = record {
  read = void-shown c.args.self.now c.push_pair.new.self _ c.requires.awaits c.requires.awaits.leads.typed
      (there c.args.s.now c.args.self.now.at c.byte_at.result 118 c.if-byte_at-eq118.true (omega arith) c.byte_at.ensures) c.in_ok-self.ensures.1
      c.in_ok-push_pair.ensures (sym c.IS_BARE.ensures ∙ c.if-IS_BARE.false);
}

pub returns : goal.returns
returns g c =
    let p = c.requires.awaits in
    let entry = Open.Addressed c.args.mark c.args.to c.args.argument in
    first-led _ c.args.self.now c.push_byte.new.self _ entry p p.leads c.in_ok-push_byte.ensures
    c.in_ok-push.ensures.items refl refl refl refl (λ os h. h) (λ around h. entry-scoped p.scope around entry c.args.argument (reverse c.args.self.now.waiting.list.items) refl refl p.leads.named h)
