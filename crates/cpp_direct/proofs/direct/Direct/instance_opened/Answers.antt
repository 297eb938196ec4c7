use Rattle.cpp_direct.proofs.ForAnswers.{refl, reverse, IsScopedWithin, first-led, entry-scoped, Open}
use Rattle.cpp_direct.proofs.direct.Direct.instance_opened.Goals as goal

pub returns : goal.returns
returns g c =
    let p = c.requires.awaits in
    let entry = Open.EnclosingInstance c.args.mark c.args.from c.args.to c.args.argument in
    first-led (IsScopedWithin _ p.scope c.args.from c.args.to c.args.argument) c.args.self.now c.push_byte.new.self _ entry p p.leads
    c.in_ok-push_byte.ensures c.in_ok-push.ensures.items refl refl refl refl (λ os h. h)
    (λ around h. entry-scoped p.scope around entry c.args.argument (reverse c.args.self.now.waiting.list.items) refl refl p.leads.1.named h)
