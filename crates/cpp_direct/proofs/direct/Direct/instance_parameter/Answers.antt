use Rattle.cpp_direct.proofs.ForAnswers.{ap, refl, ◌∙◌, next-led, instance-closed, entry-scoped, Open}
use Rattle.cpp_direct.proofs.direct.Direct.instance_parameter.Goals as goal

pub returns-then-byte_at-ne69 : goal.returns-then-byte_at-ne69
returns-then-byte_at-ne69 g c =
    let p = c.requires.read.1 in
    next-led c.args.self.now c.push_pair.new.self p c.in_ok-push_pair.ensures (λ os h. h)
    (λ around h. entry-scoped p.scope around (Open.EnclosingInstance c.args.mark c.args.from c.args.to c.requires.read.0) c.requires.read.0 p.rest refl refl p.leads.1.named h)

pub enclosing_parameter-requires-clause-read : goal.enclosing_parameter-requires-clause-read
enclosing_parameter-requires-clause-read g c =
    let w = c.args.self.now in
    let ended = c.end_scope.ensures in
    instance-closed _ w (record w { waiting = c.pop-open.new.self }) c.end_scope.new.self c.args.mark c.args.from c.args.to c.requires.read
    c.pop-open.ensures.rest (ap (λ v. v.list.items) ended.«open» ∙ c.in_ok-push.ensures.items) ended.text ended.candidates ended.at
