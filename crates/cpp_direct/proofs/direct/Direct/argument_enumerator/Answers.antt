use Rattle.cpp_direct.proofs.ForAnswers.{refl, argument-enumerator-read, popped}
use Rattle.cpp_direct.proofs.direct.Direct.argument_enumerator.Goals as goal

pub argument_ended-requires-clause-read : goal.argument_ended-requires-clause-read
argument_ended-requires-clause-read g c =
    let old = c.args.self.now in
    let a = c.requires.awaits in
    argument-enumerator-read _ old (record old { waiting = c.pop-open.new.self }) c.push_byte.new.self c.number.new.self c.literal_ended.new.self _ c.args.from c.args.number c.args.known a
    (c.ends_as_integer.ensures c.if-ends_as_integer.false) refl refl refl refl
    (popped old.waiting.list.items c.pop-open.new.self.list.items _ _ _ refl a.open_is c.pop-open.ensures.rest)
    c.in_ok-push_byte.ensures c.in_ok-number.ensures c.in_ok-literal_ended.ensures c.in_ok-push.ensures.items refl refl refl refl
