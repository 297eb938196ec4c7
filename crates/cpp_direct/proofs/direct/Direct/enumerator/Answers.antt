use Rattle.cpp_direct.proofs.ForAnswers.{refl, popped, enumerator-read}
use Rattle.cpp_direct.proofs.direct.Direct.enumerator.Goals as goal

pub returns : goal.returns
returns g c =
    let old = c.args.self.now in
    let a = c.requires.awaits in
    let w = record old { waiting = c.pop-open.new.self } in
    enumerator-read _ old w c.push.new.self c.number.new.self c.literal_ended.new.self a (c.ends_as_integer.ensures c.if-ends_as_integer.false)
    refl refl refl refl (popped old.waiting.list.items c.pop-open.new.self.list.items a.opened _ _ refl a.open_is c.pop-open.ensures.rest)
    c.in_ok-push.ensures c.in_ok-number.ensures c.in_ok-literal_ended.ensures
