use Rattle.cpp_direct.proofs.ForAnswers.{refl, base-expected}
use Rattle.cpp_direct.proofs.direct.Direct.derived_ended.Goals as goal

pub returns : goal.returns
returns g c =
    let read = c.in_ok-distance.ensures in
    base-expected _ c.args.self.now c.distance.new.self (record c.distance.new.self { waiting = c.pop-open.new.self }) c.push.new.self
    (record c.push.new.self { waiting = c.push-2.new.self }) c.end-to.result c.requires.read read.0 read.1 read.2 read.3 read.4 read.5 c.end-to.ensures
    refl refl refl refl c.pop-open.ensures.rest c.in_ok-push.ensures refl refl refl refl c.in_ok-push-2.ensures.items
