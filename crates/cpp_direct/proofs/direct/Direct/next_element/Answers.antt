use Rattle.cpp_direct.proofs.ForAnswers.{refl, true, argument-type, next-argument-begins}
use Rattle.cpp_direct.proofs.direct.Direct.next_element.Goals as goal

pub returns : goal.returns
returns g c =
    argument-type _ _
    (next-argument-begins _ c.args.self.now c.push_pair.new.self _ true c.args.before c.end-from.result c.in_ok-number.number c.args.known
    c.requires.awaits c.in_ok-push_pair.ensures c.end-from.ensures c.in_ok-number.ensures.1 c.in_ok-push.ensures.items refl refl refl refl)
