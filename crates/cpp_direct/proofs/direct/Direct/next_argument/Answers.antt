use Rattle.cpp_direct.proofs.ForAnswers.{refl, false, next-argument-begins}
use Rattle.cpp_direct.proofs.direct.Direct.next_argument.Goals as goal

pub argument_at-requires-clause-awaits : goal.argument_at-requires-clause-awaits
argument_at-requires-clause-awaits g c =
    next-argument-begins _ c.args.self.now c.push_pair.new.self _ false c.args.before c.end-from.result c.in_ok-number.number c.args.known
    c.requires.awaits c.in_ok-push_pair.ensures c.end-from.ensures c.in_ok-number.ensures.1 c.in_ok-push.ensures.items refl refl refl refl
