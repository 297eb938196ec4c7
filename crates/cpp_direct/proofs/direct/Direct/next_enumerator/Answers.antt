use Rattle.cpp_direct.proofs.ForAnswers.{refl, argument-enumerator-expected}
use Rattle.cpp_direct.proofs.direct.Direct.next_enumerator.Goals as goal

pub named_type-requires-clause-awaits : goal.named_type-requires-clause-awaits
named_type-requires-clause-awaits g c =
    argument-enumerator-expected _ c.args.self.now c.push_pair.new.self c.push_byte.new.self _ c.args.last c.end-from.result c.in_ok-number.number c.in_ok-self.field-0 c.args.known
    c.requires.awaits c.requires.letter c.in_ok-push_pair.ensures c.end-from.ensures c.in_ok-number.ensures.1 c.in_ok-self.ensures.1 c.in_ok-push_byte.ensures
    c.in_ok-push.ensures.items refl refl refl refl
