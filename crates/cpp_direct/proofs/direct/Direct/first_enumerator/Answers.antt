use Rattle.cpp_direct.proofs.ForAnswers.{refl, first-enumerator-expected}
use Rattle.cpp_direct.proofs.direct.Direct.first_enumerator.Goals as goal

pub named_type-requires-clause-awaits : goal.named_type-requires-clause-awaits
named_type-requires-clause-awaits g c =
    first-enumerator-expected _ c.args.self.now c.push_byte.new.self _ c.end-from.result c.in_ok-self.field-0 c.requires.writing c.requires.named c.requires.letter
    c.end-from.ensures c.in_ok-self.ensures.1 c.in_ok-push_byte.ensures c.in_ok-push.ensures.items refl refl refl refl
