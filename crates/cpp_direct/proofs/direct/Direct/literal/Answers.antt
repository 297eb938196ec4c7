use Rattle.cpp_direct.proofs.ForAnswers.{refl, reads-begun, enumerator-expected, literal-added}
use Rattle.cpp_direct.proofs.direct.Direct.literal.Goals as goal

pub named_type-requires-clause-awaits : goal.named_type-requires-clause-awaits
named_type-requires-clause-awaits g c =
    enumerator-expected _ c.args.self.now (record c.args.self.now { at = c.in_ok-self.field-0 }) c.push.new.self
    (record c.push.new.self { waiting = c.push-2.new.self }) c.requires.awaits c.requires.letter c.in_ok-self.ensures.1
    (reads-begun c.args.self.now _ refl refl refl refl refl) c.in_ok-push.ensures refl refl refl c.in_ok-push-2.ensures.items refl

pub returns-then-not-is_enumerator_at : goal.returns-then-not-is_enumerator_at
returns-then-not-is_enumerator_at g c = literal-added _ c.args.self.now c.plain_literal.new.self c.requires.awaits c.in_ok-plain_literal.ensures
