use Rattle.cpp_direct.proofs.ForAnswers.{refl, true, argument-begins, first-expected, type-expected}
use Rattle.cpp_direct.proofs.direct.Direct.first_type.Goals as goal

pub returns-then-not-is_named : goal.returns-then-not-is_named
returns-then-not-is_named g c = type-expected _ _ (first-expected _ c.args.self.now _ true c.requires.writing refl refl)

pub argument_at-requires-clause-awaits : goal.argument_at-requires-clause-awaits
argument_at-requires-clause-awaits g c =
    argument-begins _ c.args.self.now _ c.end-from.result c.requires.writing (c.is_named.ensures c.if-not-is_named.false)
    c.end-from.ensures c.in_ok-push.ensures.items refl refl refl refl

pub returns-then-is_element_at : goal.returns-then-is_element_at
returns-then-is_element_at g c = type-expected _ _ (first-expected _ c.args.self.now _ true c.requires.writing refl refl)
