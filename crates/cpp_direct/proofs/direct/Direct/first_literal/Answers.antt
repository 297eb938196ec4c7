use Rattle.cpp_direct.proofs.ForAnswers.{refl, true, literal-read, none-next, first-expected}
use Rattle.cpp_direct.proofs.direct.Direct.first_literal.Goals as goal

pub literal-requires-clause-awaits : goal.literal-requires-clause-awaits
literal-requires-clause-awaits g c = first-expected _ c.args.self.now _ true c.requires.writing refl refl

pub first_enumerator-requires-clause-named : goal.first_enumerator-requires-clause-named
first_enumerator-requires-clause-named g c = c.is_named.ensures c.if-not-is_named.false

pub argument_ended-requires-clause-read : goal.argument_ended-requires-clause-read
argument_ended-requires-clause-read g c =
    let old = c.args.self.now in
    let n = none-next _ old c.requires.writing (c.is_named.ensures c.if-not-is_named.false) in
    literal-read _ old _ c.plain_literal.new.self c.end-from.result 0 old.at _ n.0 n.1 c.end-from.ensures c.in_ok-push.ensures.items refl refl refl refl
    c.in_ok-plain_literal.ensures
