use Rattle.cpp_direct.proofs.ForAnswers.{subst, IsNameScoped, symbol_by, object-ended, parameters-begin, scope-begins}
use Rattle.cpp_direct.proofs.direct.Direct.name_ended.Goals as goal

pub end-requires-clause-ended : goal.end-requires-clause-ended
end-requires-clause-ended g c = object-ended _ c.args.self.now c.args.mark c.args.is_instance c.args.argument c.args.from c.requires.ended

pub begin_front-requires-clause-scoped : goal.begin_front-requires-clause-scoped
begin_front-requires-clause-scoped g c =
    let s = symbol_by g.G.Grammar.IS_WIDE g.G.Grammar.IS_BARE g.G.Grammar.IS_BRIEF c.args.s.now in
    let begun = c.in_ok-argument.ensures in
    subst (λ b. IsNameScoped s c.begin_scope.new.self c.args.mark b c.in_ok-argument.argument c.args.from) c.if-is_instance.true
    (scope-begins s c.args.self.now c.begin_scope.new.self c.args.mark c.args.is_instance c.args.argument c.in_ok-argument.argument c.args.from c.requires.ended
    begun.is.0 begun.is.1 begun.first begun.same)

pub begin_parameters-requires-clause-awaits : goal.begin_parameters-requires-clause-awaits
begin_parameters-requires-clause-awaits g c =
    let begun = c.in_ok-argument.ensures in
    parameters-begin _ c.begin_scope.new.self c.args.mark c.args.is_instance c.in_ok-argument.argument c.args.from c.start-start.result
    (scope-begins _ c.args.self.now c.begin_scope.new.self c.args.mark c.args.is_instance c.args.argument c.in_ok-argument.argument c.args.from c.requires.ended
    begun.is.0 begun.is.1 begun.first begun.same) c.if-is_instance.false c.start-start.ensures.whole c.start-start.ensures.bare
