use Rattle.cpp_direct.proofs.ForAnswers.{returned-awaits, instance-named}
use Rattle.cpp_direct.proofs.direct.Direct.enclosing_instance.Goals as goal

pub enclosing_parameters-requires-clause-awaits : goal.enclosing_parameters-requires-clause-awaits
enclosing_parameters-requires-clause-awaits g c =
    let p = instance-named _ c.args.self.now c.args.mark c.args.encoding c.args.from c.requires.named in
    returned-awaits c.args.self.now c.in-Some.behind p.kept p.has p.returns p.from_is p.goes c.in-Some.ensures
