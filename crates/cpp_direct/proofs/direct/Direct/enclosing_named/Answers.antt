use Rattle.cpp_direct.proofs.ForAnswers.{object-within, plain-awaits}
use Rattle.cpp_direct.proofs.direct.Direct.enclosing_named.Goals as goal

pub enclosing_ended-requires-clause-read : goal.enclosing_ended-requires-clause-read
enclosing_ended-requires-clause-read g c = object-within _ c.args.self.now c.args.mark c.args.from c.requires.named

pub enclosing_parameters-requires-clause-awaits : goal.enclosing_parameters-requires-clause-awaits
enclosing_parameters-requires-clause-awaits g c =
    let p = c.requires.named in
    plain-awaits c.args.self.now p.kept p.has p.returns p.from_is p.goes
