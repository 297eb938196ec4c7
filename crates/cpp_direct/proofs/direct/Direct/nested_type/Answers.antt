use Rattle.cpp_direct.proofs.ForAnswers.{nest-awaited}
use Rattle.cpp_direct.proofs.direct.Direct.nested_type.Goals as goal

pub nest_at-requires-clause-awaits : goal.nest_at-requires-clause-awaits
nest_at-requires-clause-awaits g c = nest-awaited _ c.args.self.now c.in_ok-self.field-0 c.requires.awaits c.in_ok-self.ensures.1 c.requires.letter
