use Rattle.cpp_direct.proofs.ForAnswers.{nested-begins}
use Rattle.cpp_direct.proofs.direct.Direct.begin_nested.Goals as goal

pub nest_at-requires-clause-awaits : goal.nest_at-requires-clause-awaits
nest_at-requires-clause-awaits g c =
    nested-begins _ c.args.self.now c.in_ok-self.field-0 c.in_ok-place.place c.requires.awaits c.requires.letter c.in_ok-self.ensures.1 c.in_ok-place.ensures
