use Rattle.cpp_direct.proofs.ForAnswers.{arith, name-awaited}
use Rattle.cpp_direct.proofs.direct.Direct.begin_encoding.Goals as goal

pub begin_nested-requires-clause-awaits : goal.begin_nested-requires-clause-awaits
begin_nested-requires-clause-awaits g c = name-awaited _ c.args.self.now c.requires.awaits

pub begin_name-requires-in_default-clause-awaits : goal.begin_name-requires-in_default-clause-awaits
begin_name-requires-in_default-clause-awaits g c = record { before = c.args.self.now.at; awaits = c.requires.awaits; letter = λ e. cc e; at_is = omega arith }
