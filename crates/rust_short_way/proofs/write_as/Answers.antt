use Rattle.std.proofs.Common.{arith}
use Rattle.rust_short_way.proofs.write_as.Goals as goal

pub returns-then-run-clause-answer : goal.returns-then-run-clause-answer
returns-then-run-clause-answer g c _ = c.run.ensures.answer c.if-run.true

pub restart-requires-clause-shown : goal.restart-requires-clause-shown
restart-requires-clause-shown g c = omega arith
