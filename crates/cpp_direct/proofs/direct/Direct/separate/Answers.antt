use Rattle.cpp_direct.proofs.ForAnswers.{none-written}
use Rattle.cpp_direct.proofs.direct.Direct.separate.Goals as goal

pub returns-then-is_first : goal.returns-then-is_first
returns-then-is_first c = rw c.if-is_first.true (none-written c.args.self.now)
