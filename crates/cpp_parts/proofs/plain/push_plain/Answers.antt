use Rattle.std.proofs.lemmas.Result.{on_ok_weaker}
use Rattle.cpp_parts.proofs.Growing.{grow-skip}
use Rattle.cpp_parts.proofs.plain.push_plain.Goals as goal

pub returns-clause-grows : goal.returns-clause-grows
returns-clause-grows c = on_ok_weaker c.push.result (λ is. grow-skip c.args.y.now c.args.most _ _ _ _ is c.in_ok-length.ensures.length) c.push.ensures.tasks
