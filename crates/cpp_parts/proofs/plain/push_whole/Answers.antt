use Rattle.std.proofs.lemmas.Result.{on_ok_weaker}
use Rattle.cpp_parts.proofs.Growing.{grow-alone}
use Rattle.cpp_parts.proofs.plain.push_whole.Goals as goal

pub returns-clause-grows : goal.returns-clause-grows
returns-clause-grows c =
    on_ok_weaker c.push-2.result (λ is. grow-alone c.args.y.now c.args.most _ _ _ _ _ _ _ c.in_ok-push.ensures.tasks is c.in_ok-length.ensures.length) c.push-2.ensures.tasks
