use Rattle.cpp_parts.proofs.Basics.{sym, on_ok_weaker}
use Rattle.cpp_parts.proofs.Growing.{grow-alone}
use Rattle.cpp_parts.proofs.plain.push_alone.Goals as goal

pub returns-clause-grows : goal.returns-clause-grows
returns-clause-grows c =
    on_ok_weaker c.push-2.result (λ is b long. grow-alone c.args.y.now c.args._most _ _ _ _ _ _ b c.in_ok-push.ensures.tasks is (sym long)) c.push-2.ensures.tasks
