use Rattle.cpp_parts.proofs.Basics.{arith, on_ok_weaker}
use Rattle.cpp_parts.proofs.Growing.{grow-same}
use Rattle.cpp_parts.proofs.Standing.{named-nothing}
use Rattle.cpp_parts.proofs.names.push_named.Goals as goal

pub returns-in-Nothing-clause-grows : goal.returns-in-Nothing-clause-grows
returns-in-Nothing-clause-grows c =
    on_ok_weaker c.push_whole.result (λ g. grow-same c.args.y.now c.args.most _ _ _ _ _ _ g (named-nothing _ c.in-Nothing.ensures) (omega arith)) c.push_whole.ensures.grows
