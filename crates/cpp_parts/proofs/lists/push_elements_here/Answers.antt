use Rattle.cpp_parts.proofs.Basics.{arith, on_ok_weaker}
use Rattle.cpp_parts.proofs.Growing.{grow-same}
use Rattle.cpp_parts.proofs.Standing.{here-nothing, here-text}
use Rattle.cpp_parts.proofs.lists.push_elements_here.Goals as goal

pub returns-in-Nothing-clause-grows : goal.returns-in-Nothing-clause-grows
returns-in-Nothing-clause-grows c =
    on_ok_weaker c.push_plain.result (λ g. grow-same c.args.y.now c.args.most _ _ _ _ _ _ g (here-nothing _ _ _ _ c.in-Nothing.ensures) (omega arith)) c.push_plain.ensures.grows

pub returns-in-Text-clause-grows : goal.returns-in-Text-clause-grows
returns-in-Text-clause-grows c =
    on_ok_weaker c.push_plain-in-Text.result (λ g. grow-same c.args.y.now c.args.most _ _ _ _ _ _ g (here-text _ _ _ _ _ _ c.in-Text.ensures.0) (omega arith)) c.push_plain-in-Text.ensures.grows
