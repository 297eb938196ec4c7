use Rattle.cpp_parts.proofs.Basics.{ap, arith, on_ok_weaker, cost_of_parts, steps_of_parts}
use Rattle.cpp_parts.proofs.Growing.{grow-same, grow-then, grow-elements}
use Rattle.cpp_parts.proofs.Standing.{after-nothing, after-text, after-item}
use Rattle.cpp_parts.proofs.lists.push_elements_after.Goals as goal

pub returns-in-Nothing-clause-grows : goal.returns-in-Nothing-clause-grows
returns-in-Nothing-clause-grows c =
    on_ok_weaker c.push_plain.result (λ g. grow-same c.args.y.now c.args.most _ _ _ _ _ _ g (after-nothing _ _ _ _ c.in-Nothing.ensures) (omega arith)) c.push_plain.ensures.grows

pub returns-in-Text-clause-grows : goal.returns-in-Text-clause-grows
returns-in-Text-clause-grows c =
    on_ok_weaker c.push_plain-in-Text.result (λ g. grow-same c.args.y.now c.args.most _ _ _ _ _ _ g (after-text _ _ _ _ _ _ c.in-Text.ensures.0) (omega arith)) c.push_plain-in-Text.ensures.grows

pub returns-in_ok-push_plain-in-Item-clause-grows : goal.returns-in_ok-push_plain-in-Item-clause-grows
returns-in_ok-push_plain-in-Item-clause-grows c =
    on_ok_weaker c.push.result
    (λ is. grow-same c.args.y.now c.args.most _ _ _ _ _ _
    (grow-then c.args.y.now c.args.most _ _ _ _ _ _ _ c.in_ok-push_plain-in-Item.ensures.grows
    (grow-elements c.args.y.now c.args.most _ _ _ _ _ _ is c.requires.node c.in-Item.ensures.1 (omega (arith, c.requires.numbers, ap cost_of_parts c.in-Item.ensures.0))))
    (after-item _ _ _ _ _ _ c.in-Item.ensures.0) (omega (arith, ap steps_of_parts c.in-Item.ensures.0)))
    c.push.ensures.tasks
