use Rattle.cpp_parts.proofs.Basics.{ap, arith, on_ok_weaker, cost_of_parts, steps_of_parts}
use Rattle.cpp_parts.proofs.Growing.{grow-same, grow-then, grow-elements}
use Rattle.cpp_parts.proofs.Standing.{from-skipped, from-text, from-item}
use Rattle.cpp_parts.proofs.lists.push_elements_from.Goals as goal

pub returns-in-Nothing-clause-grows : goal.returns-in-Nothing-clause-grows
returns-in-Nothing-clause-grows c =
    on_ok_weaker c.push.result
    (λ is. grow-same c.args.y.now c.args.most _ _ _ _ _ _ (grow-elements c.args.y.now c.args.most _ _ _ _ _ _ is c.rest_node.ensures.below c.requires.left (omega (arith, c.requires.numbers, c.next.ensures.few, ap cost_of_parts c.requires.is)))
    (from-skipped _ _ _ _ _ _ _ _ c.requires.is c.in-Nothing.ensures c.rest_node.ensures.is c.next.ensures.is) (omega (arith, ap steps_of_parts c.requires.is)))
    c.push.ensures.tasks

pub returns-in-Text-clause-grows : goal.returns-in-Text-clause-grows
returns-in-Text-clause-grows c =
    on_ok_weaker c.push_plain.result (λ g. grow-same c.args.y.now c.args.most _ _ _ _ _ _ g (from-text _ _ _ _ _ _ _ _ c.requires.is c.in-Text.ensures.0) (omega arith)) c.push_plain.ensures.grows

pub returns-in_ok-push_elements_after-in-Item-clause-grows : goal.returns-in_ok-push_elements_after-in-Item-clause-grows
returns-in_ok-push_elements_after-in-Item-clause-grows c =
    on_ok_weaker c.push_element.result
    (λ g. grow-same c.args.y.now c.args.most _ _ _ _ _ _ (grow-then c.args.y.now c.args.most _ _ _ _ _ _ _ c.in_ok-push_elements_after-in-Item.ensures.grows g)
    (from-item _ _ _ _ _ _ _ _ _ _ _ c.requires.is c.in-Item.ensures.0 c.element_node.ensures.is c.rest_node-in-Item.ensures.is c.next-in-Item.ensures.is)
    (omega (arith, ap steps_of_parts c.requires.is, ap steps_of_parts c.in-Item.ensures.0)))
    c.push_element.ensures.grows
