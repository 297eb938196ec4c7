use Rattle.cpp_parts.proofs.Basics.{ap, arith, on_ok_weaker, steps_of_parts, bytes_of_part, ◌before◌}
use Rattle.cpp_parts.proofs.Growing.{grow-same, grow-then, grow-skip}
use Rattle.cpp_parts.proofs.Measuring.{length-of-text}
use Rattle.cpp_parts.proofs.Standing.{elements-nothing, elements-item, elements-text}
use Rattle.cpp_parts.proofs.lists.push_elements.Goals as goal

pub returns-in-Nothing-clause-grows : goal.returns-in-Nothing-clause-grows
returns-in-Nothing-clause-grows c =
    on_ok_weaker c.push_plain.result (λ g. grow-same c.args.y.now c.args.most _ _ _ _ _ _ g (elements-nothing _ _ _ _ c.in-Nothing.ensures) (omega arith)) c.push_plain.ensures.grows

pub returns-in-Item-clause-grows : goal.returns-in-Item-clause-grows
returns-in-Item-clause-grows c =
    on_ok_weaker c.push_elements_here.result (λ g. grow-same c.args.y.now c.args.most _ _ _ _ _ _ g (elements-item _ _ _ _ _ _ c.in-Item.ensures.0) (omega arith)) c.push_elements_here.ensures.grows

pub returns-in_ok-length-in-Text-clause-grows : goal.returns-in_ok-length-in-Text-clause-grows
unfolding ◌before◌
returns-in_ok-length-in-Text-clause-grows c =
    on_ok_weaker c.push.result
    (λ is. grow-same c.args.y.now c.args.most _ _ _ _ _ _
    (grow-then c.args.y.now c.args.most _ _ _ _ _ _ _ c.in_ok-push_elements_here-in-Text.ensures.grows
    (grow-skip c.args.y.now c.args.most _ _ _ (bytes_of_part c.args.y.now c.in-Text.comma) is (length-of-text c.args.y.now _ _ c.in-Text.ensures.1 c.in_ok-length-in-Text.ensures.length)))
    (elements-text _ _ _ _ _ _ c.in-Text.ensures.0) (omega (arith, ap steps_of_parts c.in-Text.ensures.0)))
    c.push.ensures.tasks
