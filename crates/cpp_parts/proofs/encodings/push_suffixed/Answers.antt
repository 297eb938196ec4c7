use Rattle.cpp_parts.proofs.Basics.{sym, ap, arith, on_ok_weaker, steps_of_parts, bytes_of_part, ◌before◌}
use Rattle.cpp_parts.proofs.Growing.{grow-same, grow-then, grow-skip}
use Rattle.cpp_parts.proofs.Measuring.{length-of-text}
use Rattle.cpp_parts.proofs.Standing.{suffix-nothing, suffix-item, suffix-text-nothing, suffix-text-item, suffix-text-text}
use Rattle.cpp_parts.proofs.encodings.push_suffixed.Goals as goal

pub returns-in-Nothing-clause-grows : goal.returns-in-Nothing-clause-grows
returns-in-Nothing-clause-grows c =
    on_ok_weaker c.push_plain.result (λ g. grow-same c.args.y.now c.args.most _ _ _ _ _ _ g (suffix-nothing _ c.in-Nothing.ensures) (omega arith)) c.push_plain.ensures.grows

pub returns-in-Item-clause-grows : goal.returns-in-Item-clause-grows
returns-in-Item-clause-grows c =
    on_ok_weaker c.push_plain-in-Item.result (λ g. grow-same c.args.y.now c.args.most _ _ _ _ _ _ g (suffix-item _ _ _ c.in-Item.ensures.0) (omega arith)) c.push_plain-in-Item.ensures.grows

pub returns-in-Nothing-first_of-clause-grows : goal.returns-in-Nothing-first_of-clause-grows
returns-in-Nothing-first_of-clause-grows c =
    on_ok_weaker c.push_plain-in-Nothing-first_of.result (λ g. grow-same c.args.y.now c.args.most _ _ _ _ _ _ g (suffix-text-nothing _ _ _ c.in-Text.ensures.0 c.in-Nothing-first_of.ensures) (omega arith)) c.push_plain-in-Nothing-first_of.ensures.grows

pub returns-in-Item-first_of-clause-grows : goal.returns-in-Item-first_of-clause-grows
returns-in-Item-first_of-clause-grows c =
    on_ok_weaker c.push_plain-in-Item-first_of.result (λ g. grow-same c.args.y.now c.args.most _ _ _ _ _ _ g (suffix-text-item _ _ _ _ _ c.in-Text.ensures.0 c.in-Item-first_of.ensures.0) (omega arith)) c.push_plain-in-Item-first_of.ensures.grows

pub returns-in_ok-push_alone-in-Text-first_of-clause-grows : goal.returns-in_ok-push_alone-in-Text-first_of-clause-grows
unfolding ◌before◌
returns-in_ok-push_alone-in-Text-first_of-clause-grows c =
    on_ok_weaker c.push.result (λ is. grow-same c.args.y.now c.args.most _ _ _ _ _ _
    (grow-then c.args.y.now c.args.most _ _ _ _ _ _ _ (grow-then c.args.y.now c.args.most _ _ _ _ _ _ _ (c.in_ok-push_plain-in-Text-first_of.ensures.grows) (c.in_ok-push_alone-in-Text-first_of.ensures.grows (bytes_of_part c.args.y.now c.in-Text-first_of.suffix) (sym (length-of-text c.args.y.now _ _ c.in-Text-first_of.ensures.1 c.in_ok-length-in-Text-first_of.ensures.length)))) (grow-skip c.args.y.now c.args.most _ _ _ (bytes_of_part c.args.y.now c.in-Text.opening) is (length-of-text c.args.y.now _ _ c.in-Text.ensures.1 c.in_ok-before-in-Text-first_of.ensures.length)))
    (suffix-text-text _ _ _ _ _ c.in-Text.ensures.0 c.in-Text-first_of.ensures.0)
    (omega (arith, ap steps_of_parts c.in-Text.ensures.0, ap steps_of_parts c.in-Text-first_of.ensures.0))) c.push.ensures.tasks
