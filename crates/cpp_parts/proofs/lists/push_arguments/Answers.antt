use Rattle.cpp_parts.proofs.Basics.{◌-◌, sym, ap, arith, length, take, drop, on_ok_weaker, steps_of_parts, bytes_of_part, ◌before◌}
use Rattle.cpp_parts.proofs.Growing.{grow-same, grow-then, grow-skip}
use Rattle.cpp_parts.proofs.Measuring.{length-of-text}
use Rattle.cpp_parts.proofs.Standing.{args-nothing, args-item, args-text, last-lengths}
use Rattle.cpp_parts.proofs.lists.push_arguments.Goals as goal

pub returns-in-Nothing-clause-grows : goal.returns-in-Nothing-clause-grows
returns-in-Nothing-clause-grows c =
    on_ok_weaker c.push_plain.result (λ g. grow-same c.args.y.now c.args.most _ _ _ _ _ _ g (args-nothing _ _ c.in-Nothing.ensures) (omega arith)) c.push_plain.ensures.grows

pub returns-in-Item-clause-grows : goal.returns-in-Item-clause-grows
returns-in-Item-clause-grows c =
    on_ok_weaker c.push_plain-in-Item.result (λ g. grow-same c.args.y.now c.args.most _ _ _ _ _ _ g (args-item _ _ _ _ c.in-Item.ensures.0) (omega arith)) c.push_plain-in-Item.ensures.grows

pub returns-in_ok-push_brackets-in-Text-clause-grows : goal.returns-in_ok-push_brackets-in-Text-clause-grows
unfolding ◌before◌
returns-in_ok-push_brackets-in-Text-clause-grows c =
    let cut = last-lengths (bytes_of_part c.args.y.now c.in-Text.opening) c.in_ok-count-in-Text.count c.min-bracket.result (sym (length-of-text c.args.y.now _ _ c.in-Text.ensures.1 c.in_ok-count-in-Text.ensures.length)) c.min-bracket.ensures in
    on_ok_weaker c.push.result (λ is. grow-same c.args.y.now c.args.most _ _ _ _ _ _
    (grow-then c.args.y.now c.args.most _ _ _ _ _ _ _ (c.in_ok-push_brackets-in-Text.ensures.grows (drop (length (bytes_of_part c.args.y.now c.in-Text.opening) - 1) (bytes_of_part c.args.y.now c.in-Text.opening)) (sym cut.0)) (grow-skip c.args.y.now c.args.most _ _ _ (take (length (bytes_of_part c.args.y.now c.in-Text.opening) - 1) (bytes_of_part c.args.y.now c.in-Text.opening)) is (sym cut.1)))
    (args-text _ _ _ _ c.in-Text.ensures.0)
    (omega (arith, ap steps_of_parts c.in-Text.ensures.0))) c.push.ensures.tasks
