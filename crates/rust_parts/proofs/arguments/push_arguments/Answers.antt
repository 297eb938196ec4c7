use Rattle.rust_parts.proofs.Basics.{on_ok_weaker, ap, arith, take, drop, steps_of_parts, ◌before◌, unshared_of, bytes_of_part, printed_by, length_of_text, length-of-text}
use Rattle.rust_parts.proofs.Growing.{grow-same, grow-then, grow-skip, grow-begin, as-plain}
use Rattle.rust_parts.proofs.Measuring.{length-listed}
use Rattle.rust_parts.proofs.Standing.{arguments-nothing, arguments-item, arguments-text, front-lengths}
use Rattle.rust_parts.proofs.arguments.push_arguments.Goals as goal

pub overflow_add-count : goal.overflow_add-count
overflow_add-count c =
    omega (arith, c.in_ok-inside-in-Text.ensures.length, length-of-text (unshared_of c.args.y.now) (bytes_of_part c.args.y.now) _ _ c.in-Text.ensures.1 c.in_ok-count-in-Text.ensures.length, length_of_text (printed_by c.args.y.now c.in-Text.rest.now), c.in-Text.ensures.3, c.ranges.most.fits)

pub returns-in-Nothing-clause-grows : goal.returns-in-Nothing-clause-grows
returns-in-Nothing-clause-grows c =
    on_ok_weaker c.push_plain.result (λ is. as-plain c.args.y.now c.args.most _ _ (printed_by c.args.y.now c.args.parts.now) _ _ is (arguments-nothing _ _ c.in-Nothing.ensures) (omega arith)) c.push_plain.ensures.tasks

pub returns-in-Item-clause-grows : goal.returns-in-Item-clause-grows
returns-in-Item-clause-grows c =
    on_ok_weaker c.push_plain-in-Item.result (λ is. as-plain c.args.y.now c.args.most _ _ (printed_by c.args.y.now c.args.parts.now) _ _ is (arguments-item _ _ _ _ c.in-Item.ensures.0) (omega arith)) c.push_plain-in-Item.ensures.tasks

pub returns-in_ok-push-in-Text-2-clause-grows : goal.returns-in_ok-push-in-Text-2-clause-grows
unfolding ◌before◌
returns-in_ok-push-in-Text-2-clause-grows c =
    let cut = front-lengths (bytes_of_part c.args.y.now c.in-Text.opening.now) c.in_ok-count-in-Text.count c.min-front.result (length-of-text (unshared_of c.args.y.now) (bytes_of_part c.args.y.now) _ _ c.in-Text.ensures.1 c.in_ok-count-in-Text.ensures.length) c.min-front.ensures in
    on_ok_weaker c.push-in-Text-2.result (λ is. grow-same c.args.y.now c.args.most _ _ _ _ _ _ (grow-then c.args.y.now c.args.most _ _ _ _ _ _ _ (grow-begin c.args.y.now c.args.most _ _ _ _ _ _ _ _ c.in_ok-push-in-Text-2.ensures.tasks (length-listed _ _ (drop 2 (bytes_of_part c.args.y.now c.in-Text.opening.now)) _ _ _ cut.1 c.in_ok-inside-in-Text.ensures.length) (grow-then c.args.y.now c.args.most _ _ _ _ _ _ _ c.in_ok-push_listed-in-Text.ensures.grows (grow-skip c.args.y.now c.args.most _ _ _ (drop 2 (bytes_of_part c.args.y.now c.in-Text.opening.now)) c.in_ok-push-in-Text.ensures.tasks cut.1))) (grow-skip c.args.y.now c.args.most _ _ _ (take 2 (bytes_of_part c.args.y.now c.in-Text.opening.now)) is cut.0)) (arguments-text _ _ _ _ c.in-Text.ensures.0) (omega (arith, ap steps_of_parts c.in-Text.ensures.0))) c.push-in-Text-2.ensures.tasks
