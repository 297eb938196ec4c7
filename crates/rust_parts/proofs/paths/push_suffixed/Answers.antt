use Rattle.rust_parts.proofs.Basics.{on_ok_weaker, arith, ◌before◌, unshared_of, bytes_of_part, printed_by, length-of-text}
use Rattle.rust_parts.proofs.Growing.{grow-same, grow-then, grow-skip, grow-plain, as-plain, grow-alone}
use Rattle.rust_parts.proofs.Standing.{suffix-nothing, suffix-item, suffix-text-nothing, suffix-text-item, suffix-text-text}
use Rattle.rust_parts.proofs.paths.push_suffixed.Goals as goal

pub returns-in-Nothing-clause-grows : goal.returns-in-Nothing-clause-grows
returns-in-Nothing-clause-grows c =
    on_ok_weaker c.push_plain.result (λ is. as-plain c.args.y.now c.args.most _ _ (printed_by c.args.y.now c.args.parts.now) _ _ is (suffix-nothing _ c.in-Nothing.ensures) (omega arith)) c.push_plain.ensures.tasks

pub returns-in-Item-clause-grows : goal.returns-in-Item-clause-grows
returns-in-Item-clause-grows c =
    on_ok_weaker c.push_plain-in-Item.result (λ is. as-plain c.args.y.now c.args.most _ _ (printed_by c.args.y.now c.args.parts.now) _ _ is (suffix-item _ _ _ c.in-Item.ensures.0) (omega arith)) c.push_plain-in-Item.ensures.tasks

pub returns-in-Nothing-first_of-clause-grows : goal.returns-in-Nothing-first_of-clause-grows
returns-in-Nothing-first_of-clause-grows c =
    on_ok_weaker c.push_plain-in-Nothing-first_of.result (λ is. as-plain c.args.y.now c.args.most _ _ (printed_by c.args.y.now c.args.parts.now) _ _ is (suffix-text-nothing _ _ _ c.in-Text.ensures.0 c.in-Nothing-first_of.ensures) (omega arith)) c.push_plain-in-Nothing-first_of.ensures.tasks

pub returns-in-Item-first_of-clause-grows : goal.returns-in-Item-first_of-clause-grows
returns-in-Item-first_of-clause-grows c =
    on_ok_weaker c.push_plain-in-Item-first_of.result (λ is. as-plain c.args.y.now c.args.most _ _ (printed_by c.args.y.now c.args.parts.now) _ _ is (suffix-text-item _ _ _ _ _ c.in-Text.ensures.0 c.in-Item-first_of.ensures.0) (omega arith)) c.push_plain-in-Item-first_of.ensures.tasks

pub returns-in_ok-push_alone-in-Text-first_of-clause-grows : goal.returns-in_ok-push_alone-in-Text-first_of-clause-grows
unfolding ◌before◌
returns-in_ok-push_alone-in-Text-first_of-clause-grows c =
    on_ok_weaker c.push.result (λ is. grow-same c.args.y.now c.args.most _ _ _ _ _ _ (grow-then c.args.y.now c.args.most _ _ _ _ _ _ _ (grow-then c.args.y.now c.args.most _ _ _ _ _ _ _ (grow-plain c.args.y.now c.args.most _ _ (printed_by c.args.y.now c.in-Text-first_of.others.now) c.in_ok-push_plain-in-Text-first_of.ensures.tasks) (grow-alone c.args.y.now c.args.most _ _ _ _ _ (bytes_of_part c.args.y.now c.in-Text-first_of.suffix.now) c.in_ok-push_alone-in-Text-first_of.ensures.tasks (length-of-text (unshared_of c.args.y.now) (bytes_of_part c.args.y.now) _ _ c.in-Text-first_of.ensures.1 c.in_ok-length-in-Text-first_of.ensures.length))) (grow-skip c.args.y.now c.args.most _ _ _ (bytes_of_part c.args.y.now c.in-Text.opening.now) is (length-of-text (unshared_of c.args.y.now) (bytes_of_part c.args.y.now) _ _ c.in-Text.ensures.1 c.in_ok-front-in-Text-first_of.ensures.length))) (suffix-text-text _ _ _ _ _ c.in-Text.ensures.0 c.in-Text-first_of.ensures.0) (omega arith)) c.push.ensures.tasks
