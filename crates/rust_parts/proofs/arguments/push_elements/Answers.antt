use Rattle.rust_parts.proofs.Basics.{on_ok_weaker, ap, arith, steps_of_parts, text_of, ◌before◌, unshared_of, bytes_of_part, printed_by}
use Rattle.rust_parts.proofs.Growing.{grow-same, grow-then, as-plain, grow-alone, grow-after}
use Rattle.rust_parts.proofs.Standing.{elements-nothing, elements-item, elements-text-nothing, elements-text-text, elements-text-item}
use Rattle.rust_parts.proofs.arguments.push_elements.Goals as goal

pub returns-in-Nothing-clause-grows : goal.returns-in-Nothing-clause-grows
returns-in-Nothing-clause-grows c =
    on_ok_weaker c.push_plain.result (λ is. as-plain c.args.y.now c.args.most _ _ (printed_by c.args.y.now c.args.parts.now) _ _ is (elements-nothing _ _ _ c.in-Nothing.ensures) (omega arith)) c.push_plain.ensures.tasks

pub returns-in_ok-push_listed-in-Item-clause-grows : goal.returns-in_ok-push_listed-in-Item-clause-grows
unfolding ◌before◌
returns-in_ok-push_listed-in-Item-clause-grows c =
    on_ok_weaker c.push_alone.result (λ is. grow-same c.args.y.now c.args.most _ _ _ _ _ _ (grow-then c.args.y.now c.args.most _ _ _ _ _ _ _ c.in_ok-push_listed-in-Item.ensures.grows (grow-alone c.args.y.now c.args.most _ _ _ _ _ (text_of (unshared_of c.args.y.now c.in-Item.argument.now)) is c.in_ok-length-in-Item.ensures.length)) (elements-item _ _ _ _ _ c.in-Item.ensures.0) (omega (arith, ap steps_of_parts c.in-Item.ensures.0))) c.push_alone.ensures.tasks

pub returns-in-Nothing-first_of-clause-grows : goal.returns-in-Nothing-first_of-clause-grows
returns-in-Nothing-first_of-clause-grows c =
    on_ok_weaker c.push_plain-in-Nothing-first_of.result (λ is. as-plain c.args.y.now c.args.most _ _ (printed_by c.args.y.now c.args.parts.now) _ _ is (elements-text-nothing _ _ _ _ _ c.in-Text.ensures.0 c.in-Nothing-first_of.ensures) (omega arith)) c.push_plain-in-Nothing-first_of.ensures.tasks

pub returns-in-Text-first_of-clause-grows : goal.returns-in-Text-first_of-clause-grows
returns-in-Text-first_of-clause-grows c =
    on_ok_weaker c.push_plain-in-Text-first_of.result (λ is. as-plain c.args.y.now c.args.most _ _ (printed_by c.args.y.now c.args.parts.now) _ _ is (elements-text-text _ _ _ _ _ _ _ c.in-Text.ensures.0 c.in-Text-first_of.ensures.0) (omega arith)) c.push_plain-in-Text-first_of.ensures.tasks

pub returns-in_ok-push_listed-in-Item-first_of-clause-grows : goal.returns-in_ok-push_listed-in-Item-first_of-clause-grows
unfolding ◌before◌
returns-in_ok-push_listed-in-Item-first_of-clause-grows c =
    on_ok_weaker c.push_after.result (λ is. grow-same c.args.y.now c.args.most _ _ _ _ _ _ (grow-then c.args.y.now c.args.most _ _ _ _ _ _ _ c.in_ok-push_listed-in-Item-first_of.ensures.grows (grow-after c.args.y.now c.args.most _ _ _ _ (bytes_of_part c.args.y.now c.in-Text.comma.now) (text_of (unshared_of c.args.y.now c.in-Item-first_of.argument.now)) is)) (elements-text-item _ _ _ _ _ _ _ c.in-Text.ensures.0 c.in-Item-first_of.ensures.0) (omega (arith, ap steps_of_parts c.in-Text.ensures.0, ap steps_of_parts c.in-Item-first_of.ensures.0))) c.push_after.ensures.tasks
