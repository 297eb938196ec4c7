use Rattle.rust_parts.proofs.Basics.{on_ok_weaker, ap, arith, steps_of_parts, text_of, ◌before◌, unshared_of, bytes_of_part, printed_by}
use Rattle.rust_parts.proofs.Growing.{grow-same, grow-then, as-plain, grow-after}
use Rattle.rust_parts.proofs.Standing.{type-nothing, type-item, type-text-nothing, type-text-text, type-text-item}
use Rattle.rust_parts.proofs.paths.push_of_type.Goals as goal

pub returns-in-Nothing-clause-grows : goal.returns-in-Nothing-clause-grows
returns-in-Nothing-clause-grows c =
    on_ok_weaker c.push_plain.result (λ is. as-plain c.args.y.now c.args.most _ _ (printed_by c.args.y.now c.args.parts.now) _ _ is (type-nothing _ c.in-Nothing.ensures) (omega arith)) c.push_plain.ensures.tasks

pub returns-in-Item-clause-grows : goal.returns-in-Item-clause-grows
returns-in-Item-clause-grows c =
    on_ok_weaker c.push_plain-in-Item.result (λ is. as-plain c.args.y.now c.args.most _ _ (printed_by c.args.y.now c.args.parts.now) _ _ is (type-item _ _ _ c.in-Item.ensures.0) (omega arith)) c.push_plain-in-Item.ensures.tasks

pub returns-in-Nothing-first_of-clause-grows : goal.returns-in-Nothing-first_of-clause-grows
returns-in-Nothing-first_of-clause-grows c =
    on_ok_weaker c.push_plain-in-Nothing-first_of.result (λ is. as-plain c.args.y.now c.args.most _ _ (printed_by c.args.y.now c.args.parts.now) _ _ is (type-text-nothing _ _ _ c.in-Text.ensures.0 c.in-Nothing-first_of.ensures) (omega arith)) c.push_plain-in-Nothing-first_of.ensures.tasks

pub returns-in-Text-first_of-clause-grows : goal.returns-in-Text-first_of-clause-grows
returns-in-Text-first_of-clause-grows c =
    on_ok_weaker c.push_plain-in-Text-first_of.result (λ is. as-plain c.args.y.now c.args.most _ _ (printed_by c.args.y.now c.args.parts.now) _ _ is (type-text-text _ _ _ _ _ c.in-Text.ensures.0 c.in-Text-first_of.ensures.0) (omega arith)) c.push_plain-in-Text-first_of.ensures.tasks

pub returns-in_ok-push_of_trait-in-Item-first_of-clause-grows : goal.returns-in_ok-push_of_trait-in-Item-first_of-clause-grows
unfolding ◌before◌
returns-in_ok-push_of_trait-in-Item-first_of-clause-grows c =
    on_ok_weaker c.push_after.result (λ is. grow-same c.args.y.now c.args.most _ _ _ _ _ _ (grow-then c.args.y.now c.args.most _ _ _ _ _ _ _ c.in_ok-push_of_trait-in-Item-first_of.ensures.grows (grow-after c.args.y.now c.args.most _ _ _ _ (bytes_of_part c.args.y.now c.in-Text.opening.now) (text_of (unshared_of c.args.y.now c.in-Item-first_of.self_type.now)) is)) (type-text-item _ _ _ _ _ c.in-Text.ensures.0 c.in-Item-first_of.ensures.0) (omega (arith, ap steps_of_parts c.in-Text.ensures.0, ap steps_of_parts c.in-Item-first_of.ensures.0))) c.push_after.ensures.tasks
