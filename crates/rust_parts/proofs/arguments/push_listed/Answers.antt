use Rattle.rust_parts.proofs.Basics.{on_ok_weaker, ap, arith, cost_of_parts, steps_of_parts, printed_by}
use Rattle.rust_parts.proofs.Growing.{grow-same, grow-then, grow-plain, as-plain, grow-elements}
use Rattle.rust_parts.proofs.Standing.{listed-nothing, listed-text, listed-item}
use Rattle.rust_parts.proofs.arguments.push_listed.Goals as goal

pub returns-in-Nothing-clause-grows : goal.returns-in-Nothing-clause-grows
returns-in-Nothing-clause-grows c =
    on_ok_weaker c.push_plain.result (λ is. as-plain c.args.y.now c.args.most _ _ (printed_by c.args.y.now c.args.parts.now) _ _ is (listed-nothing _ _ _ c.in-Nothing.ensures) (omega arith)) c.push_plain.ensures.tasks

pub returns-in-Text-clause-grows : goal.returns-in-Text-clause-grows
returns-in-Text-clause-grows c =
    on_ok_weaker c.push_plain-in-Text.result (λ is. as-plain c.args.y.now c.args.most _ _ (printed_by c.args.y.now c.args.parts.now) _ _ is (listed-text _ _ _ _ _ c.in-Text.ensures.0) (omega arith)) c.push_plain-in-Text.ensures.tasks

pub returns-in_ok-push_plain-in-Item-clause-grows : goal.returns-in_ok-push_plain-in-Item-clause-grows
returns-in_ok-push_plain-in-Item-clause-grows c =
    on_ok_weaker c.push.result (λ is. grow-same c.args.y.now c.args.most _ _ _ _ _ _ (grow-then c.args.y.now c.args.most _ _ _ _ _ _ _ (grow-plain c.args.y.now c.args.most _ _ (printed_by c.args.y.now c.in-Item.rest.now) c.in_ok-push_plain-in-Item.ensures.tasks) (grow-elements c.args.y.now c.args.most _ _ _ _ _ is c.in-Item.ensures.1 (omega (arith, c.requires.number, ap cost_of_parts c.in-Item.ensures.0)))) (listed-item _ _ _ _ _ c.in-Item.ensures.0) (omega (arith, ap steps_of_parts c.in-Item.ensures.0))) c.push.ensures.tasks
