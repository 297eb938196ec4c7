use Rattle.rust_parts.proofs.Basics.{on_ok_weaker, ap, arith, steps_of_parts, printed_by}
use Rattle.rust_parts.proofs.Growing.{grow-same, grow-then, grow-plain, grow-name}
use Rattle.rust_parts.proofs.Standing.{nested-text, nested-nothing, nested-item}
use Rattle.rust_parts.proofs.paths.push_nested.Goals as goal

pub returns-in-Text-clause-grows : goal.returns-in-Text-clause-grows
returns-in-Text-clause-grows c =
    on_ok_weaker c.push_scoped.result (λ g. grow-same c.args.y.now c.args.most _ _ _ _ _ _ g (nested-text c.args.y.now _ _ _ _ _ _ c.in-Text.ensures.0) (omega (arith, ap steps_of_parts c.in-Text.ensures.0))) c.push_scoped.ensures.grows

pub returns-in_ok-push_plain-in-Nothing-clause-grows : goal.returns-in_ok-push_plain-in-Nothing-clause-grows
returns-in_ok-push_plain-in-Nothing-clause-grows c =
    on_ok_weaker c.push.result (λ is. grow-same c.args.y.now c.args.most _ _ _ _ _ _ (grow-then c.args.y.now c.args.most _ _ _ _ _ _ _ (grow-plain c.args.y.now c.args.most _ _ (printed_by c.args.y.now c.args.rest.now) c.in_ok-push_plain-in-Nothing.ensures.tasks) (grow-name c.args.y.now c.args.most _ _ _ _ _ is c.requires.parent c.requires.inner c.requires.lists)) (nested-nothing c.args.y.now _ _ _ _ c.in-Nothing.ensures) (omega arith)) c.push.ensures.tasks

pub returns-in_ok-push_plain-in-Item-clause-grows : goal.returns-in_ok-push_plain-in-Item-clause-grows
returns-in_ok-push_plain-in-Item-clause-grows c =
    on_ok_weaker c.push-in-Item.result (λ is. grow-same c.args.y.now c.args.most _ _ _ _ _ _ (grow-then c.args.y.now c.args.most _ _ _ _ _ _ _ (grow-plain c.args.y.now c.args.most _ _ (printed_by c.args.y.now c.args.rest.now) c.in_ok-push_plain-in-Item.ensures.tasks) (grow-name c.args.y.now c.args.most _ _ _ _ _ is c.requires.parent c.requires.inner c.requires.lists)) (nested-item c.args.y.now _ _ _ _ _ _ c.in-Item.ensures.0) (omega arith)) c.push-in-Item.ensures.tasks
