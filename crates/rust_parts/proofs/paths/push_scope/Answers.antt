use Rattle.rust_parts.proofs.Basics.{on_ok_weaker, ap, arith, cost_of_parts, steps_of_parts, printed_by}
use Rattle.rust_parts.proofs.Growing.{grow-same, grow-then, grow-plain, grow-whole, grow-scope}
use Rattle.rust_parts.proofs.Standing.{scope-crate, scope-implementation, scope-nested-nothing, scope-nested-text, scope-nested-item, scope-generic-nothing, scope-generic-text, scope-generic-item, below-nested, below-generic}
use Rattle.rust_parts.proofs.paths.push_scope.Goals as goal

pub returns-in-Crate-clause-grows : goal.returns-in-Crate-clause-grows
returns-in-Crate-clause-grows c =
    on_ok_weaker c.push_whole.result (λ is. grow-same c.args.y.now c.args.most _ _ _ _ _ _ (grow-whole c.args.y.now c.args.most _ _ _ _ (printed_by c.args.y.now c.args.parts.now) is) (scope-crate c.args.y.now _ _ c.args.sort c.in-Crate.is) (omega arith)) c.push_whole.ensures.tasks

pub returns-in-Implementation-clause-grows : goal.returns-in-Implementation-clause-grows
returns-in-Implementation-clause-grows c =
    on_ok_weaker c.push_implementation.result (λ g. grow-same c.args.y.now c.args.most _ _ _ _ _ _ g (scope-implementation c.args.y.now _ _ c.args.sort c.in-Implementation.is) (omega arith)) c.push_implementation.ensures.grows

pub returns-in-Nothing-clause-grows : goal.returns-in-Nothing-clause-grows
returns-in-Nothing-clause-grows c =
    on_ok_weaker c.push_implementation-in-Nothing.result (λ g. grow-same c.args.y.now c.args.most _ _ _ _ _ _ g (scope-nested-nothing c.args.y.now _ _ c.args.sort _ c.in-Nested.is c.in-Nothing.ensures) (omega arith)) c.push_implementation-in-Nothing.ensures.grows

pub returns-in-Text-clause-grows : goal.returns-in-Text-clause-grows
returns-in-Text-clause-grows c =
    on_ok_weaker c.push_implementation-in-Text.result (λ g. grow-same c.args.y.now c.args.most _ _ _ _ _ _ g (scope-nested-text c.args.y.now _ _ c.args.sort _ _ _ c.in-Nested.is c.in-Text.ensures.0) (omega arith)) c.push_implementation-in-Text.ensures.grows

pub returns-in_ok-push_plain-in-Item-clause-grows : goal.returns-in_ok-push_plain-in-Item-clause-grows
returns-in_ok-push_plain-in-Item-clause-grows c =
    on_ok_weaker c.push.result (λ is. grow-same c.args.y.now c.args.most _ _ _ _ _ _ (grow-then c.args.y.now c.args.most _ _ _ _ _ _ _ (grow-plain c.args.y.now c.args.most _ _ (printed_by c.args.y.now c.in-Item.rest.now) c.in_ok-push_plain-in-Item.ensures.tasks) (grow-scope c.args.y.now c.args.most _ _ _ _ _ is (below-nested _ _ _ c.in-Nested.is c.requires.below) c.in-Item.ensures.1 (omega (arith, c.requires.lists, ap cost_of_parts c.in-Item.ensures.0)))) (scope-nested-item c.args.y.now _ _ c.args.sort _ _ _ c.in-Nested.is c.in-Item.ensures.0) (omega (arith, ap steps_of_parts c.in-Item.ensures.0))) c.push.ensures.tasks

pub returns-in-Nothing-first_of-clause-grows : goal.returns-in-Nothing-first_of-clause-grows
returns-in-Nothing-first_of-clause-grows c =
    on_ok_weaker c.push_implementation-in-Nothing-first_of.result (λ g. grow-same c.args.y.now c.args.most _ _ _ _ _ _ g (scope-generic-nothing c.args.y.now _ _ c.args.sort _ c.in-Generic.is c.in-Nothing-first_of.ensures) (omega arith)) c.push_implementation-in-Nothing-first_of.ensures.grows

pub returns-in-Text-first_of-clause-grows : goal.returns-in-Text-first_of-clause-grows
returns-in-Text-first_of-clause-grows c =
    on_ok_weaker c.push_implementation-in-Text-first_of.result (λ g. grow-same c.args.y.now c.args.most _ _ _ _ _ _ g (scope-generic-text c.args.y.now _ _ c.args.sort _ _ _ c.in-Generic.is c.in-Text-first_of.ensures.0) (omega arith)) c.push_implementation-in-Text-first_of.ensures.grows

pub returns-in_ok-push_arguments-in-Item-first_of-clause-grows : goal.returns-in_ok-push_arguments-in-Item-first_of-clause-grows
returns-in_ok-push_arguments-in-Item-first_of-clause-grows c =
    on_ok_weaker c.push-in-Item-first_of.result (λ is. grow-same c.args.y.now c.args.most _ _ _ _ _ _ (grow-then c.args.y.now c.args.most _ _ _ _ _ _ _ c.in_ok-push_arguments-in-Item-first_of.ensures.grows (grow-scope c.args.y.now c.args.most _ _ _ _ _ is (below-generic _ _ _ c.in-Generic.is c.requires.below) c.in-Item-first_of.ensures.1 (omega (arith, c.requires.lists, ap cost_of_parts c.in-Item-first_of.ensures.0)))) (scope-generic-item c.args.y.now _ _ c.args.sort _ _ _ c.in-Generic.is c.in-Item-first_of.ensures.0) (omega (arith, ap steps_of_parts c.in-Item-first_of.ensures.0))) c.push-in-Item-first_of.ensures.tasks
