use Rattle.rust_parts.proofs.Basics.{on_ok_weaker, ap, arith, cost_of_parts, steps_of_parts}
use Rattle.rust_parts.proofs.Growing.{grow-same, grow-then, grow-name}
use Rattle.rust_parts.proofs.Standing.{name-crate, name-implementation, name-nested-nothing, name-nested-text, name-nested-item, name-generic-nothing, name-generic-text, name-generic-item, below-nested, below-generic}
use Rattle.rust_parts.proofs.paths.push_name.Goals as goal

pub returns-in-Crate-clause-grows : goal.returns-in-Crate-clause-grows
returns-in-Crate-clause-grows c =
    on_ok_weaker c.push_scope.result (λ g. grow-same c.args.y.now c.args.most _ _ _ _ _ _ g (name-crate c.args.y.now _ _ c.args.sort c.in-Crate.is) (omega arith)) c.push_scope.ensures.grows

pub returns-in-Implementation-clause-grows : goal.returns-in-Implementation-clause-grows
returns-in-Implementation-clause-grows c =
    on_ok_weaker c.push_scope-in-Implementation.result (λ g. grow-same c.args.y.now c.args.most _ _ _ _ _ _ g (name-implementation c.args.y.now _ _ c.args.sort c.in-Implementation.is) (omega arith)) c.push_scope-in-Implementation.ensures.grows

pub push_nested-requires-clause-parent : goal.push_nested-requires-clause-parent
push_nested-requires-clause-parent c =
    below-nested _ _ _ c.in-Nested.is c.requires.below

pub returns-in-Nothing-clause-grows : goal.returns-in-Nothing-clause-grows
returns-in-Nothing-clause-grows c =
    on_ok_weaker c.push_scope-in-Nothing.result (λ g. grow-same c.args.y.now c.args.most _ _ _ _ _ _ g (name-nested-nothing c.args.y.now _ _ c.args.sort _ c.in-Nested.is c.in-Nothing.ensures) (omega arith)) c.push_scope-in-Nothing.ensures.grows

pub returns-in-Text-clause-grows : goal.returns-in-Text-clause-grows
returns-in-Text-clause-grows c =
    on_ok_weaker c.push_scope-in-Text.result (λ g. grow-same c.args.y.now c.args.most _ _ _ _ _ _ g (name-nested-text c.args.y.now _ _ c.args.sort _ _ _ c.in-Nested.is c.in-Text.ensures.0) (omega arith)) c.push_scope-in-Text.ensures.grows

pub returns-in-Item-clause-grows : goal.returns-in-Item-clause-grows
returns-in-Item-clause-grows c =
    on_ok_weaker c.push_nested.result (λ g. grow-same c.args.y.now c.args.most _ _ _ _ _ _ g (name-nested-item c.args.y.now _ _ c.args.sort _ _ _ c.in-Nested.is c.in-Item.ensures.0) (omega (arith, ap steps_of_parts c.in-Item.ensures.0))) c.push_nested.ensures.grows

pub returns-in-Nothing-first_of-clause-grows : goal.returns-in-Nothing-first_of-clause-grows
returns-in-Nothing-first_of-clause-grows c =
    on_ok_weaker c.push_scope-in-Nothing-first_of.result (λ g. grow-same c.args.y.now c.args.most _ _ _ _ _ _ g (name-generic-nothing c.args.y.now _ _ c.args.sort _ c.in-Generic.is c.in-Nothing-first_of.ensures) (omega arith)) c.push_scope-in-Nothing-first_of.ensures.grows

pub returns-in-Text-first_of-clause-grows : goal.returns-in-Text-first_of-clause-grows
returns-in-Text-first_of-clause-grows c =
    on_ok_weaker c.push_scope-in-Text-first_of.result (λ g. grow-same c.args.y.now c.args.most _ _ _ _ _ _ g (name-generic-text c.args.y.now _ _ c.args.sort _ _ _ c.in-Generic.is c.in-Text-first_of.ensures.0) (omega arith)) c.push_scope-in-Text-first_of.ensures.grows

pub returns-in_ok-push_arguments-in-Item-first_of-clause-grows : goal.returns-in_ok-push_arguments-in-Item-first_of-clause-grows
returns-in_ok-push_arguments-in-Item-first_of-clause-grows c =
    on_ok_weaker c.push.result (λ is. grow-same c.args.y.now c.args.most _ _ _ _ _ _ (grow-then c.args.y.now c.args.most _ _ _ _ _ _ _ c.in_ok-push_arguments-in-Item-first_of.ensures.grows (grow-name c.args.y.now c.args.most _ _ _ _ _ is (below-generic _ _ _ c.in-Generic.is c.requires.below) c.in-Item-first_of.ensures.1 (omega (arith, c.requires.lists, ap cost_of_parts c.in-Item-first_of.ensures.0)))) (name-generic-item c.args.y.now _ _ c.args.sort _ _ _ c.in-Generic.is c.in-Item-first_of.ensures.0) (omega (arith, ap steps_of_parts c.in-Item-first_of.ensures.0))) c.push.ensures.tasks
