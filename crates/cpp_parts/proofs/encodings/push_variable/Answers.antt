use Rattle.cpp_parts.proofs.Basics.{ap, arith, on_ok_weaker, steps_of_parts}
use Rattle.cpp_parts.proofs.Growing.{grow-same, grow-then, grow-name}
use Rattle.cpp_parts.proofs.Standing.{variable-nothing, variable-text, variable-item}
use Rattle.cpp_parts.proofs.encodings.push_variable.Goals as goal

pub returns-in-Nothing-clause-grows : goal.returns-in-Nothing-clause-grows
returns-in-Nothing-clause-grows c =
    on_ok_weaker c.push_special.result (λ g. grow-same c.args.y.now c.args.most _ _ _ _ _ _ g (variable-nothing c.args.y.now _ _ _ c.in-Nothing.ensures) (omega arith)) c.push_special.ensures.grows

pub returns-in-Text-clause-grows : goal.returns-in-Text-clause-grows
returns-in-Text-clause-grows c =
    on_ok_weaker c.push_special-in-Text.result (λ g. grow-same c.args.y.now c.args.most _ _ _ _ _ _ g (variable-text c.args.y.now _ _ _ _ _ c.in-Text.ensures.0) (omega arith)) c.push_special-in-Text.ensures.grows

pub returns-in_ok-push_behind-in-Item-clause-grows : goal.returns-in_ok-push_behind-in-Item-clause-grows
returns-in_ok-push_behind-in-Item-clause-grows c =
    on_ok_weaker c.push.result (λ is. grow-same c.args.y.now c.args.most _ _ _ _ _ _
    (grow-then c.args.y.now c.args.most _ _ _ _ _ _ _ (c.in_ok-push_behind-in-Item.ensures.grows) (grow-name c.args.y.now c.args.most _ _ _ _ _ is c.requires.name c.in-Item.ensures.1 (omega (arith, c.in-Item.ensures.1.1))))
    (variable-item c.args.y.now _ _ _ _ _ c.in-Item.ensures.0)
    (omega (arith, ap steps_of_parts c.in-Item.ensures.0))) c.push.ensures.tasks
