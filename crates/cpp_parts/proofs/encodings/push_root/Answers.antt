use Rattle.cpp_parts.proofs.Basics.{ap, refl, arith, on_ok_weaker, steps_of_parts}
use Rattle.cpp_parts.proofs.Growing.{grow-same, grow-then, grow-encoding}
use Rattle.cpp_parts.proofs.Standing.{symbol-nothing, symbol-text, symbol-item}
use Rattle.cpp_parts.proofs.encodings.push_root.Goals as goal

pub returns-in-Nothing-clause-grows : goal.returns-in-Nothing-clause-grows
returns-in-Nothing-clause-grows c =
    on_ok_weaker c.push_plain.result (λ g. grow-same c.args.y.now c.args.most _ _ _ _ _ _ g (symbol-nothing _ _ _ _ c.requires.is.1 c.in-Nothing.ensures) (omega arith)) c.push_plain.ensures.grows

pub returns-in-Text-clause-grows : goal.returns-in-Text-clause-grows
returns-in-Text-clause-grows c =
    on_ok_weaker c.push_plain-in-Text.result (λ g. grow-same c.args.y.now c.args.most _ _ _ _ _ _ g (symbol-text _ _ _ _ _ _ c.requires.is.1 c.in-Text.ensures.0) (omega arith)) c.push_plain-in-Text.ensures.grows

pub returns-in_ok-push_suffixed-in-Item-clause-grows : goal.returns-in_ok-push_suffixed-in-Item-clause-grows
returns-in_ok-push_suffixed-in-Item-clause-grows c =
    on_ok_weaker c.push.result (λ is. grow-same c.args.y.now c.args.most _ _ _ _ _ _
    (grow-then c.args.y.now c.args.most _ _ _ _ _ _ _ (c.in_ok-push_suffixed-in-Item.ensures.grows) (grow-encoding c.args.y.now c.args.most _ _ _ _ _ is c.requires.inner c.in-Item.ensures.1 (omega (arith, c.in-Item.ensures.1.1))))
    (symbol-item _ _ _ _ _ _ _ c.requires.is.1 refl c.in-Item.ensures.0)
    (omega (arith, ap steps_of_parts c.in-Item.ensures.0))) c.push.ensures.tasks
