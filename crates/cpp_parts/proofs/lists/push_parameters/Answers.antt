use Rattle.cpp_parts.proofs.Basics.{sym, ap, arith, on_ok_weaker, steps_of_parts, bytes_of_part}
use Rattle.cpp_parts.proofs.Growing.{grow-same}
use Rattle.cpp_parts.proofs.Measuring.{length-of-text}
use Rattle.cpp_parts.proofs.Standing.{params-nothing, params-item, params-text}
use Rattle.cpp_parts.proofs.lists.push_parameters.Goals as goal

pub returns-in-Nothing-clause-grows : goal.returns-in-Nothing-clause-grows
returns-in-Nothing-clause-grows c =
    on_ok_weaker c.push_plain.result (λ g. grow-same c.args.y.now c.args.most _ _ _ _ _ _ g (params-nothing _ _ c.in-Nothing.ensures) (omega arith)) c.push_plain.ensures.grows

pub returns-in-Item-clause-grows : goal.returns-in-Item-clause-grows
returns-in-Item-clause-grows c =
    on_ok_weaker c.push_plain-in-Item.result (λ g. grow-same c.args.y.now c.args.most _ _ _ _ _ _ g (params-item _ _ _ _ c.in-Item.ensures.0) (omega arith)) c.push_plain-in-Item.ensures.grows

pub returns-in_ok-count-in-Text-clause-grows : goal.returns-in_ok-count-in-Text-clause-grows
returns-in_ok-count-in-Text-clause-grows c =
    on_ok_weaker c.push_brackets.result (λ g. grow-same c.args.y.now c.args.most _ _ _ _ _ _
    (g (bytes_of_part c.args.y.now c.in-Text.opening) (sym (length-of-text c.args.y.now _ _ c.in-Text.ensures.1 c.in_ok-count-in-Text.ensures.length)))
    (params-text _ _ _ _ c.in-Text.ensures.0)
    (omega (arith, ap steps_of_parts c.in-Text.ensures.0))) c.push_brackets.ensures.grows
