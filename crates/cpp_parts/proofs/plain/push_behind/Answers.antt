use Rattle.cpp_parts.proofs.Basics.{◌before◌, bytes_of_part, arith, ap, sym, on_ok_weaker, steps_of_parts}
use Rattle.cpp_parts.proofs.Growing.{grow-same, grow-then}
use Rattle.cpp_parts.proofs.Measuring.{length-of-text}
use Rattle.cpp_parts.proofs.Standing.{behind-nothing, behind-item, behind-text}
use Rattle.cpp_parts.proofs.plain.push_behind.Goals as goal

pub returns-in-Nothing-clause-grows : goal.returns-in-Nothing-clause-grows
returns-in-Nothing-clause-grows c =
    on_ok_weaker c.push_returned.result (λ g. grow-same c.args.y.now c.args.most _ _ _ _ _ _ g (behind-nothing _ c.in-Nothing.ensures) (omega arith)) c.push_returned.ensures.grows

pub returns-in-Item-clause-grows : goal.returns-in-Item-clause-grows
returns-in-Item-clause-grows c =
    on_ok_weaker c.push_returned-in-Item.result (λ g. grow-same c.args.y.now c.args.most _ _ _ _ _ _ g (behind-item _ _ _ c.in-Item.ensures.0) (omega arith)) c.push_returned-in-Item.ensures.grows

pub returns-in_ok-length-in-Text-clause-grows : goal.returns-in_ok-length-in-Text-clause-grows
unfolding ◌before◌
returns-in_ok-length-in-Text-clause-grows c =
    on_ok_weaker c.push_alone.result
    (λ g. grow-same c.args.y.now c.args.most _ _ _ _ _ _
    (grow-then c.args.y.now c.args.most _ _ _ _ _ _ _ c.in_ok-push_returned-in-Text.ensures.grows (g (bytes_of_part c.args.y.now c.in-Text.text) (sym (length-of-text c.args.y.now _ _ c.in-Text.ensures.1 c.in_ok-length-in-Text.ensures.length))))
    (behind-text _ _ _ c.in-Text.ensures.0) (omega (arith, ap steps_of_parts c.in-Text.ensures.0)))
    c.push_alone.ensures.grows
