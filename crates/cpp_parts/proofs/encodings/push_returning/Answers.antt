use Rattle.cpp_parts.proofs.Basics.{sym, ap, arith, on_ok_weaker, text_of, steps_of_parts, unshared_of, bytes_of_part, ◌before◌}
use Rattle.cpp_parts.proofs.Growing.{grow-same, grow-then, grow-skip}
use Rattle.cpp_parts.proofs.Measuring.{length-of-text}
use Rattle.cpp_parts.proofs.Standing.{returning-item-done, returning-item-item, returning-item-text}
use Rattle.cpp_parts.proofs.encodings.push_returning.Goals as goal

pub returns-in-Nothing-clause-grows : goal.returns-in-Nothing-clause-grows
returns-in-Nothing-clause-grows c =
    on_ok_weaker c.push_called.result (λ g. grow-same c.args.y.now c.args.most _ _ _ _ _ _ g (returning-item-done _ _ _ _ _ c.requires.is c.in-Nothing.ensures) (omega arith)) c.push_called.ensures.grows

pub returns-in-Item-clause-grows : goal.returns-in-Item-clause-grows
returns-in-Item-clause-grows c =
    on_ok_weaker c.push_called-in-Item.result (λ g. grow-same c.args.y.now c.args.most _ _ _ _ _ _ g (returning-item-item _ _ _ _ _ _ _ c.requires.is c.in-Item.ensures.0) (omega arith)) c.push_called-in-Item.ensures.grows

pub returns-in_ok-push-in-Text-clause-grows : goal.returns-in_ok-push-in-Text-clause-grows
unfolding ◌before◌
returns-in_ok-push-in-Text-clause-grows c =
    on_ok_weaker c.push_alone.result (λ g. grow-same c.args.y.now c.args.most _ _ _ _ _ _
    (grow-then c.args.y.now c.args.most _ _ _ _ _ _ _ (grow-then c.args.y.now c.args.most _ _ _ _ _ _ _ (c.in_ok-push_called-in-Text.ensures.grows) (grow-skip c.args.y.now c.args.most _ _ _ (bytes_of_part c.args.y.now c.in-Text.blank) c.in_ok-push-in-Text.ensures.tasks (length-of-text c.args.y.now _ _ c.in-Text.ensures.1 c.in_ok-between-in-Text.ensures.length))) (g (text_of (unshared_of c.args.y.now c.args.left)) (sym c.in_ok-before-in-Text.ensures.length)))
    (returning-item-text _ _ _ _ _ _ _ c.requires.is c.in-Text.ensures.0)
    (omega (arith, ap steps_of_parts c.requires.is, ap steps_of_parts c.in-Text.ensures.0))) c.push_alone.ensures.grows
