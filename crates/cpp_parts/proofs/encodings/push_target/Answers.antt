use Rattle.cpp_parts.proofs.Basics.{sym, ap, arith, on_ok_weaker, cost_of_parts, steps_of_parts, bytes_of_part, ◌before◌, words}
use Rattle.cpp_parts.proofs.Growing.{grow-same, grow-then, grow-encoding}
use Rattle.cpp_parts.proofs.Measuring.{length-of-text}
use Rattle.cpp_parts.proofs.Standing.{target-nothing, target-item, target-text-nothing, target-text-text, target-text-item}
use Rattle.cpp_parts.proofs.encodings.push_target.Goals as goal

pub returns-in-Nothing-clause-grows : goal.returns-in-Nothing-clause-grows
returns-in-Nothing-clause-grows c =
    on_ok_weaker c.push_special.result (λ g. grow-same c.args.y.now c.args.most _ _ _ _ _ _ g (target-nothing c.args.y.now _ _ _ c.in-Nothing.ensures) (omega arith)) c.push_special.ensures.grows

pub returns-in-Item-clause-grows : goal.returns-in-Item-clause-grows
returns-in-Item-clause-grows c =
    on_ok_weaker c.push_special-in-Item.result (λ g. grow-same c.args.y.now c.args.most _ _ _ _ _ _ g (target-item c.args.y.now _ _ _ _ _ c.in-Item.ensures.0) (omega arith)) c.push_special-in-Item.ensures.grows

pub returns-in-Nothing-first_of-clause-grows : goal.returns-in-Nothing-first_of-clause-grows
returns-in-Nothing-first_of-clause-grows c =
    on_ok_weaker c.push_special-in-Nothing-first_of.result (λ g. grow-same c.args.y.now c.args.most _ _ _ _ _ _ g (target-text-nothing c.args.y.now _ _ _ _ _ c.in-Text.ensures.0 c.in-Nothing-first_of.ensures) (omega arith)) c.push_special-in-Nothing-first_of.ensures.grows

pub returns-in-Text-first_of-clause-grows : goal.returns-in-Text-first_of-clause-grows
returns-in-Text-first_of-clause-grows c =
    on_ok_weaker c.push_special-in-Text-first_of.result (λ g. grow-same c.args.y.now c.args.most _ _ _ _ _ _ g (target-text-text c.args.y.now _ _ _ _ _ _ _ c.in-Text.ensures.0 c.in-Text-first_of.ensures.0) (omega arith)) c.push_special-in-Text-first_of.ensures.grows

pub returns-in_ok-push-in-Item-first_of-clause-grows : goal.returns-in_ok-push-in-Item-first_of-clause-grows
unfolding ◌before◌ words
returns-in_ok-push-in-Item-first_of-clause-grows c =
    on_ok_weaker c.push_words.result (λ g. grow-same c.args.y.now c.args.most _ _ _ _ _ _
    (grow-then c.args.y.now c.args.most _ _ _ _ _ _ _ (grow-then c.args.y.now c.args.most _ _ _ _ _ _ _ (c.in_ok-push_plain-in-Item-first_of.ensures.grows) (grow-encoding c.args.y.now c.args.most _ _ _ _ _ c.in_ok-push-in-Item-first_of.ensures.tasks c.requires.target c.in-Item-first_of.ensures.1 (omega (arith, c.requires.specials, ap cost_of_parts c.in-Text.ensures.0, ap cost_of_parts c.in-Item-first_of.ensures.0)))) (g (bytes_of_part c.args.y.now c.in-Text.text) (sym (length-of-text c.args.y.now _ _ c.in-Text.ensures.1 c.in_ok-count-in-Item-first_of.ensures.length))))
    (target-text-item c.args.y.now _ _ _ _ _ _ _ c.in-Text.ensures.0 c.in-Item-first_of.ensures.0)
    (omega (arith, ap steps_of_parts c.in-Text.ensures.0, ap steps_of_parts c.in-Item-first_of.ensures.0))) c.push_words.ensures.grows
