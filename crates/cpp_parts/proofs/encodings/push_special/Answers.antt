use Rattle.cpp_parts.proofs.Basics.{sym, ap, arith, on_ok_weaker, steps_of_parts, bytes_of_part, ◌before◌, words}
use Rattle.cpp_parts.proofs.Growing.{grow-same, grow-then}
use Rattle.cpp_parts.proofs.Measuring.{length-of-text}
use Rattle.cpp_parts.proofs.Standing.{special-nothing, special-item, special-text}
use Rattle.cpp_parts.proofs.encodings.push_special.Goals as goal

pub returns-in-Nothing-clause-grows : goal.returns-in-Nothing-clause-grows
returns-in-Nothing-clause-grows c =
    on_ok_weaker c.push_plain.result (λ g. grow-same c.args.y.now c.args.most _ _ _ _ _ _ g (special-nothing _ _ c.in-Nothing.ensures) (omega arith)) c.push_plain.ensures.grows

pub returns-in-Item-clause-grows : goal.returns-in-Item-clause-grows
returns-in-Item-clause-grows c =
    on_ok_weaker c.push_plain-in-Item.result (λ g. grow-same c.args.y.now c.args.most _ _ _ _ _ _ g (special-item _ _ _ _ c.in-Item.ensures.0) (omega arith)) c.push_plain-in-Item.ensures.grows

pub returns-in_ok-push_whole-in-Text-clause-grows : goal.returns-in_ok-push_whole-in-Text-clause-grows
unfolding ◌before◌ words
returns-in_ok-push_whole-in-Text-clause-grows c =
    on_ok_weaker c.push_words.result (λ g. grow-same c.args.y.now c.args.most _ _ _ _ _ _
    (grow-then c.args.y.now c.args.most _ _ _ _ _ _ _ (c.in_ok-push_whole-in-Text.ensures.grows) (g (bytes_of_part c.args.y.now c.in-Text.text) (sym (length-of-text c.args.y.now _ _ c.in-Text.ensures.1 c.in_ok-count-in-Text.ensures.length))))
    (special-text _ _ _ _ c.in-Text.ensures.0)
    (omega (arith, ap steps_of_parts c.in-Text.ensures.0))) c.push_words.ensures.grows
