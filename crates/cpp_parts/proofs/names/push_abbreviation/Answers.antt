use Rattle.cpp_parts.proofs.Basics.{sym, arith, take, drop, on_ok_weaker, text_of, length_of_text, bytes_of_part, ◌before◌, abbreviated, printed_by}
use Rattle.cpp_parts.proofs.Growing.{grow-then, grow-skip, grow-begin}
use Rattle.cpp_parts.proofs.Measuring.{length-of-text, length-base}
use Rattle.cpp_parts.proofs.Standing.{abbreviation-lengths}
use Rattle.cpp_parts.proofs.names.push_abbreviation.Goals as goal

pub overflow_add-back : goal.overflow_add-back
overflow_add-back c =
    omega (arith, c.in_ok-inner.ensures.length, length-of-text c.args.y.now _ _ c.requires.is_text c.in_ok-length.ensures.length, length_of_text (printed_by c.args.y.now c.args.parts.now), c.requires.fits, c.ranges.most.fits)

pub returns-clause-grows : goal.returns-clause-grows
unfolding ◌before◌ abbreviated
returns-clause-grows c =
    let cut = abbreviation-lengths (bytes_of_part c.args.y.now c.args.text) c.in_ok-length.length c.min-front.result c.min-between.result (length-of-text c.args.y.now _ _ c.requires.is_text c.in_ok-length.ensures.length) c.min-front.ensures c.min-between.ensures in
    on_ok_weaker c.push_alone.result (λ g. grow-then c.args.y.now c.args.most _ _ _ _ _ _ _ (grow-then c.args.y.now c.args.most _ _ _ _ _ _ _ (grow-begin c.args.y.now c.args.most _ _ _ _ _ _ _ _ c.in_ok-push-3.ensures.tasks (length-base (drop 2 (drop 3 (bytes_of_part c.args.y.now c.args.text))) (printed_by c.args.y.now c.args.parts.now) _ _ cut.2 c.in_ok-inner.ensures.length) (grow-then c.args.y.now c.args.most _ _ _ _ _ _ _ (grow-skip c.args.y.now c.args.most _ _ _ (text_of (printed_by c.args.y.now c.args.parts.now)) c.in_ok-push.ensures.tasks (c.in_ok-inner.ensures.length)) (grow-skip c.args.y.now c.args.most _ _ _ (drop 2 (drop 3 (bytes_of_part c.args.y.now c.args.text))) c.in_ok-push-2.ensures.tasks (cut.2)))) (grow-skip c.args.y.now c.args.most _ _ _ (take 2 (drop 3 (bytes_of_part c.args.y.now c.args.text))) c.in_ok-push-4.ensures.tasks (cut.1))) (g (take 3 (bytes_of_part c.args.y.now c.args.text)) (sym cut.0))) c.push_alone.ensures.grows
