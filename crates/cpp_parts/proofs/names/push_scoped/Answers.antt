use Rattle.cpp_parts.proofs.Basics.{sym, arith, take, drop, on_ok_weaker, text_of, length_of_text, unshared_of, bytes_of_part, ◌before◌, scoped, printed_by}
use Rattle.cpp_parts.proofs.Growing.{grow-then, grow-skip, grow-begin}
use Rattle.cpp_parts.proofs.Measuring.{length-of-text, length-base}
use Rattle.cpp_parts.proofs.Standing.{front-lengths}
use Rattle.cpp_parts.proofs.names.push_scoped.Goals as goal

pub overflow_add-between : goal.overflow_add-between
overflow_add-between c =
    omega (arith, c.in_ok-inner.ensures.length, length-of-text c.args.y.now _ _ c.requires.is_text c.in_ok-between.ensures.length, length_of_text (printed_by c.args.y.now c.args.parts.now), c.requires.fits, c.ranges.most.fits)

pub returns-clause-grows : goal.returns-clause-grows
unfolding ◌before◌ scoped
returns-clause-grows c =
    let cut = front-lengths 2 (bytes_of_part c.args.y.now c.args.colons) c.in_ok-between.between c.min-front.result (length-of-text c.args.y.now _ _ c.requires.is_text c.in_ok-between.ensures.length) c.min-front.ensures in
    on_ok_weaker c.push_alone.result (λ g. grow-then c.args.y.now c.args.most _ _ _ _ _ _ _ (grow-then c.args.y.now c.args.most _ _ _ _ _ _ _ (grow-begin c.args.y.now c.args.most _ _ _ _ _ _ _ _ c.in_ok-push-3.ensures.tasks (length-base (drop 2 (bytes_of_part c.args.y.now c.args.colons)) (printed_by c.args.y.now c.args.parts.now) _ _ cut.1 c.in_ok-inner.ensures.length) (grow-then c.args.y.now c.args.most _ _ _ _ _ _ _ (grow-skip c.args.y.now c.args.most _ _ _ (text_of (printed_by c.args.y.now c.args.parts.now)) c.in_ok-push.ensures.tasks (c.in_ok-inner.ensures.length)) (grow-skip c.args.y.now c.args.most _ _ _ (drop 2 (bytes_of_part c.args.y.now c.args.colons)) c.in_ok-push-2.ensures.tasks (cut.1)))) (grow-skip c.args.y.now c.args.most _ _ _ (take 2 (bytes_of_part c.args.y.now c.args.colons)) c.in_ok-push-4.ensures.tasks (cut.0))) (g (text_of (unshared_of c.args.y.now c.args.scope)) (sym c.in_ok-outer.ensures.length))) c.push_alone.ensures.grows
