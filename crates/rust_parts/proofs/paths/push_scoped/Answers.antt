use Rattle.rust_parts.proofs.Basics.{on_ok_weaker, arith, refl, take, drop, text_of, ◌before◌, unshared_of, bytes_of_part, printed_by, length_of_text, length-of-text, cost-of-text, scoped}
use Rattle.rust_parts.proofs.Growing.{grow-same, grow-then, grow-skip, grow-begin, grow-scope}
use Rattle.rust_parts.proofs.Measuring.{length-base, length-scope}
use Rattle.rust_parts.proofs.Standing.{front-lengths}
use Rattle.rust_parts.proofs.paths.push_scoped.Goals as goal

pub length_of-requires-2-clause-paid : goal.length_of-requires-2-clause-paid
length_of-requires-2-clause-paid c =
    cost-of-text (unshared_of c.args.y.now) (bytes_of_part c.args.y.now) _ _ c.requires.is_text (omega (arith, c.requires.fits))

pub overflow_add-between : goal.overflow_add-between
overflow_add-between c =
    omega (arith, c.in_ok-length.ensures.length, length-of-text (unshared_of c.args.y.now) (bytes_of_part c.args.y.now) _ _ c.requires.is_text c.in_ok-between.ensures.length, length_of_text (printed_by c.args.y.now c.args.parts.now), c.requires.fits, c.ranges.most.fits)

pub returns-clause-grows : goal.returns-clause-grows
unfolding ◌before◌ scoped
returns-clause-grows c =
    let cut = front-lengths (bytes_of_part c.args.y.now c.args.colons.now) c.in_ok-between.between c.min-front.result (length-of-text (unshared_of c.args.y.now) (bytes_of_part c.args.y.now) _ _ c.requires.is_text c.in_ok-between.ensures.length) c.min-front.ensures in
    on_ok_weaker c.push-6.result (λ is. grow-same c.args.y.now c.args.most _ _ _ _ _ _ (grow-then c.args.y.now c.args.most _ _ _ _ _ _ _ (grow-then c.args.y.now c.args.most _ _ _ _ _ _ _ (grow-begin c.args.y.now c.args.most _ _ _ _ _ _ _ _ c.in_ok-push-3.ensures.tasks (length-base (drop 2 (bytes_of_part c.args.y.now c.args.colons.now)) (printed_by c.args.y.now c.args.parts.now) _ _ cut.1 c.in_ok-length.ensures.length) (grow-then c.args.y.now c.args.most _ _ _ _ _ _ _ (grow-skip c.args.y.now c.args.most _ _ _ (text_of (printed_by c.args.y.now c.args.parts.now)) c.in_ok-push.ensures.tasks c.in_ok-length.ensures.length) (grow-skip c.args.y.now c.args.most _ _ _ (drop 2 (bytes_of_part c.args.y.now c.args.colons.now)) c.in_ok-push-2.ensures.tasks cut.1))) (grow-skip c.args.y.now c.args.most _ _ _ (take 2 (bytes_of_part c.args.y.now c.args.colons.now)) c.in_ok-push-4.ensures.tasks cut.0)) (grow-begin c.args.y.now c.args.most _ _ _ _ _ _ _ _ is (length-scope _ _ _ _ c.in_ok-outer.ensures.length) (grow-scope c.args.y.now c.args.most _ _ _ _ _ c.in_ok-push-5.ensures.tasks c.requires.parent c.requires.inner c.requires.lists))) refl (omega arith)) c.push-6.ensures.tasks
