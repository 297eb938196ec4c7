use Rattle.cpp_parts.proofs.Basics.{arith, on_ok_weaker, length_of_text, unshared_of, ◌before◌}
use Rattle.cpp_parts.proofs.Growing.{grow-then, grow-skip, grow-begin}
use Rattle.cpp_parts.proofs.Measuring.{length-two}
use Rattle.cpp_parts.proofs.lists.push_lone.Goals as goal

pub overflow_add-before : goal.overflow_add-before
overflow_add-before c =
    omega (
      arith,
      c.in_ok-before.ensures.length,
      c.in_ok-after.ensures.length,
      length_of_text (unshared_of c.args.y.now c.args.left),
      length_of_text (unshared_of c.args.y.now c.args.right),
      c.requires.paid,
      c.ranges.most.fits,
    )

pub returns-clause-grows : goal.returns-clause-grows
unfolding ◌before◌
returns-clause-grows c =
    on_ok_weaker c.push-3.result
    (λ is. grow-begin c.args.y.now c.args.most _ _ _ _ _ _ _ _ is (length-two _ _ _ _ c.in_ok-before.ensures.length c.in_ok-after.ensures.length)
    (grow-then c.args.y.now c.args.most _ _ _ _ _ _ _
    (grow-skip c.args.y.now c.args.most _ _ _ _ c.in_ok-push.ensures.tasks c.in_ok-after.ensures.length)
    (grow-skip c.args.y.now c.args.most _ _ _ _ c.in_ok-push-2.ensures.tasks c.in_ok-before.ensures.length)))
    c.push-3.ensures.tasks
