use Rattle.cpp_parts.proofs.Basics.{sym, refl, arith, on_ok_weaker, length_of_text, unshared_of, bytes_of_part, ◌before◌, in_brackets, count_of}
use Rattle.cpp_parts.proofs.Growing.{grow-same, grow-then, grow-skip, grow-begin, grow-elements}
use Rattle.cpp_parts.proofs.Measuring.{length-of-text, length-listed}
use Rattle.cpp_parts.proofs.lists.push_listed.Goals as goal

pub overflow_add-count : goal.overflow_add-count
overflow_add-count c =
    omega (arith, c.in_ok-inside.ensures.length, length_of_text (unshared_of c.args.y.now c.args.list), c.requires.fits, c.ranges.most.fits)

pub overflow_add-count-2 : goal.overflow_add-count-2
overflow_add-count-2 c =
    omega (arith, c.in_ok-inside.ensures.length, length-of-text c.args.y.now _ _ c.requires.is_text c.in_ok-closing.ensures.length, length_of_text (unshared_of c.args.y.now c.args.list), c.requires.fits, c.ranges.most.fits)

pub returns-clause-grows : goal.returns-clause-grows
unfolding ◌before◌ count_of in_brackets
returns-clause-grows c =
    on_ok_weaker c.push-4.result (λ is opening long. grow-same c.args.y.now c.args.most _ _ _ _ _ _
    (grow-then c.args.y.now c.args.most _ _ _ _ _ _ _ (c.in_ok-push_behind.ensures.grows) (grow-begin c.args.y.now c.args.most _ _ _ _ _ _ _ _ is (length-listed c.args.of_element _ _ opening _ _ _ _ _ long c.in_ok-inside.ensures.length (length-of-text c.args.y.now _ _ c.requires.is_text c.in_ok-closing.ensures.length)) (grow-then c.args.y.now c.args.most _ _ _ _ _ _ _ (grow-then c.args.y.now c.args.most _ _ _ _ _ _ _ (grow-skip c.args.y.now c.args.most _ _ _ (bytes_of_part c.args.y.now c.args.close) c.in_ok-push.ensures.tasks (length-of-text c.args.y.now _ _ c.requires.is_text c.in_ok-closing.ensures.length)) (grow-elements c.args.y.now c.args.most _ _ _ _ _ _ c.in_ok-push-2.ensures.tasks c.requires.node c.requires.list (omega (arith, c.requires.list.1)))) (grow-skip c.args.y.now c.args.most _ _ _ (opening) c.in_ok-push-3.ensures.tasks (sym long)))))
    (refl)
    (omega arith)) c.push-4.ensures.tasks
