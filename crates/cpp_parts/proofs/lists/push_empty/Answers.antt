use Rattle.cpp_parts.proofs.Basics.{sym, refl, arith, on_ok_weaker, bytes_of_part, ◌before◌, in_brackets}
use Rattle.cpp_parts.proofs.Growing.{grow-same, grow-then, grow-skip, grow-begin}
use Rattle.cpp_parts.proofs.Measuring.{length-of-text, length-two}
use Rattle.cpp_parts.proofs.lists.push_empty.Goals as goal

pub returns-clause-grows : goal.returns-clause-grows
unfolding ◌before◌ in_brackets
returns-clause-grows c =
    on_ok_weaker c.push-3.result (λ is opening long. grow-same c.args.y.now c.args.most _ _ _ _ _ _
    (grow-then c.args.y.now c.args.most _ _ _ _ _ _ _ (c.in_ok-push_behind.ensures.grows) (grow-begin c.args.y.now c.args.most _ _ _ _ _ _ _ _ is (length-two opening _ _ _ (sym long) (length-of-text c.args.y.now _ _ c.requires.is_text c.in_ok-closing.ensures.length)) (grow-then c.args.y.now c.args.most _ _ _ _ _ _ _ (grow-skip c.args.y.now c.args.most _ _ _ (bytes_of_part c.args.y.now c.args.close) c.in_ok-push.ensures.tasks (length-of-text c.args.y.now _ _ c.requires.is_text c.in_ok-closing.ensures.length)) (grow-skip c.args.y.now c.args.most _ _ _ (opening) c.in_ok-push-2.ensures.tasks (sym long)))))
    (refl)
    (omega arith)) c.push-3.ensures.tasks
