use Rattle.cpp_parts.proofs.Basics.{sym, on_ok_weaker, ◌before◌}
use Rattle.cpp_parts.proofs.Growing.{grow-then, grow-skip}
use Rattle.cpp_parts.proofs.lists.push_unlisted.Goals as goal

pub returns-clause-grows : goal.returns-clause-grows
unfolding ◌before◌
returns-clause-grows c =
    on_ok_weaker c.push.result
    (λ is b long. grow-then c.args.y.now c.args.most _ _ _ _ _ _ _ c.in_ok-push_plain.ensures.grows (grow-skip c.args.y.now c.args.most _ _ _ _ is (sym long)))
    c.push.ensures.tasks
