use Rattle.cpp_parts.proofs.Basics.{take, drop, length, ◌-◌, on_ok_weaker, ◌before◌, words}
use Rattle.cpp_parts.proofs.Growing.{grow-then, grow-skip}
use Rattle.cpp_parts.proofs.Standing.{last-lengths}
use Rattle.cpp_parts.proofs.plain.push_words.Goals as goal

pub returns-clause-grows : goal.returns-clause-grows
unfolding words ◌before◌
returns-clause-grows c =
    on_ok_weaker c.push_alone.result
    (λ g b long.
    let cut = last-lengths b c.args.count c.min-blank.result long c.min-blank.ensures in
    grow-then c.args.y.now c.args.most _ _ _ _ _ _ _ (grow-skip c.args.y.now c.args.most _ _ _ (drop (length b - 1) b) c.in_ok-push.ensures.tasks cut.0) (g (take (length b - 1) b) cut.1))
    c.push_alone.ensures.grows
