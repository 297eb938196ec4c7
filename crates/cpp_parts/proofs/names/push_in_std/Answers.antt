use Rattle.cpp_parts.proofs.Basics.{sym, take, drop, on_ok_weaker, bytes_of_part, ◌before◌, in_std}
use Rattle.cpp_parts.proofs.Growing.{grow-then, grow-skip}
use Rattle.cpp_parts.proofs.Measuring.{length-of-text}
use Rattle.cpp_parts.proofs.Standing.{front-lengths}
use Rattle.cpp_parts.proofs.names.push_in_std.Goals as goal

pub returns-clause-grows : goal.returns-clause-grows
unfolding ◌before◌ in_std
returns-clause-grows c =
    let cut = front-lengths 3 (bytes_of_part c.args.y.now c.args.std) c.in_ok-length.length c.min-front.result (length-of-text c.args.y.now _ _ c.requires.is_text c.in_ok-length.ensures.length) c.min-front.ensures in
    on_ok_weaker c.push_alone.result (λ g. grow-then c.args.y.now c.args.most _ _ _ _ _ _ _ (grow-then c.args.y.now c.args.most _ _ _ _ _ _ _ (c.in_ok-push_whole.ensures.grows) (grow-skip c.args.y.now c.args.most _ _ _ (drop 3 (bytes_of_part c.args.y.now c.args.std)) c.in_ok-push.ensures.tasks (cut.1))) (g (take 3 (bytes_of_part c.args.y.now c.args.std)) (sym cut.0))) c.push_alone.ensures.grows
