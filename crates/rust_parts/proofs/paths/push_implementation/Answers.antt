use Rattle.rust_parts.proofs.Basics.{on_ok_weaker, arith, refl}
use Rattle.rust_parts.proofs.Growing.{grow-same, grow-begin}
use Rattle.rust_parts.proofs.Measuring.{length-type}
use Rattle.rust_parts.proofs.paths.push_implementation.Goals as goal

pub returns-clause-grows : goal.returns-clause-grows
returns-clause-grows c =
    on_ok_weaker c.push.result (λ is. grow-same c.args.y.now c.args.most _ _ _ _ _ _ (grow-begin c.args.y.now c.args.most _ _ _ _ _ _ _ _ is (length-type _ _ c.in_ok-length.ensures.length) c.in_ok-push_of_type.ensures.grows) refl (omega arith)) c.push.ensures.tasks
