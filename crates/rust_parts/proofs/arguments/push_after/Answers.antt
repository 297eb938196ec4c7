use Rattle.rust_parts.proofs.Basics.{on_ok_weaker, unshared_of, bytes_of_part, length-of-text, cost-of-text}
use Rattle.rust_parts.proofs.Growing.{after-tasks}
use Rattle.rust_parts.proofs.arguments.push_after.Goals as goal

pub length_of-requires-clause-paid : goal.length_of-requires-clause-paid
length_of-requires-clause-paid c =
    cost-of-text (unshared_of c.args.y.now) (bytes_of_part c.args.y.now) _ _ c.requires.is_text c.requires.fits

pub returns-clause-tasks : goal.returns-clause-tasks
returns-clause-tasks c =
    on_ok_weaker c.push.result (λ is. after-tasks _ _ _ c.args.role c.args.ordinal _ _ _ _ is c.in_ok-push_alone.ensures.tasks (length-of-text (unshared_of c.args.y.now) (bytes_of_part c.args.y.now) _ _ c.requires.is_text c.in_ok-front.ensures.length) c.in_ok-length.ensures.length) c.push.ensures.tasks
