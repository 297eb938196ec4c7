use Rattle.rust_parts.proofs.Basics.{sym, ap, arith, ◌∙◌, cost_of, printed_by, marked_of, IsApart, weight_of, first-task, other-tasks, fits-next, smaller, goes-on, ended}
use Rattle.rust_parts.proofs.Taking.{begins-symbol}
use Rattle.rust_parts.proofs.walk.stretches_as.Goals as goal

pub tasks-init : goal.tasks-init
tasks-init c =
    begins-symbol c.args.y.now c.args.limit c.new-tasks.result c.push_symbol.new.tasks c.new-found.result _ _ _ c.new-tasks.ensures c.new-found.ensures c.in_ok-push_symbol.ensures.grows (ap (printed_by c.args.y.now) c.deref.ensures.0 ∙ sym c.parts.ensures.parts ∙ c.root_as-root.ensures.shows) (omega (arith, c.in_ok-length_of_part.ensures.within, ap cost_of c.root_as-root.ensures.shows))

pub take-requires-clause-task : goal.take-requires-clause-task
take-requires-clause-task c =
    first-task (marked_of c.args.y.now) (IsApart c.args.y.now c.args.limit) (weight_of c.args.y.now) _ _ _ c.in-Some.ensures c.tasks.invariant.0

pub take-requires-clause-tasks : goal.take-requires-clause-tasks
take-requires-clause-tasks c =
    other-tasks (marked_of c.args.y.now) (IsApart c.args.y.now c.args.limit) (weight_of c.args.y.now) _ _ _ c.in-Some.ensures c.tasks.invariant.0

pub take-requires-clause-fits : goal.take-requires-clause-fits
take-requires-clause-fits c =
    omega (arith, fits-next (marked_of c.args.y.now) (IsApart c.args.y.now c.args.limit) (weight_of c.args.y.now) _ _ _ c.tasks.found.place c.args.limit c.in-Some.ensures c.tasks.invariant.2, c.ranges.limit.fits)

pub tasks-smaller : goal.tasks-smaller
tasks-smaller c =
    smaller (marked_of c.args.y.now) (IsApart c.args.y.now c.args.limit) (weight_of c.args.y.now) _ _ _ _ c.in-Some.ensures c.in_ok-take.ensures.weight

pub tasks-preserved : goal.tasks-preserved
tasks-preserved c =
    let next = goes-on (marked_of c.args.y.now) (IsApart c.args.y.now c.args.limit) (weight_of c.args.y.now) _ _ _ _ _ _ _ c.args.limit c.in-Some.ensures c.in_ok-take.ensures.lists c.tasks.invariant.1 c.tasks.invariant.2 in (c.in_ok-take.ensures.tasks, next.0, next.1)

pub returns-clause-stretches : goal.returns-clause-stretches
returns-clause-stretches c =
    c.into_list.ensures ∙ ended (marked_of c.args.y.now) (IsApart c.args.y.now c.args.limit) (weight_of c.args.y.now) _ _ _ c.in_default.ensures c.tasks.invariant.1
