use Rattle.rust_parts.proofs.Basics.{on_ok_weaker, sym, ap, arith, refl, subst, ◌++◌, marked_of, IsApart, weight_of, lists-skip, lists-begin, lists-same, Lists, IsTask, marks_of_task, marks_of_tasks, weight_of_task, skipped}
use Rattle.rust_parts.proofs.Taking.{took-later}
use Rattle.rust_parts.proofs.walk.take.Goals as goal

pub skip-requires : goal.skip-requires
unfolding marks_of_task skipped
skip-requires c =
    omega (arith, c.requires.fits, ap (λ t. skipped (marks_of_task (marked_of c.args.y.now) t)) c.in-Skip.is)

pub take_apart-requires : goal.take_apart-requires
unfolding IsTask
take_apart-requires c =
    subst (IsTask (IsApart c.args.y.now c.args.most)) c.in-Later.is c.requires.task

pub returns-in-Skip-clause-lists : goal.returns-in-Skip-clause-lists
returns-in-Skip-clause-lists c =
    subst (λ t. Lists c.args.found.now c.skip.new.self (marks_of_task (marked_of c.args.y.now) t ++ marks_of_tasks (marked_of c.args.y.now) c.args.tasks.now) (marks_of_tasks (marked_of c.args.y.now) c.args.tasks.now)) (sym c.in-Skip.is) (lists-skip (marked_of c.args.y.now) (IsApart c.args.y.now c.args.most) (weight_of c.args.y.now) c.args.found.now c.skip.new.self c.in-Skip.length (marks_of_tasks (marked_of c.args.y.now) c.args.tasks.now) c.skip.ensures.stretches c.skip.ensures.place)

pub returns-in-Skip-clause-weight : goal.returns-in-Skip-clause-weight
unfolding weight_of_task
returns-in-Skip-clause-weight c =
    omega (arith, ap (weight_of_task (weight_of c.args.y.now)) c.in-Skip.is)

pub returns-in-Begin-clause-lists : goal.returns-in-Begin-clause-lists
returns-in-Begin-clause-lists c =
    on_ok_weaker c.begin.result (λ p. subst (λ t. Lists c.args.found.now c.begin.new.self (marks_of_task (marked_of c.args.y.now) t ++ marks_of_tasks (marked_of c.args.y.now) c.args.tasks.now) (marks_of_tasks (marked_of c.args.y.now) c.args.tasks.now)) (sym c.in-Begin.is) (lists-begin (marked_of c.args.y.now) (IsApart c.args.y.now c.args.most) (weight_of c.args.y.now) c.args.found.now c.begin.new.self c.in-Begin.role c.in-Begin.ordinal c.in-Begin.length (marks_of_tasks (marked_of c.args.y.now) c.args.tasks.now) p c.begin.ensures.place)) c.begin.ensures.stretches

pub returns-in-Begin-clause-weight : goal.returns-in-Begin-clause-weight
unfolding weight_of_task
returns-in-Begin-clause-weight c =
    on_ok_weaker c.begin.result (λ p. omega (arith, ap (weight_of_task (weight_of c.args.y.now)) c.in-Begin.is)) c.begin.ensures.stretches

pub returns-in-Later-clause-tasks : goal.returns-in-Later-clause-tasks
returns-in-Later-clause-tasks c =
    on_ok_weaker c.take_apart.result (λ g. (took-later c.args.y.now c.args.most _ _ _ _ c.in-Later.is g).1 c.requires.tasks) c.take_apart.ensures.grows

pub returns-in-Later-clause-lists : goal.returns-in-Later-clause-lists
returns-in-Later-clause-lists c =
    on_ok_weaker c.take_apart.result (λ g. lists-same _ _ _ _ refl (took-later c.args.y.now c.args.most _ _ _ _ c.in-Later.is g).0) c.take_apart.ensures.grows

pub returns-in-Later-clause-weight : goal.returns-in-Later-clause-weight
returns-in-Later-clause-weight c =
    on_ok_weaker c.take_apart.result (λ g. (took-later c.args.y.now c.args.most _ _ _ _ c.in-Later.is g).2) c.take_apart.ensures.grows
